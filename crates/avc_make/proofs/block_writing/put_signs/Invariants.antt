use Rattle.avc_make.proofs.Slices.{◌≡◌, ◌++◌, drop, false, sign_bits, values_of}
use Rattle.avc_make.proofs.block_writing.put_signs.Given as goal

-- what was put and the signs that are left are all
abbrev pub invariant-ones : goal.invariant-ones
invariant-ones l = record {
  going : l.maker.failed ≡ false;
  put : l.maker.bits ++ drop l.k (sign_bits l.ones (values_of l.found)) ≡ l.fn.maker.bits ++ sign_bits l.ones (values_of l.found);
}

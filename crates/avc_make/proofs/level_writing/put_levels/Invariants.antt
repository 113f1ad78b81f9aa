use Rattle.avc_make.proofs.Slices.{◌≡◌, ◌≤◌, ◌++◌, drop, length, false, IsTrue, nat_lt, AreCodes, first_length, levels_bits, values_of}
use Rattle.avc_make.proofs.level_writing.put_levels.Given as goal

-- what was put and the levels that are left are all
abbrev pub invariant-levels : goal.invariant-levels
invariant-levels l = record {
  going : l.maker.failed ≡ false;
  put : l.maker.bits ++ levels_bits l.suffix_length l.above_one (drop l.k (values_of l.found))
      ≡ l.fn.maker.bits ++ levels_bits (first_length (length l.found) l.ones) (nat_lt l.ones 3) (drop l.ones (values_of l.found));
  codes : AreCodes l.suffix_length l.above_one (drop l.k (values_of l.found));
  few : l.suffix_length ≤ 6;
  first : IsTrue l.above_one → l.suffix_length ≤ 1;
}

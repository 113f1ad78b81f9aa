use Rattle.avc_make.proofs.Slices.{◌≡◌, ◌++◌, ◌-◌, take, false, bits_before_stop, reader_bits}
use Rattle.avc_make.proofs.cut.put_first.Given as goal

-- what was put and what is left to put are all
abbrev pub invariant-bits : goal.invariant-bits
invariant-bits l = record {
  going : l.maker.failed ≡ false;
  sum : l.maker.bits ++ take (l.n - l.counter) (reader_bits l.reader).ahead ≡ l.fn.maker.bits ++ take l.n (bits_before_stop l.rbsp);
}

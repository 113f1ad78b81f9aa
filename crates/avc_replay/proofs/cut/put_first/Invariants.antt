use Rattle.std.proofs.Common.{◌≡◌, ◌++◌, ◌-◌, take, false}
use Rattle.avc_bits.specs.Bits.{bits_before_stop}
use Rattle.avc_bits.specs.Reader.{reader_bits}
use Rattle.avc_replay.proofs.cut.put_first.Given as goal

-- what was put and what is left to put are all
abbrev pub invariant-bits : goal.invariant-bits
invariant-bits l = record {
  going : l.maker.failed ≡ false;
  sum : l.maker.bits ++ take (l.count - l.counter) (reader_bits l.reader).ahead ≡ l.fn.maker.bits ++ take l.count (bits_before_stop l.rbsp);
}

use Rattle.std.proofs.Common.{◌≡◌, ◌+◌, ◌-◌, suc, ap, append_assoc, arith}
use Rattle.avc_bits.specs.Reader.{reader_bits}
use Rattle.avc_replay.proofs.CutUnits.{bit_read}
use Rattle.avc_replay.proofs.cut.put_first.Goals as goal

pub bits-preserved : goal.bits-preserved
bits-preserved c =
    let less : c.args.count - c.bits.counter ≡ suc (c.args.count - (c.bits.counter + 1)) = omega arith in
    let first = bit_read (reader_bits c.bits.reader) (reader_bits c.flag.new.self) c.in-Ok.bit c.in-Ok.ensures.read.0 in
    record {
      going = ap (λ m. m.failed) c.in_ok-flag.ensures.1;
      sum = rw (c.in_ok-flag.ensures.1, append_assoc) (rw (first, less) at c.bits.invariant.sum);
    }

use Rattle.avc_rbsp.proofs.Reading.{arith, set_bit}
use Rattle.avc_rbsp.proofs.maker.with_bit.Goals as goal

pub returns-then-bit : goal.returns-then-bit
returns-then-bit c = λ front is. rw c.if-bit.true (set_bit c.args.byte c.args.place front (omega (arith, c.ranges.byte.fits)) c.requires is)

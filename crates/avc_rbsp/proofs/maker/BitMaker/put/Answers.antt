use Rattle.avc_rbsp.proofs.Reading.{◌≡◌, ◌-◌, suc, ap, append_assoc, arith}
use Rattle.avc_rbsp.proofs.maker.BitMaker.put.Goals as goal

pub loop-left-preserved : goal.loop-left-preserved
loop-left-preserved c =
    let one = c.in_ok-flag.ensures.1 in
    let next : c.loop-left.left ≡ suc (c.loop-left.left - 1) = omega (arith, c.loop-left-test.true) in
    record {
      going = ap (λ v. v.failed) one;
      started = c.loop-left.invariant.started;
      sum = rw (one, append_assoc, c.bit_at.ensures) (rw next at c.loop-left.invariant.sum);
      few = omega (arith, c.loop-left.invariant.few);
    }

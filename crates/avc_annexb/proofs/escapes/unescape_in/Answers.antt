use Rattle.avc_annexb.proofs.Written.{◌+◌, ◌-◌, ◌<◌, arith, length, take, drop, get_or, eqb-true, eq-eqb, take_rest, length-drop, HasNoZero}
use Rattle.avc_annexb.proofs.Written.{resumed_more, resumed-last, free_before, few_after}
use Rattle.avc_annexb.proofs.escapes.unescape_in.Goals as goal

pub loop-len-preserved : goal.loop-len-preserved
loop-len-preserved c =
    let body = c.args.body.now in
    let place = c.loop-len.place in
    let len = c.in-Some.len in
    let first = rw (take_rest body place) at c.in-Some.ensures in
    let within : place + len < length body = omega (arith, first.0.high, length-drop place body) in
    let free = free_before (drop place body) (place + len - place) len first.0.before (omega arith) in
    record {
      sum =
          rw (c.in_ok-push.ensures.items, c.in_ok-extend_from_slice.ensures.items, c.without_escape.ensures, c.one_more-zeros.ensures)
          (resumed_more c.loop-len.raw.items body c.loop-len.zeros place len c.loop-len.invariant.few within (eqb-true _ 0 first.1) free c.loop-len.invariant.sum);
      few = rw c.one_more-zeros.ensures (few_after c.loop-len.zeros (take (place + len - place) (drop place body)));
      within = omega arith;
    }

pub returns : goal.returns
returns c =
    let body = c.args.body.now in
    let place = c.loop-len.place in
    let none = rw (take_rest body place) at c.in_default.ensures in
    let free : HasNoZero (drop place body) = λ k within is. none k (omega arith) within (eq-eqb (get_or (drop place body) k 0) 0 is) in
    rw (c.in_ok-extend_from_slice-2.ensures.items, c.without_escape-2.ensures, take_rest body place, ← resumed-last c.loop-len.zeros (drop place body) c.loop-len.invariant.few free) c.loop-len.invariant.sum

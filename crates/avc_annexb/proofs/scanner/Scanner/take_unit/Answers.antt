use Rattle.avc_annexb.proofs.Written.{◌<◌, length, arith, drop, take_rest, length-drop, scanned_on}
use Rattle.avc_annexb.proofs.scanner.Scanner.take_unit.Goals as goal

pub loop-place-preserved : goal.loop-place-preserved
loop-place-preserved g c =
    let piece = c.args.piece.now in
    let place = c.loop-place.place in
    let t = rw (take_rest piece place) at c.in_ok-place.ensures.ok in
    let left : 0 < length (drop place piece) = omega (arith, length-drop place piece, c.loop-place-test.true) in
    let waits = c.if-len-waiting.true in
    record {
      scans = λ bytes s. rw (← scanned_on bytes piece place c.in_ok-place.field-0) (t.scans _ (c.loop-place.invariant.scans bytes s));
      given = (cc);
      within = omega (arith, length-drop place piece, t.within);
      few = record {
        no_fewer = omega (arith, t.few.no_fewer, waits, c.len.ensures, c.loop-place.invariant.waiting);
        no_more = omega (arith, t.few.no_more, waits, c.len.ensures, c.loop-place.invariant.waiting);
      };
      begun = λ none. omega (arith, none, t.some left);
      waiting = c.loop-place.invariant.waiting;
    }

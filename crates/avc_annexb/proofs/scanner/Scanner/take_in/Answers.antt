use Rattle.avc_annexb.proofs.Written.{arith, take_rest, length-drop, scanned_on}
use Rattle.avc_annexb.proofs.scanner.Scanner.take_in.Goals as goal

pub loop-place-preserved : goal.loop-place-preserved
loop-place-preserved g c =
    let piece = c.args.piece.now in
    let place = c.loop-place.place in
    let t = rw (take_rest piece place) at c.in_ok-place.ensures.ok in
    record {
      scans = λ bytes s. rw (← scanned_on bytes piece place c.in_ok-place.field-0) (t.scans _ (c.loop-place.invariant.scans bytes s));
      given = (cc);
      within = omega (arith, length-drop place piece, t.within);
    }

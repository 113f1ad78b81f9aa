use Rattle.avc_marking.proofs.KeptFrames.{◌≡◌, ◌≤◌, length, take, filter, is_some}
use Rattle.avc_marking.proofs.window.count.Given as goal

abbrev pub invariant-loop-frame : goal.invariant-loop-frame
invariant-loop-frame l = record {
  few : l.count ≤ l.frame-index;
  exact : l.count ≡ length (filter (λ frame. is_some frame.mark) (take l.frame-index l.frames));
}

use Rattle.avc_picture.proofs.Slices.{◌≡◌, length, map, take, marked_frame}
use Rattle.avc_picture.proofs.reference_places.marked_frames.Given as goal

abbrev pub invariant-loop-frame : goal.invariant-loop-frame
invariant-loop-frame g l = record {
  count : length l.marked.items ≡ l.frame-index;
  items : l.marked.items ≡ map marked_frame (take l.frame-index l.frames);
}

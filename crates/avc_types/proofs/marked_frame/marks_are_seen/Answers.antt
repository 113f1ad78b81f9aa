use Rattle.avc_types.proofs.Frames.{seen-at}
use Rattle.avc_types.proofs.marked_frame.marks_are_seen.Goals as goal

pub returns : goal.returns
returns c = seen-at

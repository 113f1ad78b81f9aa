-- Stored frames as pictures that go out, and as reference frames.
use Rattle.std.specs.Prelude.{ℕ, Bool, Option, is_some}
use Rattle.std.specs.Option.{option_map}
use Rattle.avc_types.specs.declared.picture.Picture.{Picture}
use Rattle.avc_plane.specs.declared.frame.Frame.{Frame}
use Rattle.avc_plane.specs.Shown.{picture_of}

-- the picture of a frame with its cropping; one that stands for a missing frame number has none
abbrev pub shown_frame : {PAD : ℕ} → Frame PAD → Option Picture
shown_frame f = option_map (λ p. picture_of p f.crop f.info) f.planes

-- it is marked as used for reference (8.2.5)
abbrev pub is_used_for_reference : {PAD : ℕ} → Frame PAD → Bool
is_used_for_reference f = is_some f.mark

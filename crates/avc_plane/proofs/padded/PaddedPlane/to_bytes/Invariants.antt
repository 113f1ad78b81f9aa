use Rattle.avc_plane.proofs.PlaneMaps.{◌≡◌, ◌*◌, take}
use Rattle.avc_plane.proofs.padded.PaddedPlane.to_bytes.Given as goal

abbrev pub invariant-loop-y : goal.invariant-loop-y
invariant-loop-y g l = l.bytes.items ≡ take (l.y * l.self.width) l.self.samples

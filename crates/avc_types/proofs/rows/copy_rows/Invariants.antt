use Rattle.avc_types.proofs.Frames.{◌≡◌, ℕ, ◌+◌, ◌*◌, ◌<◌, slice_index}
use Rattle.avc_types.proofs.rows.copy_rows.Given as goal

abbrev pub invariant-loop-y : goal.invariant-loop-y
invariant-loop-y l = (x y : ℕ) → x < l.width → y < l.y → slice_index l.rows (y * l.width + x) ≡ slice_index l.samples (l.first + y * l.stride + x)

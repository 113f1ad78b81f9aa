use Rattle.avc_picture_core.proofs.InterTiles.{◌≡◌, ℕ, ◌<◌, [], slice_index_or, total_coeff}
use Rattle.avc_picture_core.proofs.residual.has_luma_levels.Given as goal

abbrev pub invariant-loop-k : goal.invariant-loop-k
invariant-loop-k l = (j : ℕ) → j < l.k → total_coeff (slice_index_or l.levels j []) ≡ 0

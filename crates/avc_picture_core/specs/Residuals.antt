-- Residuals added to the samples of a plane, ITU-T H.264 clause 8.5.14.
use Rattle.std.specs.Prelude.{ℕ, ◌+◌, ℤ}
use Rattle.avc_plane.specs.Plane.{Plane, sample, with_block}
use Rattle.avc_picture_core.specs.Built.{sum_of}

-- the plane with the residual f(x, y), x and y counted inside the block, added to the samples of a
-- block (8.5.14)
abbrev pub with_residual : Plane → (left top width height : ℕ) → (ℕ → ℕ → ℤ) → Plane
with_residual s left top width height f =
    with_block s left top width height (λ x y. sum_of (sample s (left + x) (top + y)) (f x y))

-- Chroma sample interpolation, ITU-T H.264 clause 8.4.2.2.2.
use Rattle.std.specs.Prelude.{ℕ, ◌+◌, ◌*◌, ◌-◌, ◌/◌, ℤ, pos, ◌+ℤ◌}
use Rattle.avc_types.specs.Arithmetic.{◌>>ℤ◌, low_bits}
use Rattle.avc_types.specs.declared.vector.Mv.{Mv}
use Rattle.avc_plane.specs.Plane.{clamped}
use Rattle.avc_samples.specs.Patch.{Wide}

-- between four samples, p eighths to the right and q eighths down (8.4.2.2.2)
abbrev pub bilinear : Wide → ℤ → ℤ → ℕ → ℕ → ℕ
bilinear s x y p q =
    ((8 - p) * (8 - q) * s x y + p * (8 - q) * s (x +ℤ pos 1) y
    + (8 - p) * q * s x (y +ℤ pos 1) + p * q * s (x +ℤ pos 1) (y +ℤ pos 1) + 32) / 64

-- The prediction of the chroma sample (x, y) of the picture by a luma vector, which counts eighths
-- of chroma samples (8.4.1.4, 8.4.2.2.2).
abbrev pub inter_chroma : (width height : ℕ) → (ℕ → ℕ → ℕ) → Mv → ℕ → ℕ → ℕ
inter_chroma width height f mv x y =
    bilinear (clamped width height f) (pos x +ℤ (mv.x >>ℤ 3)) (pos y +ℤ (mv.y >>ℤ 3))
    (low_bits mv.x 3) (low_bits mv.y 3)

-- Samples of a plane from a place on that a vector leads to, ITU-T H.264 clauses 8.4.2.2.1 and
-- 8.4.2.2.2.
use Rattle.std.specs.Prelude.{ℕ, ◌+◌, pos, ◌+ℤ◌}
use Rattle.avc_types.specs.declared.vector.Mv.{Mv}
use Rattle.avc_plane.specs.Plane.{Plane, clamped, sample}
use Rattle.avc_inter.specs.Luma.{quarter, inter_luma}
use Rattle.avc_inter.specs.Chroma.{bilinear, inter_chroma}
use Rattle.avc_inter.specs.declared.vector.MovedPlace.{MovedPlace}
use Rattle.avc_inter.specs.declared.vector.Quarters.{Quarters}
use Rattle.avc_inter.specs.declared.vector.Eighths.{Eighths}

-- whole samples, each coordinate held inside the plane
abbrev pub whole_from : Plane → MovedPlace → (i j : ℕ) → ℕ
whole_from p at i j = clamped p.width p.height (sample p) (at.left +ℤ pos i) (at.top +ℤ pos j)

-- luma samples between whole ones (8.4.2.2.1)
abbrev pub quarters_from : Plane → MovedPlace → Quarters → (i j : ℕ) → ℕ
quarters_from p at beyond i j =
    quarter (clamped p.width p.height (sample p)) (at.left +ℤ pos i) (at.top +ℤ pos j)
    beyond.right beyond.down

-- the prediction of a luma block at this place of the picture (8.4.2.2.1)
abbrev pub predicted_luma : Plane → (x y : ℕ) → Mv → (i j : ℕ) → ℕ
predicted_luma p x y mv i j = inter_luma p.width p.height (sample p) mv (x + i) (y + j)

-- chroma samples between whole ones (8.4.2.2.2)
abbrev pub eighths_from : Plane → MovedPlace → Eighths → (i j : ℕ) → ℕ
eighths_from p at beyond i j =
    bilinear (clamped p.width p.height (sample p)) (at.left +ℤ pos i) (at.top +ℤ pos j)
    beyond.right beyond.down

-- the prediction of a chroma block at this place of the picture (8.4.2.2.2)
abbrev pub predicted_chroma : Plane → (x y : ℕ) → Mv → (i j : ℕ) → ℕ
predicted_chroma p x y mv i j = inter_chroma p.width p.height (sample p) mv (x + i) (y + j)

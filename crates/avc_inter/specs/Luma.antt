-- Luma sample interpolation, ITU-T H.264 clause 8.4.2.2.1. A whole picture is seen as a map that
-- has a sample at every place, those outside being the nearest ones inside: `clamped` of a plane.
use Rattle.std.specs.Prelude.{ℕ, zero, suc, ℤ, pos, ◌+ℤ◌, ◌-ℤ◌, ◌*ℤ◌}
use Rattle.avc_types.specs.Arithmetic.{◌>>ℤ◌, low_bits, clip1, mean_of_two}
use Rattle.avc_types.specs.declared.vector.Mv.{Mv}
use Rattle.avc_plane.specs.Plane.{clamped}
use Rattle.avc_samples.specs.Patch.{Wide}

-- the six-tap filter, before rounding (8.4.2.2.1)
abbrev pub six_taps : ℤ → ℤ → ℤ → ℤ → ℤ → ℤ → ℤ
six_taps e f g h i j = e -ℤ pos 5 *ℤ f +ℤ pos 20 *ℤ g +ℤ pos 20 *ℤ h -ℤ pos 5 *ℤ i +ℤ j

-- b1: the taps along the row; the sample at (x, y) comes third (8.4.2.2.1)
abbrev pub across : Wide → ℤ → ℤ → ℤ
across s x y = six_taps
    (pos (s (x -ℤ pos 2) y)) (pos (s (x -ℤ pos 1) y)) (pos (s x y))
    (pos (s (x +ℤ pos 1) y)) (pos (s (x +ℤ pos 2) y)) (pos (s (x +ℤ pos 3) y))

-- h1: the taps along the column, likewise (8.4.2.2.1)
abbrev pub down : Wide → ℤ → ℤ → ℤ
down s x y = six_taps
    (pos (s x (y -ℤ pos 2))) (pos (s x (y -ℤ pos 1))) (pos (s x y))
    (pos (s x (y +ℤ pos 1))) (pos (s x (y +ℤ pos 2))) (pos (s x (y +ℤ pos 3)))

-- j1: the taps over six unrounded b1 of a column (8.4.2.2.1)
abbrev pub across_down : Wide → ℤ → ℤ → ℤ
across_down s x y = six_taps
    (across s x (y -ℤ pos 2)) (across s x (y -ℤ pos 1)) (across s x y)
    (across s x (y +ℤ pos 1)) (across s x (y +ℤ pos 2)) (across s x (y +ℤ pos 3))

-- the half sample b, right of the sample at (x, y) (8.4.2.2.1)
abbrev pub half_b : Wide → ℤ → ℤ → ℕ
half_b s x y = clip1 (across s x y +ℤ pos 16 >>ℤ 5)

-- the half sample h, below it (8.4.2.2.1)
abbrev pub half_h : Wide → ℤ → ℤ → ℕ
half_h s x y = clip1 (down s x y +ℤ pos 16 >>ℤ 5)

-- the half sample j, diagonally below it (8.4.2.2.1)
abbrev pub half_j : Wide → ℤ → ℤ → ℕ
half_j s x y = clip1 (across_down s x y +ℤ pos 512 >>ℤ 10)

-- the half sample m: h at the next column (8.4.2.2.1)
abbrev pub half_m : Wide → ℤ → ℤ → ℕ
half_m s x y = half_h s (x +ℤ pos 1) y

-- the half sample s: b at the next row (8.4.2.2.1)
abbrev pub half_s : Wide → ℤ → ℤ → ℕ
half_s s x y = half_b s x (y +ℤ pos 1)

-- yFracL 0: G, a, b and c by xFracL (Table 8-12)
abbrev pub at_row_0 : Wide → ℤ → ℤ → ℕ → ℕ
at_row_0 s x y zero = s x y
at_row_0 s x y (suc zero) = mean_of_two (s x y) (half_b s x y)
at_row_0 s x y (suc (suc zero)) = half_b s x y
at_row_0 s x y (suc (suc (suc f))) = mean_of_two (s (x +ℤ pos 1) y) (half_b s x y)

-- yFracL 1: d, e, f and g by xFracL (Table 8-12)
abbrev pub at_row_1 : Wide → ℤ → ℤ → ℕ → ℕ
at_row_1 s x y zero = mean_of_two (s x y) (half_h s x y)
at_row_1 s x y (suc zero) = mean_of_two (half_b s x y) (half_h s x y)
at_row_1 s x y (suc (suc zero)) = mean_of_two (half_b s x y) (half_j s x y)
at_row_1 s x y (suc (suc (suc f))) = mean_of_two (half_b s x y) (half_m s x y)

-- yFracL 2: h, i, j and k by xFracL (Table 8-12)
abbrev pub at_row_2 : Wide → ℤ → ℤ → ℕ → ℕ
at_row_2 s x y zero = half_h s x y
at_row_2 s x y (suc zero) = mean_of_two (half_h s x y) (half_j s x y)
at_row_2 s x y (suc (suc zero)) = half_j s x y
at_row_2 s x y (suc (suc (suc f))) = mean_of_two (half_j s x y) (half_m s x y)

-- yFracL 3: n, p, q and r by xFracL (Table 8-12)
abbrev pub at_row_3 : Wide → ℤ → ℤ → ℕ → ℕ
at_row_3 s x y zero = mean_of_two (s x (y +ℤ pos 1)) (half_h s x y)
at_row_3 s x y (suc zero) = mean_of_two (half_h s x y) (half_s s x y)
at_row_3 s x y (suc (suc zero)) = mean_of_two (half_j s x y) (half_s s x y)
at_row_3 s x y (suc (suc (suc f))) = mean_of_two (half_m s x y) (half_s s x y)

-- The sixteen quarter positions, by xFracL and yFracL (Table 8-12).
abbrev pub quarter : Wide → ℤ → ℤ → ℕ → ℕ → ℕ
quarter s x y fx zero = at_row_0 s x y fx
quarter s x y fx (suc zero) = at_row_1 s x y fx
quarter s x y fx (suc (suc zero)) = at_row_2 s x y fx
quarter s x y fx (suc (suc (suc f))) = at_row_3 s x y fx

-- The prediction of the luma sample (x, y) of the picture by a vector in quarter samples
-- (8.4.2.2.1).
abbrev pub inter_luma : (width height : ℕ) → (ℕ → ℕ → ℕ) → Mv → ℕ → ℕ → ℕ
inter_luma width height f mv x y =
    quarter (clamped width height f) (pos x +ℤ (mv.x >>ℤ 2)) (pos y +ℤ (mv.y >>ℤ 2))
    (low_bits mv.x 2) (low_bits mv.y 2)

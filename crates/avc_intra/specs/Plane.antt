-- Prediction of one sample by a plane, for luma and for chroma, ITU-T H.264 clauses 8.3.3.4 and
-- 8.3.4.4.
use Rattle.std.specs.Prelude.{ℕ, ◌+◌, ◌-◌, ◌*◌, ◌/◌, ℤ, pos, ◌+ℤ◌, ◌-ℤ◌, ◌*ℤ◌}
use Rattle.avc_types.specs.Arithmetic.{◌>>ℤ◌, clip1, sum_below_ℤ}
use Rattle.avc_intra.specs.Neighbourhood.{Around, top, left_of}

-- H and V: how much the n samples after the middle of a side exceed those before it, far ones
-- counting more (8.3.3.4, 8.3.4.4)
abbrev pub slope : ℕ → (ℤ → ℕ) → ℤ
slope n side =
    sum_below_ℤ n
    (λ i. pos (i + 1) *ℤ (pos (side (pos (n + i))) -ℤ pos (side (pos n -ℤ pos (i + 2)))))

-- b and c: what the plane rises in a step, in 32nds, where the slope counts `weight` times
-- (8.3.3.4, 8.3.4.4)
abbrev pub gradient : (weight n : ℕ) → (ℤ → ℕ) → ℤ
gradient weight n side = pos weight *ℤ slope n side +ℤ pos 32 >>ℤ 6

-- the sample of a plane with this height at its middle, in 32nds, and these rises a column and a
-- row (8.3.3.4, 8.3.4.4)
abbrev pub plane_sample : (middle : ℕ) → (height across down : ℤ) → ℕ → ℕ → ℕ
plane_sample middle height across down x y =
    clip1 (height +ℤ across *ℤ (pos x -ℤ pos middle) +ℤ down *ℤ (pos y -ℤ pos middle)
    +ℤ pos 16 >>ℤ 5)

-- the sample at column x and row y of the plane of a block of this many columns and rows (8.3.3.4,
-- 8.3.4.4)
abbrev pub predict_plane : (size weight : ℕ) → Around → ℕ → ℕ → ℕ
predict_plane size weight p x y =
    let a = pos (16 * (left_of p (pos (size - 1)) + top p (pos (size - 1)))) in
    let b = gradient weight (size / 2) (top p) in
    let c = gradient weight (size / 2) (left_of p) in
    plane_sample (size / 2 - 1) a b c x y

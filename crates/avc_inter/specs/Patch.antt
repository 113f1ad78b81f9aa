-- The six-tap filter over samples that lie in a list, each a step behind the last.
use Rattle.std.specs.Prelude.{ℕ, zero, suc, ◌+◌, ◌*◌, ◌/◌, ℤ, pos, ◌+ℤ◌, List}
use Rattle.std.specs.Prelude.{slice_index, slice_index_or}
use Rattle.avc_types.specs.Arithmetic.{◌>>ℤ◌, clip1, mean_of_two}
use Rattle.avc_inter.specs.Luma.{six_taps}
use Rattle.avc_inter.specs.declared.weights.BilinearWeights.{BilinearWeights}

-- the unrounded sum of six samples, a step apart (8.4.2.2.1)
abbrev pub taps_along : List ℕ → (at step : ℕ) → ℤ
taps_along p at step = six_taps
    (pos (slice_index p at)) (pos (slice_index p (at + step)))
    (pos (slice_index p (at + 2 * step))) (pos (slice_index p (at + 3 * step)))
    (pos (slice_index p (at + 4 * step))) (pos (slice_index p (at + 5 * step)))

-- the half sample between the third and the fourth of them (8.4.2.2.1)
abbrev pub half_along : List ℕ → (at step : ℕ) → ℕ
half_along p at step = clip1 (taps_along p at step +ℤ pos 16 >>ℤ 5)

-- the half sample b of its unrounded sum (8.4.2.2.1)
abbrev pub rounded_sum : ℤ → ℕ
rounded_sum sum = clip1 (sum +ℤ pos 16 >>ℤ 5)

-- over unrounded sums
abbrev pub sums_along : List ℤ → (at step : ℕ) → ℤ
sums_along m at step = six_taps
    (slice_index_or m at (pos 0)) (slice_index_or m (at + step) (pos 0))
    (slice_index_or m (at + 2 * step) (pos 0)) (slice_index_or m (at + 3 * step) (pos 0))
    (slice_index_or m (at + 4 * step) (pos 0)) (slice_index_or m (at + 5 * step) (pos 0))

-- the half sample j, from six unrounded sums (8.4.2.2.1)
abbrev pub centre_along : List ℤ → (at step : ℕ) → ℕ
centre_along m at step = clip1 (sums_along m at step +ℤ pos 512 >>ℤ 10)

-- A block in a list of samples with S of them in a row, which has two columns and two rows of
-- samples more in front and three behind. k is the place of a sample's two rows and columns before
-- it.

-- in the row that is so many rows down: the sample itself in row 2, that below it in row 3
abbrev pub whole : List ℕ → (stride row k : ℕ) → ℕ
whole p stride row k = slice_index p (row * stride + 2 + k)

-- that right of the sample
abbrev pub whole_right : List ℕ → (stride k : ℕ) → ℕ
whole_right p stride k = slice_index p (2 * stride + 3 + k)

-- the half samples: b in row 2, and s in row 3
abbrev pub b_of : List ℕ → (stride row k : ℕ) → ℕ
b_of p stride row k = half_along p (row * stride + k) 1

-- h, between the sample and that below it
abbrev pub h_of : List ℕ → (stride k : ℕ) → ℕ
h_of p stride k = half_along p (2 + k) stride

-- m, a column right of h
abbrev pub m_of : List ℕ → (stride k : ℕ) → ℕ
m_of p stride k = half_along p (3 + k) stride

-- j, in the middle of four samples
abbrev pub j_of : List ℕ → (stride k : ℕ) → ℕ
j_of p stride k =
    clip1 (six_taps
    (taps_along p k 1) (taps_along p (k + stride) 1)
    (taps_along p (k + 2 * stride) 1) (taps_along p (k + 3 * stride) 1)
    (taps_along p (k + 4 * stride) 1) (taps_along p (k + 5 * stride) 1)
    +ℤ pos 512 >>ℤ 10)

-- the sixteen positions by the fraction of x, for each fraction of y, as in `quarter`
abbrev pub row_0_of : List ℕ → (stride k fx : ℕ) → ℕ
row_0_of p stride k zero = whole p stride 2 k
row_0_of p stride k (suc zero) = mean_of_two (whole p stride 2 k) (b_of p stride 2 k)
row_0_of p stride k (suc (suc zero)) = b_of p stride 2 k
row_0_of p stride k (suc (suc (suc f))) = mean_of_two (whole_right p stride k) (b_of p stride 2 k)

-- a quarter of a sample above or below the middle, towards the row that is so many rows down
abbrev pub row_beside_of : List ℕ → (stride row k fx : ℕ) → ℕ
row_beside_of p stride row k zero = mean_of_two (whole p stride row k) (h_of p stride k)
row_beside_of p stride row k (suc zero) = mean_of_two (b_of p stride row k) (h_of p stride k)
row_beside_of p stride row k (suc (suc zero)) =
    mean_of_two (b_of p stride row k) (j_of p stride k)
row_beside_of p stride row k (suc (suc (suc f))) =
    mean_of_two (b_of p stride row k) (m_of p stride k)

-- a half of a sample down
abbrev pub row_2_of : List ℕ → (stride k fx : ℕ) → ℕ
row_2_of p stride k zero = h_of p stride k
row_2_of p stride k (suc zero) = mean_of_two (h_of p stride k) (j_of p stride k)
row_2_of p stride k (suc (suc zero)) = j_of p stride k
row_2_of p stride k (suc (suc (suc f))) = mean_of_two (j_of p stride k) (m_of p stride k)

-- the sample at xFrac and yFrac (Table 8-12)
abbrev pub quarter_of : List ℕ → (stride k fx fy : ℕ) → ℕ
quarter_of p stride k fx zero = row_0_of p stride k fx
quarter_of p stride k fx (suc zero) = row_beside_of p stride 2 k fx
quarter_of p stride k fx (suc (suc zero)) = row_2_of p stride k fx
quarter_of p stride k fx (suc (suc (suc f))) = row_beside_of p stride 3 k fx

-- by four weights, the mean of a sample, that right of it and the two below them
abbrev pub blend_of : BilinearWeights → List ℕ → (stride k : ℕ) → ℕ
blend_of w p stride k =
    (w.here * slice_index p k + w.right * slice_index p (k + 1)
    + w.below * slice_index p (k + stride) + w.across * slice_index p (k + stride + 1) + 32) / 64

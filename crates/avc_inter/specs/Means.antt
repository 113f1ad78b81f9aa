-- Half samples between rows, and their means with whole samples, ITU-T H.264 clause 8.4.2.2.1.
use Rattle.std.specs.Prelude.{ℕ, ◌+◌, Option, Some, None, List, slice_index}
use Rattle.avc_types.specs.Arithmetic.{mean_of_two}

-- the half sample at a place, or its mean with the whole sample so far behind the place (Table 8-12)
abbrev pub half_or_mean : Option ℕ → List ℕ → (place half : ℕ) → ℕ
half_or_mean None p place half = half
half_or_mean (Some by) p place half = mean_of_two (slice_index p (by + place)) half

-- how far behind the place that whole sample lies
abbrev pub whole_behind : Option ℕ → ℕ
whole_behind None = 0
whole_behind (Some by) = by

-- The six-tap filter over a row of samples, ITU-T H.264 clause 8.4.2.2.1.
use Rattle.std.specs.Prelude.{ℕ, ◌+◌, ℤ, pos, List, slice_index}
use Rattle.avc_inter.specs.Luma.{six_taps}

-- over the samples i to i + 5
abbrev pub taps_at : List ℕ → ℕ → ℤ
taps_at s i = six_taps
    (pos (slice_index s i)) (pos (slice_index s (i + 1))) (pos (slice_index s (i + 2)))
    (pos (slice_index s (i + 3))) (pos (slice_index s (i + 4))) (pos (slice_index s (i + 5)))

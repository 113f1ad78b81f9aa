-- What the places of samples are.
use Rattle.std.specs.Prelude.{◌≡◌, ℕ, ◌+◌, ◌*◌, ◌<◌, slice_index}
use Rattle.avc_types.specs.declared.picture.Picture.{Picture}
use Rattle.avc_plane.specs.Shown.{columns_of, samples_of}
use Rattle.avc_yuv.specs.I420.{i420}
use Rattle.avc_difference.specs.Places.{place_of, sample_count, shape_of}

-- The sample at a place of a picture as I420 is that of its component in the coded column and row
-- of the place (6.2, 7.4.2.1.1).
abbrev pub PlacesNameSamples : Type 0
PlacesNameSamples =
    (p : Picture) (k : ℕ) → k < sample_count (shape_of p) →
    let q = place_of (shape_of p) k in
    slice_index (i420 p) k
    ≡ slice_index (samples_of p q.component)
    (q.coded_row * columns_of p q.component + q.coded_column)

-- The sizes of a picture's planes at 4:2:0 (ITU-T H.264 clause 6.2).
use Rattle.std.specs.Prelude.{◌≡◌, ℕ, ◌*◌, List, length}
use Rattle.avc_params.specs.Limits.{width_in_mbs, height_in_mbs}
use Rattle.avc_slice.specs.declared.slice.Slice.{Slice}
use Rattle.avc_plane.specs.Plane.{Plane}
use Rattle.avc_plane.specs.Planes.{Planes}
use Rattle.avc_picture.specs.Slices.{PictureStart, planes_after_slices}

-- a plane of this size with a sample at each place
pub record HasSize (width height : ℕ) (p : Plane) : Type 0 where
  pub columns : p.width ≡ width
  pub rows : p.height ≡ height
  pub all : length p.samples ≡ width * height

-- the planes of a picture of this size in macroblocks
pub record IsSized (width height : ℕ) (planes : Planes) : Type 0 where
  pub luma : HasSize (16 * width) (16 * height) planes.luma
  pub cb : HasSize (8 * width) (8 * height) planes.cb
  pub cr : HasSize (8 * width) (8 * height) planes.cr

-- Whatever its slices are, a picture has the size of its sequence parameter set.
abbrev pub PicturesAreSized : Type 0
PicturesAreSized =
    (p : PictureStart) (slices : List Slice) →
    IsSized (width_in_mbs p.sps) (height_in_mbs p.sps) (planes_after_slices p slices)

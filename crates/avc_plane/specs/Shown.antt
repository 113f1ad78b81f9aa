-- A picture of closed planes, its components, and what is shown of them (ITU-T H.264 clauses 6.2
-- and 7.4.2.1.1).
use Rattle.std.specs.Prelude.{◌≡◌, ℕ, ◌+◌, ◌-◌, ◌*◌, ◌/◌, ◌<◌, ◌≤◌, List, length, slice_index}
use Rattle.avc_types.specs.declared.picture.Crop.{Crop}
use Rattle.avc_types.specs.declared.picture.Picture.{Picture}
use Rattle.avc_types.specs.declared.picture_info.PictureInfo.{PictureInfo}
use Rattle.avc_plane.specs.Planes.{Planes}
use Rattle.avc_plane.specs.declared.component.Component.{Component}
use Rattle.avc_plane.specs.declared.component.Component.TheVariants.{Luma, Cb, Cr}

-- the picture of these planes, of which the crop is not shown: its size is that of the luma plane
-- (6.2)
abbrev pub picture_of : Planes → Crop → PictureInfo → Picture
picture_of p crop info = record {
  width = (p.luma).width;
  height = (p.luma).height;
  crop = crop;
  info = info;
  luma = (p.luma).samples;
  cb = (p.cb).samples;
  cr = (p.cr).samples;
}

-- the samples of a component
abbrev pub samples_of : Picture → Component → List ℕ
samples_of p Luma = p.luma
samples_of p Cb = p.cb
samples_of p Cr = p.cr

-- a number of luma samples as one of a component's: at 4:2:0 a chroma component has half as many in
-- each direction (6.2)
abbrev pub scaled : Component → ℕ → ℕ
scaled Luma n = n
scaled Cb n = n / 2
scaled Cr n = n / 2

-- how many columns a component has
abbrev pub columns_of : Picture → Component → ℕ
columns_of p c = scaled c p.width

-- how many rows a component has
abbrev pub rows_of : Picture → Component → ℕ
rows_of p c = scaled c p.height

-- Samples of a component from the first that is shown on (7.4.2.1.1), whose rows are `stride`
-- apart: each one that is shown stands at its column and row.
pub record IsLent (p : Picture) (c : Component) (lent : List ℕ) (stride : ℕ) : Type 0 where
  pub apart : scaled c (p.width - ((p.crop).left + (p.crop).right)) ≤ stride
  pub inside : (x y : ℕ) → x < scaled c (p.width - ((p.crop).left + (p.crop).right)) →
      y < scaled c (p.height - ((p.crop).top + (p.crop).bottom))
      → y * stride + x < length lent
  pub at : (x y : ℕ) → x < scaled c (p.width - ((p.crop).left + (p.crop).right)) →
      y < scaled c (p.height - ((p.crop).top + (p.crop).bottom))
      → slice_index lent (y * stride + x)
      ≡ slice_index (samples_of p c) ((scaled c (p.crop).top + y) * columns_of p c
      + (scaled c (p.crop).left + x))

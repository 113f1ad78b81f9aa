-- What is shown of a picture's components, in the planes that it is made of.
use Rattle.std.proofs.Common.{◌≡◌, ◌∙◌, ℕ, ◌+◌, ◌-◌, ◌≤◌, List, arith, refl}
use Rattle.avc_types.specs.Whole.{IsWhole}
use Rattle.avc_types.specs.declared.picture.Crop.{Crop}
use Rattle.avc_types.specs.declared.picture.Picture.{Picture}
use Rattle.avc_types.specs.declared.picture_info.PictureInfo.{PictureInfo}
use Rattle.avc_plane.specs.Padded.{HaveRowsFrom}
use Rattle.avc_plane.specs.Plane.{Plane}
use Rattle.avc_plane.specs.Planes.{Planes, AreSubsampled}
use Rattle.avc_plane.specs.Shown.{picture_of, samples_of, scaled, columns_of, rows_of, IsLent}
use Rattle.avc_plane.specs.declared.component.Component.{Component}
use Rattle.avc_plane.specs.declared.component.Component.TheVariants.{Luma, Cb, Cr}

-- the plane of a component
abbrev pub part_of : Planes → Component → Plane
part_of s Luma = s.luma
part_of s Cb = s.cb
part_of s Cr = s.cr

-- what is left out on the left and what is shown fit into the component
shown_fits : (c : Component) (size before after : ℕ) → before + after ≤ size → scaled c before + scaled c (size - (before + after)) ≤ scaled c size
shown_fits Luma size before after fits = omega arith
shown_fits Cb size before after fits = omega arith
shown_fits Cr size before after fits = omega arith

columns_are : (s : Planes) (crop : Crop) (info : PictureInfo) (c : Component) → AreSubsampled s → columns_of (picture_of s crop info) c ≡ (part_of s c).width
columns_are s crop info Luma half = refl
columns_are s crop info Cb half = omega (arith, half.cb_width)
columns_are s crop info Cr half = omega (arith, half.cr_width)

rows_are : (s : Planes) (crop : Crop) (info : PictureInfo) (c : Component) → AreSubsampled s → rows_of (picture_of s crop info) c ≡ (part_of s c).height
rows_are s crop info Luma half = refl
rows_are s crop info Cb half = omega (arith, half.cb_height)
rows_are s crop info Cr half = omega (arith, half.cr_height)

samples_are : (s : Planes) (crop : Crop) (info : PictureInfo) (c : Component) → samples_of (picture_of s crop info) c ≡ (part_of s c).samples
samples_are s crop info Luma = refl
samples_are s crop info Cb = refl
samples_are s crop info Cr = refl

lent_part : (s : Planes) (crop : Crop) (info : PictureInfo) (c : Component) (lent : List ℕ) (stride : ℕ) → AreSubsampled s → IsWhole (picture_of s crop info)
    → HaveRowsFrom (part_of s c) (scaled c crop.left) (scaled c crop.top) lent stride → IsLent (picture_of s crop info) c lent stride
lent_part s crop info c lent stride half whole rows =
    let columns = columns_are s crop info c half in
    let narrow = shown_fits c (s.luma).width crop.left crop.right whole.columns in
    let low = shown_fits c (s.luma).height crop.top crop.bottom whole.rows in
    record {
      apart = omega (arith, rows.apart, columns, narrow);
      inside = λ x y column row. rows.inside x y (omega (arith, columns, narrow)) (omega (arith, rows_are s crop info c half, low));
      at = λ x y column row.
          rows.at x y (omega (arith, columns, narrow)) (omega (arith, rows_are s crop info c half, low))
          ∙ rw (columns, samples_are s crop info c) refl;
    }

-- rows of the plane of a component, from its first sample that is shown on
pub lent_is : (t s : Planes) (crop : Crop) (info : PictureInfo) (p : Picture) (c : Component) (lent : List ℕ) (stride : ℕ) → t ≡ s → picture_of s crop info ≡ p
    → AreSubsampled s → IsWhole p → HaveRowsFrom (part_of t c) (scaled c crop.left) (scaled c crop.top) lent stride → IsLent p c lent stride
lent_is t s crop info p c lent stride same is half whole rows =
    rw (← is) (lent_part s crop info c lent stride half (rw is whole) (rw (← same) rows))

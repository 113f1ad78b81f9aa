-- A picture as it is written: the samples of the crop window (the cropping rectangle of 7.4.2.1.1),
-- luma, Cb and Cr, each row by row. At 4:2:0 (6.2) a chroma plane has half the luma plane's width
-- and half its height.
use Rattle.std.specs.Prelude.{ℕ, ◌+◌, ◌-◌, ◌*◌, ◌/◌, List, ◌++◌, map, slice_index}
use Rattle.std.specs.List.{range_with_len, flat_map}
use Rattle.avc_types.specs.declared.picture.Picture.{Picture}

-- one row of a plane whose rows have this length: its samples from column `left` on
abbrev pub part_of_row : (row_length : ℕ) → List ℕ → (left width y : ℕ) → List ℕ
part_of_row row_length samples left width y =
    map (λ x. slice_index samples (y * row_length + x)) (range_with_len left width)

-- the samples of the plane in the window of width x height at (left, top), row by row (7.4.2.1.1)
abbrev pub window : (row_length : ℕ) → List ℕ → (left top width height : ℕ) → List ℕ
window row_length samples left top width height =
    flat_map (part_of_row row_length samples left width) (range_with_len top height)

-- the width of the cropping rectangle (7.4.2.1.1)
abbrev pub shown_width : Picture → ℕ
shown_width p = p.width - ((p.crop).left + (p.crop).right)

-- the height of the cropping rectangle (7.4.2.1.1)
abbrev pub shown_height : Picture → ℕ
shown_height p = p.height - ((p.crop).top + (p.crop).bottom)

-- of a plane of luma samples what is shown (7.4.2.1.1)
abbrev pub luma_window : Picture → List ℕ → List ℕ
luma_window p samples =
    window p.width samples (p.crop).left (p.crop).top (shown_width p) (shown_height p)

-- of a plane of chroma samples what is shown: everything is half as large (each offset
-- of the crop is even) (6.2)
abbrev pub chroma_window : Picture → List ℕ → List ℕ
chroma_window p samples =
    window (p.width / 2) samples ((p.crop).left / 2) ((p.crop).top / 2) (shown_width p / 2)
    (shown_height p / 2)

-- the picture as it is written: luma, then Cb, then Cr (this decoder's rule)
abbrev pub i420 : Picture → List ℕ
i420 p = luma_window p p.luma ++ chroma_window p p.cb ++ chroma_window p p.cr

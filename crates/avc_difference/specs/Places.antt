-- Where the samples stand of a picture that is written as I420 (ITU-T H.264 clauses 6.2, 6.4.1 and
-- 7.4.2.1.1).
use Rattle.std.specs.Prelude.{ℕ, ◌+◌, ◌-◌, ◌*◌, ◌/◌, ◌%◌, nat_lt, if◌then◌else◌}
use Rattle.avc_types.specs.declared.picture.Picture.{Picture}
use Rattle.avc_plane.specs.Shown.{scaled}
use Rattle.avc_plane.specs.declared.component.Component.{Component}
use Rattle.avc_plane.specs.declared.component.Component.TheVariants.{Luma, Cb, Cr}
use Rattle.avc_difference.specs.declared.place.Shape.{Shape}
use Rattle.avc_difference.specs.declared.place.Place.{Place}

-- the shape of a picture
abbrev pub shape_of : Picture → Shape
shape_of p = record { width = p.width; height = p.height; crop = p.crop }

-- how many columns of a component are shown: those of the cropping rectangle (6.2, 7.4.2.1.1)
abbrev pub shown_columns : Shape → Component → ℕ
shown_columns s c = scaled c (s.width - ((s.crop).left + (s.crop).right))

-- how many rows of it (6.2, 7.4.2.1.1)
abbrev pub shown_rows : Shape → Component → ℕ
shown_rows s c = scaled c (s.height - ((s.crop).top + (s.crop).bottom))

-- how many samples of it
abbrev pub shown_samples : Shape → Component → ℕ
shown_samples s c = shown_rows s c * shown_columns s c

-- how many samples stand before those of a component: luma is first, then Cb, then Cr (this
-- decoder's rule)
abbrev pub samples_before : Shape → Component → ℕ
samples_before s Luma = 0
samples_before s Cb = shown_samples s Luma
samples_before s Cr = shown_samples s Luma + shown_samples s Cb

-- how many samples there are
abbrev pub sample_count : Shape → ℕ
sample_count s = shown_samples s Luma + shown_samples s Cb + shown_samples s Cr

-- the component of the sample at a place
abbrev pub component_at : Shape → (place : ℕ) → Component
component_at s place =
    if nat_lt place (samples_before s Cb) then Luma
    else (if nat_lt place (samples_before s Cr) then Cb else Cr)

-- how many macroblocks a row of the picture has (PicWidthInMbs, 7.4.2.1.1)
abbrev pub macroblock_columns : Shape → ℕ
macroblock_columns s = s.width / 16

-- how many rows of macroblocks it has (PicHeightInMbs, 7.4.3)
abbrev pub macroblock_rows : Shape → ℕ
macroblock_rows s = s.height / 16

-- how many macroblocks it has (PicSizeInMbs, 7.4.3)
abbrev pub macroblocks : Shape → ℕ
macroblocks s = macroblock_rows s * macroblock_columns s

-- The sample in this column and row of what is shown of a component: where it stands in the coded
-- component, and its macroblock, which has 16 columns and rows of luma samples, and half as many of
-- chroma samples (6.2, 6.4.1, 7.4.2.1.1).
abbrev pub place_at : Shape → Component → (column row : ℕ) → Place
place_at s c column row = record {
  component = c;
  column = column;
  row = row;
  coded_column = scaled c (s.crop).left + column;
  coded_row = scaled c (s.crop).top + row;
  macroblock_column = (scaled c (s.crop).left + column) / scaled c 16;
  macroblock_row = (scaled c (s.crop).top + row) / scaled c 16;
  address = ((scaled c (s.crop).top + row) / scaled c 16) * macroblock_columns s
      + (scaled c (s.crop).left + column) / scaled c 16;
}

-- the sample of this number of a component, which is shown row by row
abbrev pub place_in : Shape → Component → (number : ℕ) → Place
place_in s c number = place_at s c (number % shown_columns s c) (number / shown_columns s c)

-- the sample at a place of the picture as I420
abbrev pub place_of : Shape → (place : ℕ) → Place
place_of s place =
    place_in s (component_at s place) (place - samples_before s (component_at s place))

-- What is told of a comparison.
use Rattle.std.specs.Prelude.{ℕ, ◌+◌, ◌*◌, ◌/◌, ◌%◌, Bool, true, false, List, [], ◌∷◌, ◌++◌, Option}
use Rattle.std.specs.Prelude.{Some, None, slice_range, codes}
use Rattle.std.specs.Fmt.{decimal}
use Rattle.std.specs.List.{flat_map, range_with_len}
use Rattle.avc_plane.specs.declared.component.Component.{Component}
use Rattle.avc_plane.specs.declared.component.Component.TheVariants.{Luma, Cb, Cr}
use Rattle.avc_difference.specs.Places.{macroblock_columns, macroblock_rows, macroblocks}
use Rattle.avc_difference.specs.declared.difference.Difference.{Difference}
use Rattle.avc_difference.specs.declared.marks.Mark.{Mark}
use Rattle.avc_difference.specs.declared.place.Place.{Place}
use Rattle.avc_difference.specs.declared.place.Shape.{Shape}
use Rattle.avc_report.specs.declared.psnr.Psnr.{Psnr}

-- the end of a line
abbrev pub newline : List ℕ
newline = 10 ∷ []

-- a component's name
abbrev pub component_name : Component → List ℕ
component_name Luma = codes "luma"
component_name Cb = codes "Cb"
component_name Cr = codes "Cr"

-- how many samples and macroblocks of the picture of a number differ
abbrev pub counts_line : (number : ℕ) → Difference → (macroblocks : ℕ) → List ℕ
counts_line number d macroblocks =
    codes "picture " ++ decimal number ++ codes ": " ++ decimal d.samples ++ codes " of "
    ++ decimal d.all_samples ++ codes " samples differ, in "
    ++ decimal d.macroblocks ++ codes " of " ++ decimal macroblocks ++ codes " macroblocks"
    ++ newline

-- the macroblock of a sample: its address, column and row
abbrev pub macroblock_words : Place → List ℕ
macroblock_words p =
    codes "macroblock " ++ decimal p.address ++ codes " (column " ++ decimal p.macroblock_column
    ++ codes ", row " ++ decimal p.macroblock_row ++ codes ")"

-- the sample: its component, column and row, as shown and as coded
abbrev pub sample_words : Place → List ℕ
sample_words p =
    component_name p.component ++ codes " sample at column " ++ decimal p.column ++ codes ", row "
    ++ decimal p.row ++ codes " (coded column "
    ++ decimal p.coded_column ++ codes ", row " ++ decimal p.coded_row ++ codes ")"

-- the first sample that differs
abbrev pub first_line : Difference → List ℕ
first_line d =
    codes "first: " ++ macroblock_words d.place ++ codes ", " ++ sample_words d.place ++ codes ": "
    ++ decimal d.ours ++ codes ", the other's "
    ++ decimal d.theirs ++ newline

-- a macroblock on the map: . where nothing differs, L where luma does, C where chroma does, B where
-- both do
abbrev pub letter_of : (luma chroma : Bool) → List ℕ
letter_of true true = codes "B"
letter_of true false = codes "L"
letter_of false true = codes "C"
letter_of false false = codes "."

abbrev pub letter : Mark → List ℕ
letter m = letter_of m.luma m.chroma

-- a row of macroblocks
abbrev pub row_line : List Mark → List ℕ
row_line marks = flat_map letter marks ++ newline

-- the map: a line for each row of macroblocks
abbrev pub map_lines : (columns rows : ℕ) → List Mark → List ℕ
map_lines columns rows marks =
    flat_map (λ row. row_line (slice_range marks (row * columns) (row * columns + columns)))
    (range_with_len 0 rows)

-- a picture that differs
abbrev pub difference_text : (number : ℕ) → Shape → Difference → List ℕ
difference_text number s d =
    counts_line number d (macroblocks s) ++ first_line d
    ++ map_lines (macroblock_columns s) (macroblock_rows s) d.marks.items

-- a ratio in decibels with two decimals, or that there is none
abbrev pub decibels : Option ℕ → List ℕ
decibels (Some hundredths) =
    decimal (hundredths / 100) ++ codes "." ++ decimal (hundredths / 10 % 10)
    ++ decimal (hundredths % 10)
decibels None = codes "inf"

-- how near the picture of a number is to the other
abbrev pub psnr_line : (number : ℕ) → Psnr → List ℕ
psnr_line number p =
    codes "picture " ++ decimal number ++ codes " psnr" ++ (codes " Y " ++ decibels p.luma)
    ++ (codes " U " ++ decibels p.cb) ++ (codes " V " ++ decibels p.cr) ++ newline

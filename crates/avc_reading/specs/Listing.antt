-- What units bring to whoever reads macroblocks, and the lines that tell it.
use Rattle.std.specs.Prelude.{ℕ, ◌+◌, ◌==◌, nat_lt, Bool, true, false, ◌&&◌, ◌||◌, List, [], ◌∷◌}
use Rattle.std.specs.Prelude.{◌++◌, length, Option, Some, None, Result, Ok, Err, if◌then◌else◌}
use Rattle.avc_types.specs.declared.fault.Fault.{Fault}
use Rattle.avc_types.specs.declared.fault.Fault.TheVariants as faults
use Rattle.avc_types.specs.Macroblock.{Mb}
use Rattle.avc_annexb.specs.Units.{forbidden_zero_bit, units}
use Rattle.avc_annexb.specs.declared.unit.Unit.{Unit}
use Rattle.avc_params.specs.Tables.{Sets, sets_after}
use Rattle.avc_params.specs.declared.set_unit.SetUnit.{SetUnit}
use Rattle.avc_slice.specs.declared.slice.Slice.{Slice}
use Rattle.avc_mbsyntax.specs.SliceData.{SliceMbs}
use Rattle.avc_units.specs.Grouping.{Kind, slice, partition, sps, pps, boundary, other, kind}
use Rattle.avc_units.specs.Grouping.{set_units, slice_in}
use Rattle.avc_tools.specs.Streams.{StreamSoFar}
use Rattle.avc_selection.specs.Forms.{Form}
use Rattle.avc_selection.specs.Pictures.{OpenPicture, picture_of}
use Rattle.avc_selection.specs.Places.{behind}
use Rattle.avc_selection.specs.Selected.{is_listed}
use Rattle.avc_selection.specs.declared.derived.Derived.{Derived}
use Rattle.avc_selection.specs.declared.place.MacroblockPlace.{MacroblockPlace}
use Rattle.avc_selection.specs.declared.selection.Selection.{Selection}
use Rattle.avc_selection.specs.declared.selection.Selection.TheVariants.{Whole, OfPicture, Near}
use Rattle.avc_reading.specs.Asked.{Asked, form_in}
use Rattle.avc_reading.specs.Slices.{derived_in, macroblocks_of, sets_named, with_macroblocks}

-- ---- what a unit brings

-- What a unit brings.
pub data Brought : Type 0 where
  nothing : Brought
  -- it should bring a slice, and is refused
  refused : Fault → Brought
  -- the macroblocks of a slice of this picture and the fault that came then, and what follows for
  -- the macroblocks from their neighbours
  macroblocks : OpenPicture → SliceMbs → List Derived → Brought

-- a slice that was read under these sets, among which are those that it names
abbrev pub brought_under : Sets → Option OpenPicture → Slice → Brought
brought_under sets open_picture s =
    elim (sets_named sets s.header) [
      | None ↦ nothing
      | Some named ↦
          let p = picture_of open_picture s.unit named.1 s.header in
          macroblocks p (macroblocks_of p named.0 s) (derived_in p named.0 s)
    ]

-- the slice in a unit, or why its header can't be read
abbrev pub brought_read : Sets → Option OpenPicture → Result Slice Fault → Brought
brought_read sets open_picture (Ok s) = brought_under sets open_picture s
brought_read sets open_picture (Err f) = refused f

-- A unit of this kind. Data partitions are refused (this decoder's rule).
abbrev pub brought_by : Sets → Option OpenPicture → Unit → Kind → Brought
brought_by sets open_picture u (slice idr) = brought_read sets open_picture (slice_in sets u)
brought_by sets open_picture u partition = refused faults.DataPartition
brought_by sets open_picture u sps = nothing
brought_by sets open_picture u pps = nothing
brought_by sets open_picture u boundary = nothing
brought_by sets open_picture u other = nothing

-- A unit under the parameter sets in force before it, where this picture is open. One whose
-- forbidden_zero_bit is 1 is refused (this decoder's rule).
abbrev pub brought : Sets → Option OpenPicture → Unit → Brought
brought sets open_picture u =
    elim (forbidden_zero_bit u.header) [
      | true ↦ refused faults.ForbiddenBit
      | false ↦ brought_by sets open_picture u (kind u)
    ]

-- the open picture behind it
abbrev pub picture_after : Option OpenPicture → Brought → Option OpenPicture
picture_after open_picture nothing = open_picture
picture_after open_picture (refused f) = open_picture
picture_after open_picture (macroblocks p ms derived) = Some (with_macroblocks p ms.mbs derived)

-- ---- the lines of a unit

-- a line for each macroblock, from this place on
abbrev pub mb_lines : Form → MacroblockPlace → List Mb → List Derived → List ℕ
mb_lines form place [] derived = []
mb_lines form place (mb ∷ mbs) [] = []
mb_lines form place (mb ∷ mbs) (d ∷ derived) =
    form.of_macroblock place mb d ++ mb_lines form (behind place 1) mbs derived

-- the line of a fault, if there is one
abbrev pub line_of_fault : Form → MacroblockPlace → Option Fault → List ℕ
line_of_fault form place None = []
line_of_fault form place (Some f) = form.of_fault place f

-- a slice's macroblocks, from this place on, and the fault that came then
abbrev pub slice_lines : Form → MacroblockPlace → SliceMbs → List Derived → List ℕ
slice_lines form place ms derived =
    mb_lines form place ms.mbs derived ++ line_of_fault form (behind place (length ms.mbs)) ms.fault

-- where the first macroblock of this unit's slice stands in its picture
abbrev pub first_place : (unit : ℕ) → OpenPicture → MacroblockPlace
first_place unit p = record { unit = unit; slice = p.slices; address = length p.mbs }

-- the line of a unit that is refused, which is of no picture
abbrev refusal_line_by : Selection → List ℕ → List ℕ
refusal_line_by Whole line = line
refusal_line_by (OfPicture number) line = []
refusal_line_by (Near m) line = []

-- a unit that is refused
abbrev pub refusal_lines : Asked → (unit : ℕ) → Fault → List ℕ
refusal_lines a unit f = refusal_line_by a.selection (a.form.of_refusal unit f)

-- a unit that brings this
abbrev pub unit_lines : Asked → (unit : ℕ) → Brought → List ℕ
unit_lines a unit nothing = []
unit_lines a unit (refused f) = refusal_lines a unit f
unit_lines a unit (macroblocks p ms derived) =
    if is_listed a.selection p.number p.unit
    then slice_lines (form_in a p.width) (first_place unit p) ms derived else []

-- ---- the lines of a stream

-- the open picture behind these units, where these parameter sets came before
abbrev pub picture_behind : List SetUnit → Option OpenPicture → List Unit → Option OpenPicture
picture_behind sets p [] = p
picture_behind sets p (u ∷ us) =
    picture_behind (sets ++ set_units (u ∷ [])) (picture_after p (brought (sets_after sets) p u)) us

-- the lines of these units, likewise
abbrev pub lines_under : Asked → List SetUnit → Option OpenPicture → List Unit → List ℕ
lines_under a sets p [] = []
lines_under a sets p (u ∷ us) =
    unit_lines a u.index (brought (sets_after sets) p u)
    ++ lines_under a (sets ++ set_units (u ∷ [])) (picture_after p (brought (sets_after sets) p u))
    us

-- those of the units whose end has been seen
abbrev pub lines_so_far : Asked → List ℕ → (ended : Bool) → List ℕ
lines_so_far a bytes ended = lines_under a [] None (units (length bytes) bytes ended)

-- Which macroblocks of a stream are told, and what came of it.
pub record ListedSoFar : Type 0 where
  pub selection : Selection
  pub stream : StreamSoFar

-- ---- what is asked for has come

-- how many pictures have begun, where this one is open
abbrev pub pictures_begun : Option OpenPicture → ℕ
pictures_begun None = 0
pictures_begun (Some p) = p.number + 1

-- a picture of this number has begun
abbrev pub has_begun : (number : ℕ) → List ℕ → (ended : Bool) → Bool
has_begun number bytes ended =
    nat_lt number (pictures_begun (picture_behind [] None (units (length bytes) bytes ended)))

-- The picture has come as far as the macroblock that is asked for, if one is.
abbrev pub is_met : Selection → OpenPicture → Bool
is_met Whole p = false
is_met (OfPicture number) p = false
is_met (Near m) p = m.unit == p.unit && nat_lt m.address (length p.mbs)

-- it does so with a unit that brings this
abbrev pub is_met_by : Selection → Brought → Bool
is_met_by selection nothing = false
is_met_by selection (refused f) = false
is_met_by selection (macroblocks p ms derived) =
    is_met selection (with_macroblocks p ms.mbs derived)

-- with one of these units, where these parameter sets came before
abbrev pub is_met_under : Selection → List SetUnit → Option OpenPicture → List Unit → Bool
is_met_under selection sets p [] = false
is_met_under selection sets p (u ∷ us) =
    is_met_by selection (brought (sets_after sets) p u)
    || is_met_under selection (sets ++ set_units (u ∷ []))
    (picture_after p (brought (sets_after sets) p u)) us

-- with one of those whose end has been seen
abbrev pub has_met : Selection → List ℕ → (ended : Bool) → Bool
has_met selection bytes ended = is_met_under selection [] None (units (length bytes) bytes ended)

-- the picture that is asked for has begun, if one is; of a macroblock, it has come
abbrev pub has_picture : Selection → List ℕ → (ended : Bool) → Bool
has_picture Whole bytes ended = true
has_picture (OfPicture number) bytes ended = has_begun number bytes ended
has_picture (Near m) bytes ended = has_met (Near m) bytes ended

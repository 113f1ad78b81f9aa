-- What the functions of this crate say of one another.
use Rattle.std.specs.Prelude.{◌≡◌, ℕ, ◌-◌, ◌<◌, ◌≤◌, ◌==◌, nat_lt, Bool, true, false, ◌&&◌, ◌||◌}
use Rattle.std.specs.Prelude.{if◌then◌else◌, List, [], ◌++◌, length, map, Option, Some, None}
use Rattle.avc_types.specs.declared.fault.Fault.{Fault}
use Rattle.avc_types.specs.declared.fault.Fault.TheVariants as faults
use Rattle.avc_types.specs.Pictures.{PicMb}
use Rattle.avc_annexb.specs.SplitterState.{SplitterState}
use Rattle.avc_annexb.specs.Units.{units}
use Rattle.avc_annexb.specs.declared.unit.Unit.{Unit}
use Rattle.avc_params.specs.declared.pps.Pps.{Pps}
use Rattle.avc_params.specs.declared.set_unit.SetUnit.{SetUnit}
use Rattle.avc_slice.specs.Begins.{picture_fields}
use Rattle.avc_slice.specs.declared.slice.Slice.{Slice}
use Rattle.avc_neigh.specs.Around.{PictureInfo}
use Rattle.avc_neigh.specs.TotalCoeffs.{total_coeffs_of}
use Rattle.avc_neigh.specs.declared.neighbour_info.NeighbourInfo.{NeighbourInfo}
use Rattle.avc_mbsyntax.specs.Rest.{Follows, rest_of}
use Rattle.avc_mbsyntax.specs.SliceData.{SliceMbs, SliceStart, placed}
use Rattle.avc_mbsyntax.specs.declared.slice_data.SliceData.{SliceData}
use Rattle.avc_units.specs.Grouping.{set_units}
use Rattle.avc_tools.specs.Streams.{IsDrained}
use Rattle.avc_reading.specs.Asked.{Asked, addresses}
use Rattle.avc_reading.specs.Derived.{all_derived}
use Rattle.avc_selection.specs.Forms.{Form}
use Rattle.avc_reading.specs.Listing.{Brought, first_place, is_met_by, is_met_under, lines_under}
use Rattle.avc_reading.specs.Listing.{macroblocks, picture_after, picture_behind, slice_lines}
use Rattle.avc_reading.specs.Listing.{unit_lines}
use Rattle.avc_reading.specs.Slices.{data_of, derived_in, macroblocks_of, start_of}
use Rattle.avc_reading.specs.Slices.{with_macroblocks}
use Rattle.avc_selection.specs.Followed.{IsFollowed, IsOpen, IsPicture, Tells}
use Rattle.avc_selection.specs.Pictures.{OpenPicture}
use Rattle.avc_selection.specs.declared.choice.Choice.{Choice}
use Rattle.avc_selection.specs.declared.choice.Choice.TheVariants.{Each, Later, Past}
use Rattle.avc_selection.specs.declared.derived.Derived.{Derived}
use Rattle.avc_selection.specs.declared.picture.Picture.{Picture}
use Rattle.avc_selection.specs.declared.place.MacroblockPlace.{MacroblockPlace}
use Rattle.avc_selection.specs.declared.selection.AtMacroblock.{AtMacroblock}
use Rattle.avc_selection.specs.declared.selection.Selection.{Selection}
use Rattle.avc_selection.specs.declared.selection.Selection.TheVariants.{Whole, OfPicture, Near}

-- The row stands behind these macroblocks, of which this is known, where a slice with this start
-- and number goes on.
pub record IsBehind (s : SliceStart) (before : List PicMb) (known : List Derived) (slice : ℕ)
    (row : PictureInfo) : Type 0 where
  pub wide : 0 < row.width
  pub width : s.width ≡ row.width
  pub slice_is : s.slice ≡ slice
  pub tells : Tells before known row.info

-- These macroblocks were read, and the fault that came then, so many in all: the row stands behind
-- them, and their lines are added.
pub record AreRead (form : Form) (place : MacroblockPlace) (constrained_intra_pred : Bool)
    (s : SliceStart) (before : List PicMb) (known : List Derived) (ms : SliceMbs) (count : ℕ)
    (row : PictureInfo) (old new : List ℕ) : Type 0 where
  pub counted : length ms.mbs ≡ count
  pub stands : IsBehind s (before ++ map (placed s) ms.mbs) (known
      ++ all_derived constrained_intra_pred s before known ms.mbs) place.slice row
  pub added : new ≡ old
      ++ slice_lines form place ms (all_derived constrained_intra_pred s before known ms.mbs)

-- by what is kept of a picture, it has come as far as this macroblock
abbrev pub has_come_to : AtMacroblock → Picture → Bool
has_come_to m c = m.unit == c.unit && nat_lt m.address c.next

-- what is asked for in this form
abbrev pub asked_in : Form → Selection → Asked
asked_in form selection = record { form = form; selection = selection }

-- Behind a unit that brings this, where that picture was open before, and the macroblock that is
-- asked for had come or not.
pub record IsTold (a : Asked) (unit : ℕ) (open_picture : Option OpenPicture) (b : Brought)
    (kept : Option Picture) (had_met has_met : Bool) (old new : List ℕ) : Type 0 where
  pub stands : IsOpen a.selection (picture_after open_picture b) kept
  pub met : has_met ≡ had_met || is_met_by a.selection b
  pub added : new ≡ old ++ unit_lines a unit b

-- Behind these units, where those sets came before them.
pub record AreTold (a : Asked) (sets : List SetUnit) (open_picture : Option OpenPicture)
    (us : List Unit) (kept : Option Picture) (had_met has_met : Bool)
    (old new : List ℕ) : Type 0 where
  pub stands : IsOpen a.selection (picture_behind sets open_picture us) kept
  pub met : has_met ≡ had_met || is_met_under a.selection sets open_picture us
  pub added : new ≡ old ++ lines_under a sets open_picture us

-- the same, whatever was open
abbrev pub AreToldFrom : Asked → (sets : List SetUnit) → (kept now : Option Picture) →
    (us : List Unit) → (had_met has_met : Bool) → (old new : List ℕ) → Type 0
AreToldFrom a sets kept now us had_met has_met old new =
    (open_picture : Option OpenPicture) → IsOpen a.selection open_picture kept →
    AreTold a sets open_picture us now had_met has_met old new

-- its address has fewer than 32 bits
abbrev pub IsInRange : Selection → Type 0
IsInRange Whole = Prim.Unit {0}
IsInRange (OfPicture number) = Prim.Unit {0}
IsInRange (Near m) = m.address < addresses

-- All units whose end has been seen were taken.
pub record AreListed (selection : Selection) (max : ℕ) (s : SplitterState) (sets : List SetUnit)
    (kept : Option Picture) (has_met : Bool) : Type 0 where
  pub drained : IsDrained max s
  pub sets_are : sets ≡ set_units (units max s.bytes s.ended)
  pub stands : IsOpen selection (picture_behind [] None (units max s.bytes s.ended)) kept
  pub met : has_met ≡ is_met_under selection [] None (units max s.bytes s.ended)
  pub in_range : IsInRange selection

-- a slice that begins with this address is refused (7.4.3)
abbrev pub address_fault : (next first : ℕ) → Option Fault
address_fault next first =
    if nat_lt next first then Some faults.MissingMacroblocks
    else if nat_lt first next then Some faults.ArbitrarySliceOrder
    else None

-- the data of a slice of this picture, before its first macroblock
abbrev pub IsDataIn : OpenPicture → Pps → Slice → SliceData → Type 0
IsDataIn p pps s d =
    let start = start_of p pps s.header in
    Follows start p.mbs d × (rest_of start p.mbs d ≡ data_of p pps s)

-- The picture of a slice of it behind the slice, and its lines.
pub record IsSliceListed (a : Asked) (p : OpenPicture) (pps : Pps) (s : Slice) (c : Picture)
    (old new : List ℕ) : Type 0 where
  pub stands : IsFollowed a.selection
      (with_macroblocks p (macroblocks_of p pps s).mbs (derived_in p pps s)) c
  pub added : new ≡ old
      ++ unit_lines a s.unit (macroblocks p (macroblocks_of p pps s) (derived_in p pps s))

-- the same of a picture whose macroblocks are listed
pub record IsSliceTold (form : Form) (p : OpenPicture) (pps : Pps) (s : Slice) (c : Picture)
    (old new : List ℕ) : Type 0 where
  pub stands : IsPicture (with_macroblocks p (macroblocks_of p pps s).mbs (derived_in p pps s)) c
  pub added : new ≡ old
      ++ slice_lines form (first_place s.unit p) (macroblocks_of p pps s) (derived_in p pps s)

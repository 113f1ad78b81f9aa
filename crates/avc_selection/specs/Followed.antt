-- What is kept of a picture whose slices come, and which of those to come are listed.
use Rattle.std.specs.Prelude.{◌≡◌, ℕ, ◌-◌, ◌<◌, ◌≤◌, ◌==◌, nat_lt, Bool, true, false, if◌then◌else◌}
use Rattle.std.specs.Prelude.{List, length, map, Option, Some, None}
use Rattle.avc_types.specs.Pictures.{PicMb}
use Rattle.avc_slice.specs.Begins.{picture_fields}
use Rattle.avc_neigh.specs.TotalCoeffs.{total_coeffs_of}
use Rattle.avc_neigh.specs.declared.neighbour_info.NeighbourInfo.{NeighbourInfo}
use Rattle.avc_selection.specs.Pictures.{OpenPicture}
use Rattle.avc_selection.specs.Selected.{is_listed}
use Rattle.avc_selection.specs.declared.choice.Choice.{Choice}
use Rattle.avc_selection.specs.declared.choice.Choice.TheVariants.{Each, Later, Past}
use Rattle.avc_selection.specs.declared.derived.Derived.{Derived}
use Rattle.avc_selection.specs.declared.picture.Picture.{Picture}
use Rattle.avc_selection.specs.declared.selection.Selection.{Selection}
use Rattle.avc_selection.specs.declared.selection.Selection.TheVariants.{Whole, OfPicture, Near}

-- The info says of each macroblock its slice and total_coeff of its blocks, and what follows for
-- it.
pub record Tells (mbs : List PicMb) (known : List Derived)
    (info : List NeighbourInfo) : Type 0 where
  pub slices : map (λ m. m.slice) mbs ≡ map (λ f. f.slice) info
  pub total_coeffs : map (λ m. total_coeffs_of m.mb.syntax) mbs ≡ map (λ f. f.total_coeffs) info
  pub modes : map (λ d. d.modes) known ≡ map (λ f. f.modes) info
  pub motion : map (λ d. d.motion) known ≡ map (λ f. f.motion) info

-- What is kept of an open picture.
pub record IsPicture (p : OpenPicture) (c : Picture) : Type 0 where
  pub last : c.last ≡ picture_fields p.last
  pub wide : 0 < p.width
  pub width : c.row.width ≡ p.width
  pub size : c.size ≡ p.size
  pub slices : c.slices ≡ p.slices
  pub few : p.slices ≤ length p.mbs
  pub next : c.next ≡ length p.mbs
  pub within : length p.mbs ≤ p.size
  pub tells : Tells p.mbs p.known c.row.info

-- from the picture on of which the first slice comes with a unit, where that is asked for of which
-- it comes with another
abbrev pub choice_of_unit : (asked unit : ℕ) → Choice
choice_of_unit asked unit = if asked == unit then Each else Past

-- from the first picture on, whose first slice comes with this unit
abbrev pub first_choice : Selection → (unit : ℕ) → Choice
first_choice Whole unit = Each
first_choice (OfPicture asked) unit = Later asked
first_choice (Near m) unit = choice_of_unit m.unit unit

-- from the next picture on, where pictures are counted
abbrev pub choice_later : Choice → Choice
choice_later Each = Each
choice_later (Later later) = if later == 0 then Past else Later (later - 1)
choice_later Past = Past

-- the same, whose first slice comes with this unit
abbrev pub choice_after : Selection → (unit : ℕ) → Choice → Choice
choice_after Whole unit choice = choice_later choice
choice_after (OfPicture asked) unit choice = choice_later choice
choice_after (Near m) unit choice = choice_of_unit m.unit unit

-- the first picture of the choice is listed
abbrev pub is_chosen : Choice → Bool
is_chosen Each = true
is_chosen (Later later) = later == 0
is_chosen Past = false

-- the picture that is asked for is the first one, or came before
abbrev pub has_come : Choice → Bool
has_come Each = true
has_come (Later later) = later == 0
has_come Past = true

-- from the picture of this number on, whose first slice comes with this unit
abbrev pub choice_at : Selection → (number unit : ℕ) → Choice
choice_at Whole number unit = Each
choice_at (OfPicture asked) number unit =
    if nat_lt asked number then Past else Later (asked - number)
choice_at (Near m) number unit = choice_of_unit m.unit unit

-- What is kept of an open picture: of one that is not listed the macroblocks are not read.
pub record IsFollowed (selection : Selection) (p : OpenPicture) (c : Picture) : Type 0 where
  pub last_is : c.last ≡ picture_fields p.last
  pub unit_is : c.unit ≡ p.unit
  pub choice_is : c.choice ≡ choice_at selection p.number p.unit
  pub listed : is_listed selection p.number p.unit ≡ true → IsPicture p c

-- of that which is open, if one is
abbrev pub IsOpen : Selection → Option OpenPicture → Option Picture → Type 0
IsOpen selection None None = Prim.Unit {0}
IsOpen selection (Some p) (Some c) = IsFollowed selection p c
IsOpen selection None (Some c) = ⊥
IsOpen selection (Some p) None = ⊥

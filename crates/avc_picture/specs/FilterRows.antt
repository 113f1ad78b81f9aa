-- The three rows of macroblocks whose info is kept for the deblocking filter.
use Rattle.std.specs.Prelude.{◌≡◌, ℕ, ◌+◌, ◌-◌, ◌*◌, ◌/◌, ◌<◌, ◌≤◌, nat_le, nat_lt, Bool, ◌&&◌}
use Rattle.std.specs.Prelude.{if◌then◌else◌, List, ◌++◌, ◌∷◌, [], length, Option, Some, None}
use Rattle.std.specs.Prelude.{slice_get, slice_index_or}
use Rattle.avc_types.specs.Macroblock.{Mb}
use Rattle.avc_neigh.specs.declared.neighbour_info.Motion.{Motion}
use Rattle.avc_deblock.specs.declared.mb_info.MbInfo.{MbInfo}
use Rattle.avc_deblock.specs.FilterInfo.{FirstStandStill}
use Rattle.avc_picture.specs.MacroblockInfo.{IsFilterInfo}
use Rattle.avc_picture.specs.RowLate.{FilterInfo}
use Rattle.avc_picture.specs.declared.slice_context.SliceContext.{SliceContext}

-- the first n entries of `kept` are the info from this address on
abbrev pub AreFrom : (info : List MbInfo) → (address n : ℕ) → (kept : List MbInfo) → Type 0
AreFrom info address n kept =
    (k : ℕ) (other : MbInfo) → k < n → slice_index_or kept k other
    ≡ slice_index_or info (address + k) other

-- Of all info so far that is kept of the row of the macroblock that comes next, which is in this
-- column and row, and of the two rows above it.
pub record AreLastRows (info : List MbInfo) (width column row : ℕ)
    (current last above : List MbInfo) : Type 0 where
  pub narrow : column < width
  pub count : length info ≡ row * width + column
  pub current_long : length current ≡ width
  pub last_long : length last ≡ width
  pub above_long : length above ≡ width
  pub current_is : AreFrom info (row * width) column current
  pub last_is : 1 ≤ row → AreFrom info ((row - 1) * width) width last
  pub above_is : 2 ≤ row → AreFrom info ((row - 2) * width) width above

-- The first n macroblocks of a row stand still in the frame whose number is told, if one is
-- (8.7.2.1).
abbrev pub StandStillIn : (told : Option ℕ) → (n : ℕ) → (kept : List MbInfo) → Type 0
StandStillIn told n kept = (frame : ℕ) → told ≡ Some frame → FirstStandStill frame n kept

-- What is told of the three rows holds of what is kept of them, whichever picture it is of.
pub record AreStillIn (width column : ℕ) (current_told last_told above_told : Option ℕ)
    (current last above : List MbInfo) : Type 0 where
  pub current_is : StandStillIn current_told column current
  pub last_is : StandStillIn last_told width last
  pub above_is : StandStillIn above_told width above

-- Of a picture of this width, n macroblocks of which are there, macroblock `address` is one, and
-- lies in the row of the macroblock that comes next or in one of the two rows above that.
abbrev pub is_in_last_rows : (width n address : ℕ) → Bool
is_in_last_rows width n address = nat_le ((n / width - 2) * width) address && nat_lt address n

-- the info of macroblock `address`, where it is in those rows
abbrev pub kept_info : (width : ℕ) → (info : List MbInfo) → (address : ℕ) → Option MbInfo
kept_info width info address =
    if is_in_last_rows width (length info) address then slice_get info address else None

-- with the info of one macroblock more
abbrev pub with_info_more : FilterInfo → MbInfo → FilterInfo
with_info_more old f = record { width = old.width; info = old.info ++ f ∷ [] }

-- The info of a macroblock of the slice with this motion is added.
pub record AddsInfo {PAD : ℕ} (mb : Mb) (motion : List Motion) (s : SliceContext PAD)
    (old new : FilterInfo) : Type 0 where
  pub info : MbInfo
  pub told : IsFilterInfo mb motion s info
  pub new_is : new ≡ with_info_more old info

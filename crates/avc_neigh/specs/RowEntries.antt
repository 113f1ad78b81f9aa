-- How two rows of info stand for the info of the whole picture.
use Rattle.std.specs.Prelude.{◌≡◌, ◌≢◌, ℕ, ◌+◌, ◌-◌, ◌%◌, ◌<◌, ◌≤◌, nat_lt, if◌then◌else◌, Bool}
use Rattle.std.specs.Prelude.{true, false, Option, None, slice_index_or, length, List}
use Rattle.avc_neigh.specs.declared.neighbour_info.NeighbourInfo.{NeighbourInfo}
use Rattle.avc_neigh.specs.declared.row.Place.{Place}
use Rattle.avc_neigh.specs.Around.{back}

-- the place after one, in rows of this width: where a row ends it becomes the row above
abbrev pub place_after : Place → (width : ℕ) → Place
place_after p width =
    if nat_lt (p.column + 1) width
    then record { column = p.column + 1; first = p.first; first_above = p.first_above }
    else record { column = 0; first = p.first_above; first_above = p.first }

-- From `first` on stand the macroblocks left of the next one in its row, from `first_above` on
-- those of the row above, where the picture has one.
pub record AreRowEntries (info : List NeighbourInfo) (width : ℕ) (p : Place) (has_above : Bool)
    (entries : List (Option NeighbourInfo)) : Type 0 where
  pub inside : p.column < width
  pub address : p.column ≡ length info % width
  pub room : p.first + width ≤ length entries
  pub room_above : p.first_above + width ≤ length entries
  pub apart : (j k : ℕ) → j < width → k < width → p.first + j ≢ p.first_above + k
  pub left : (k : ℕ) → k < p.column → slice_index_or entries (p.first + k) None
      ≡ back info (p.column - k)
  pub first_row : has_above ≡ false → length info ≡ p.column
  pub above : has_above ≡ true → (k : ℕ) → k < width →
      slice_index_or entries (p.first_above + k) None ≡ back info (width + p.column - k)

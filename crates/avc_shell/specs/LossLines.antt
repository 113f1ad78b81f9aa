-- What is lost behind refusals, followed beside decoding.
use Rattle.std.specs.Prelude.{◌≡◌, ℕ, ◌==◌, Bool, false, if◌then◌else◌, List, Option, Some, None}
use Rattle.avc_annexb.specs.SplitterState.{after_feed, after_finish}
use Rattle.avc_tools.specs.Losses.{Followed}
use Rattle.avc_tools.specs.declared.losses.SeenUnit.{SeenUnit}

-- What is followed goes on so. Where nothing is followed, nothing is.
abbrev pub GoesOn : (step : Followed → Followed) → (old new : Option Followed) → Type 0
GoesOn step None new = new ≡ None
GoesOn step (Some f) new = new ≡ Some (step f)

-- with the next bytes of the stream
abbrev pub with_bytes : (piece : List ℕ) → Followed → Followed
with_bytes piece f = record f { units = after_feed f.units piece }

-- with its end
abbrev pub with_end : Followed → Followed
with_end f = record f { units = after_finish f.units }

-- the last slice among the units that were taken, by the one before and the unit that is taken
-- next, if there is one
abbrev pub slice_behind : Option ℕ → Option SeenUnit → Option ℕ
slice_behind last None = last
slice_behind last (Some u) = if u.is_slice then Some u.index else last

-- the place of a unit, if there is one
abbrev pub place_of : Option SeenUnit → Option ℕ
place_of None = None
place_of (Some u) = Some u.index

-- the last slice is the unit at this place
abbrev pub is_at : Option ℕ → (unit : ℕ) → Bool
is_at None unit = false
is_at (Some last) unit = last == unit

-- how many slices were passed over, where that is known
abbrev pub passed_in : Option Followed → Option ℕ
passed_in None = None
passed_in (Some f) = Some f.passed

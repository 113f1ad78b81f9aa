-- A macroblock and its neighbours, by their addresses (6.4.9).
use Rattle.std.specs.Prelude.{ℕ, ◌+◌, ◌%◌, ◌==◌, nat_lt, Bool, false, ◌||◌, ◌&&◌, if◌then◌else◌, []}
use Rattle.avc_selection.specs.Forms.{Form}

-- The macroblock stands behind the first column, or before the last, of a picture of this width.
abbrev pub has_left : (width address : ℕ) → Bool
has_left width address = nat_lt 0 (address % width)

abbrev pub has_right : (width address : ℕ) → Bool
has_right width address = nat_lt 0 ((address + 1) % width)

-- In a picture of this width, `other` is the macroblock at this address, or the one to the left of
-- it (mbAddrA), above it (mbAddrB), above to the right (mbAddrC) or above to the left (mbAddrD,
-- 6.4.9).
abbrev pub is_near : (width address other : ℕ) → Bool
is_near width address other =
    other == address
    || (has_left width address && other + 1 == address)
    || other + width == address
    || (has_right width address && other + width == address + 1)
    || (has_left width address && other + width + 1 == address)

-- the same, in a picture that has columns
abbrev pub is_told_near : (width address other : ℕ) → Bool
is_told_near width address other = if width == 0 then false else is_near width address other

-- the form with the lines of these macroblocks alone
abbrev pub near_form : (width address : ℕ) → Form → Form
near_form width address form = record {
  of_macroblock =
      λ place mb d. if is_told_near width address place.address then form.of_macroblock place mb d
      else [];
  of_fault = λ place f. [];
  of_refusal = λ unit f. [];
}

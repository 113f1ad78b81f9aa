-- Which macroblocks of a stream are told.
use Rattle.std.specs.Prelude.{ℕ, ◌==◌, Bool, true, Option, Some, None}
use Rattle.avc_selection.specs.declared.selection.Selection.{Selection}
use Rattle.avc_selection.specs.declared.selection.Selection.TheVariants.{Whole, OfPicture, Near}

-- macroblocks are told of the picture of this number, whose first slice comes with this unit
abbrev pub is_listed : Selection → (number unit : ℕ) → Bool
is_listed Whole number unit = true
is_listed (OfPicture asked) number unit = asked == number
is_listed (Near m) number unit = m.unit == unit

-- all macroblocks, or those of the picture of a number
abbrev pub selection_of : (picture : Option ℕ) → Selection
selection_of None = Whole
selection_of (Some number) = OfPicture number

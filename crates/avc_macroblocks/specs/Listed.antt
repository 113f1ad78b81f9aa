-- Which macroblocks a listing tells, and how.
use Rattle.std.specs.Prelude.{ℕ, List, Bool, false, if◌then◌else◌}
use Rattle.avc_objects.specs.Json.{for_programs}
use Rattle.avc_reading.specs.Asked.{Asked}
use Rattle.avc_reading.specs.Listing.{lines_so_far}
use Rattle.avc_selection.specs.Forms.{Form}
use Rattle.avc_selection.specs.Selected.{selection_of}
use Rattle.avc_selection.specs.declared.selection.AtMacroblock.{AtMacroblock}
use Rattle.avc_selection.specs.declared.selection.Selection.TheVariants.{Near}
use Rattle.avc_macroblocks.specs.Lines.{for_people}
use Rattle.avc_macroblocks.specs.declared.listing.MacroblockListing.{MacroblockListing}

-- the form that a listing has
abbrev pub form_of : MacroblockListing → Form
form_of l = if l.is_json then for_programs l.has_coefficients else for_people l.has_coefficients

-- what it asks for
abbrev pub asked_by : MacroblockListing → Asked
asked_by l = record { form = form_of l; selection = selection_of l.picture }

-- the lines of a macroblock and its neighbours for people, without levels
abbrev pub asked_near : AtMacroblock → Asked
asked_near m = record { form = for_people false; selection = Near m }

-- what a listing writes of these bytes, where they are all or not
abbrev pub macroblock_lines_so_far : MacroblockListing → List ℕ → (ended : Bool) → List ℕ
macroblock_lines_so_far l = lines_so_far (asked_by l)

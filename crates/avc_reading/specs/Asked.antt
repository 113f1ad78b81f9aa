-- Which macroblocks of a stream are told, and how.
use Rattle.std.specs.Prelude.{ℕ, zero, suc, ◌+◌, ◌*◌, ◌/◌, ◌%◌, ◌^◌, ◌==◌, if◌then◌else◌}
use Rattle.avc_selection.specs.Forms.{Form}
use Rattle.avc_selection.specs.declared.selection.AtMacroblock.{AtMacroblock}
use Rattle.avc_selection.specs.declared.selection.Selection.{Selection}
use Rattle.avc_selection.specs.declared.selection.Selection.TheVariants.{Whole, OfPicture, Near}
use Rattle.avc_reading.specs.Near.{near_form}

-- What is asked for.
pub record Asked : Type 0 where
  pub form : Form
  pub selection : Selection

-- the form in which macroblocks are told, of a picture of this width in macroblocks
abbrev pub selected_form : Selection → (width : ℕ) → Form → Form
selected_form Whole width form = form
selected_form (OfPicture number) width form = form
selected_form (Near m) width form = near_form width m.address form

-- the same of what is asked for
abbrev pub form_in : Asked → (width : ℕ) → Form
form_in a width = selected_form a.selection width a.form

-- ---- texts of a stream are named by numbers

-- so many addresses a macroblock can have
abbrev pub addresses : ℕ
addresses = 2 ^ 32

-- that of all macroblocks by 0, those of single pictures by odd numbers, those of single
-- macroblocks by the even ones
abbrev pub text_number : Selection → ℕ
text_number Whole = 0
text_number (OfPicture number) = suc (2 * number)
text_number (Near m) = suc (2 * (m.unit * addresses + m.address) + 1)

-- the macroblock that this number names
abbrev pub macroblock_of_text : ℕ → AtMacroblock
macroblock_of_text n = record { unit = n / addresses; address = n % addresses }

-- what the text of this number is of
abbrev pub selection_of_text : (text_number : ℕ) → Selection
selection_of_text zero = Whole
selection_of_text (suc n) =
    if n % 2 == 0 then OfPicture (n / 2) else Near (macroblock_of_text (n / 2))

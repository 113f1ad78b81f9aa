-- How a command ends that shows pictures: which pictures of a stream become what.
use Rattle.std.specs.Prelude.{◌≡◌, ℕ, Bool, true, false, List, Option, None}
use Rattle.avc_request.specs.Commands.{mode_of}
use Rattle.avc_request.specs.declared.request.Form.{Form}
use Rattle.avc_request.specs.declared.request.Form.TheVariants as forms
use Rattle.avc_request.specs.declared.request.Showing.{Showing}
use Rattle.avc_console.specs.declared.console.Names.{Names}
use Rattle.avc_console.specs.declared.exit.Ending.{Ending}
use Rattle.avc_formats.specs.Formats.{plain, png, Format}
use Rattle.avc_formats.specs.Headed.{headed}
use Rattle.avc_formats.specs.Selecting.{selected}
use Rattle.avc_formats.specs.declared.headed.HeadedFormat.{HeadedFormat}
use Rattle.avc_formats.specs.declared.headed.HeadedFormat.TheVariants.{FrameMd5, Y4m, Y4mEach}
use Rattle.avc_run.specs.BySet.{EndsDecodingBySet}
use Rattle.avc_run.specs.Digesting.{EndsDigesting, EndsVerifying}
use Rattle.avc_run.specs.Program.{EndsDecodingAs}

-- the pictures that are asked for, in a format
abbrev pub selection_of : Showing → Format → Format
selection_of s format = selected format s.skip s.limit

-- YUV4MPEG2, where each picture has a file of its own or not
abbrev pub y4m_of : (is_each_alone : Bool) → HeadedFormat
y4m_of true = Y4mEach
y4m_of false = Y4m

-- The pictures that are asked for become this: they, or their MD5, are written; or nothing is, and
-- they are decoded, or their MD5 compared.
abbrev pub EndsShowing : Form → Showing → (is_each_alone : Bool) → Names → (explained : Bool)
    → (unread left held holds before now : Option (List ℕ)) → Ending → Type 0
EndsShowing forms.I420 s alone names explained unread left held holds before now ending =
    EndsDecodingAs names explained (selection_of s plain) s.mode unread
    left held holds before now ending
EndsShowing forms.Null s alone names explained unread left held holds before now ending =
    (holds ≡ held) × EndsDecodingAs names explained (selection_of s plain) s.mode unread
    left None None before now ending
EndsShowing forms.Md5 s alone names explained unread left held holds before now ending =
    EndsDigesting names explained (selection_of s plain) s.mode unread
    left held holds before now ending
EndsShowing forms.Y4m s alone names explained unread left held holds before now ending =
    EndsDecodingBySet names explained (λ said. selection_of s (headed (y4m_of alone) said)) s.mode
    unread left held holds before now ending
EndsShowing forms.FrameMd5 s alone names explained unread left held holds before now ending =
    EndsDecodingBySet names explained (λ said. selection_of s (headed FrameMd5 said)) s.mode unread
    left held holds before now ending
EndsShowing forms.Png s alone names explained unread left held holds before now ending =
    EndsDecodingAs names explained (selection_of s png) s.mode unread
    left held holds before now ending
EndsShowing (forms.Verify digest) s alone names explained unread left held holds before now ending =
    (holds ≡ held) × EndsVerifying names explained (selection_of s plain) s.mode
    digest unread left before now ending

-- the picture of this number in output order, as PNG
abbrev pub drawing_of : (number : ℕ) → Showing
drawing_of number = record { mode = mode_of false; skip = number; limit = 1; form = forms.Png }

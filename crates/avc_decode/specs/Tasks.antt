-- How a command ends that was asked for, where those for test benches are absent.
use Rattle.std.specs.Prelude.{◌≡◌, ℕ, Bool, true, List, Option, None}
use Rattle.std.specs.Borrow.{Bor}
use Rattle.avc_request.specs.declared.request.Form.TheVariants as forms
use Rattle.avc_request.specs.declared.request.Task.{Task}
use Rattle.avc_request.specs.declared.request.Task.TheVariants as tasks
use Rattle.avc_console.specs.Program.{EndsCutting}
use Rattle.avc_console.specs.declared.console.Names.{Names}
use Rattle.avc_console.specs.declared.exit.Ending.{Ending}
use Rattle.avc_formats.specs.Formats.{plain}
use Rattle.avc_run.specs.Program.{EndsDecodingAs}
use Rattle.avc_run.specs.Showing.{drawing_of, EndsShowing}
use Rattle.avc_program.specs.Absent.{EndsAbsent}
use Rattle.avc_info.specs.Telling.{EndsTelling, ListingEnding}

-- How a listing of macroblocks ends.
abbrev pub EndsWithout : ListingEnding
EndsWithout choice names = EndsAbsent

-- A task ended so, where the pictures have a file each or not.
abbrev pub EndsTask : Task → (other : Option (Bor (List ℕ))) → (is_each_alone : Bool) → Names →
    (explained : Bool) → (unread left held holds before now : Option (List ℕ)) → Ending → Type 0
EndsTask (tasks.Decode mode) other alone names explained unread left held holds before now ending =
    EndsDecodingAs names explained plain mode unread left held holds before now ending
EndsTask (tasks.Check mode) other alone names explained unread left held holds before now ending =
    (holds ≡ held) ×
    EndsDecodingAs names explained plain mode unread left None None before now ending
EndsTask (tasks.Show s) other alone names explained unread left held holds before now ending =
    EndsShowing s.form s alone names explained unread left held holds before now ending
EndsTask (tasks.Tell subject wording) other alone names explained unread left held holds before now
    ending =
    EndsTelling (λ wording. EndsWithout) wording subject names unread left held holds before now
    ending
EndsTask (tasks.Cut number) other alone names explained unread left held holds before now ending =
    EndsCutting names number unread left held holds before now ending
EndsTask (tasks.Draw number) other alone names explained unread left held holds before now ending =
    EndsShowing forms.Png (drawing_of number) true names explained unread left held holds before now
    ending
EndsTask (tasks.Compare how) other alone names explained unread left held holds before now ending =
    EndsAbsent unread left held holds before now ending

-- What the words of the command line name.
use Rattle.std.specs.Prelude.{◌≡◌, ◌⊎◌, ℕ, ◌^◌, ◌-◌, Bool, ◌==◌, ◌&&◌, true, false, if◌then◌else◌}
use Rattle.std.specs.Prelude.{List, Option, Some, None, codes}
use Rattle.avc_dpb.specs.declared.output.Output.{Output}
use Rattle.avc_dpb.specs.declared.output.Output.TheVariants.{Early, Full}
use Rattle.avc_request.specs.declared.words.Command.{Command}
use Rattle.avc_request.specs.declared.words.Command.TheVariants.{Compare, Cut, Decode, Headers}
use Rattle.avc_request.specs.declared.words.Command.TheVariants.{Info, Macroblocks, Picture, Pieces}
use Rattle.avc_request.specs.declared.words.Command.TheVariants.{Units}
use Rattle.avc_request.specs.declared.file_kind.FileKind.{FileKind}
use Rattle.avc_request.specs.declared.file_kind.FileKind.TheVariants as kinds
use Rattle.avc_request.specs.declared.request.Form.{Form}
use Rattle.avc_request.specs.declared.request.Form.TheVariants as forms
use Rattle.avc_request.specs.declared.request.Showing.{Showing}
use Rattle.avc_request.specs.declared.request.Task.{Task}
use Rattle.avc_request.specs.declared.request.Task.TheVariants as tasks
use Rattle.avc_request.specs.declared.request.Telling.{Telling}
use Rattle.avc_request.specs.declared.request.Telling.TheVariants.{Always, Never, ToTerminals}
use Rattle.avc_request.specs.declared.request.Wording.{Wording}
use Rattle.avc_request.specs.declared.request.Wording.TheVariants.{Json, Plain}

-- the word that names a command
abbrev pub word_of : Command → List ℕ
word_of Decode = codes "decode"
word_of Units = codes "units"
word_of Headers = codes "headers"
word_of Pieces = codes "pieces"
word_of Macroblocks = codes "macroblocks"
word_of Info = codes "info"
word_of Cut = codes "cut"
word_of Compare = codes "compare"
word_of Picture = codes "picture"

-- The word names this command, or none.
abbrev pub IsNamed : (word : List ℕ) → Option Command → Type 0
IsNamed word (Some command) = word ≡ word_of command
IsNamed word None = (command : Command) → word ≡ word_of command → ⊥

-- the mode of output, by whether `--early` is among the words
abbrev pub mode_of : (early : Bool) → Output
mode_of true = Early
mode_of false = Full

-- The output of a command is written: a container by none, a picture as PNG by those that show
-- pictures, and by that of one picture no other.
abbrev pub IsWritten : Command → FileKind → Type 0
IsWritten command kinds.Container = ⊥
IsWritten command kinds.Png = (command ≡ Decode) ⊎ (command ≡ Picture)
IsWritten command kinds.Y4m = command ≡ Picture → ⊥
IsWritten command kinds.Other = Unit {0}

-- when progress is told, by whether `--progress` or `--quiet` is among the words
abbrev pub progress_of : (is_wanted is_quiet : Bool) → Telling
progress_of is_wanted true = Never
progress_of true false = Always
progress_of false false = ToTerminals

-- the wording of what is told, by whether `--json` is among the words
abbrev pub wording_of : (json : Bool) → Wording
wording_of true = Json
wording_of false = Plain

-- The word names this form: any other than these is that of I420.
abbrev pub IsForm : (word : List ℕ) → Form → Type 0
IsForm word forms.Null = word ≡ codes "null"
IsForm word forms.Md5 = word ≡ codes "md5"
IsForm word forms.Y4m = word ≡ codes "y4m"
IsForm word forms.FrameMd5 = word ≡ codes "framemd5"
IsForm word forms.Png = word ≡ codes "png"
IsForm word forms.I420 =
    (word ≡ codes "null" → ⊥) × (word ≡ codes "md5" → ⊥) × (word ≡ codes "y4m" → ⊥) ×
    (word ≡ codes "framemd5" → ⊥) × (word ≡ codes "png" → ⊥)
IsForm word (forms.Verify digest) = ⊥

-- the form that a file of this kind asks for
abbrev pub form_by_name : FileKind → Form
form_by_name kinds.Y4m = forms.Y4m
form_by_name kinds.Png = forms.Png
form_by_name kinds.Container = forms.I420
form_by_name kinds.Other = forms.I420

-- the task of showing all pictures in a form
abbrev pub task_of_all : Showing → Form → Task
task_of_all showing forms.I420 = tasks.Decode showing.mode
task_of_all showing forms.Null = tasks.Check showing.mode
task_of_all showing forms.Md5 = tasks.Show showing
task_of_all showing forms.Y4m = tasks.Show showing
task_of_all showing forms.FrameMd5 = tasks.Show showing
task_of_all showing forms.Png = tasks.Show showing
task_of_all showing (forms.Verify digest) = tasks.Show showing

-- the task of showing pictures: none are left out where none is skipped and the limit is the
-- greatest number
abbrev pub task_showing : Showing → Task
task_showing showing =
    if showing.skip == 0 && showing.limit == 2 ^ 64 - 1 then task_of_all showing showing.form
    else tasks.Show showing

-- what is written in this form is no text
abbrev pub is_raw_form : Form → Bool
is_raw_form forms.I420 = true
is_raw_form forms.Y4m = true
is_raw_form forms.Png = true
is_raw_form forms.Null = false
is_raw_form forms.Md5 = false
is_raw_form forms.FrameMd5 = false
is_raw_form (forms.Verify digest) = false

-- what a task writes is no text
abbrev pub is_raw : Task → Bool
is_raw (tasks.Decode mode) = true
is_raw (tasks.Cut number) = true
is_raw (tasks.Draw number) = true
is_raw (tasks.Show showing) = is_raw_form showing.form
is_raw (tasks.Check mode) = false
is_raw (tasks.Tell subject wording) = false
is_raw (tasks.Compare how) = false

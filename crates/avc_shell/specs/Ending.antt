-- The exit status where there had to be pictures.
use Rattle.std.specs.Prelude.{ℕ, ◌-◌, min, Bool, true, false, ◌==◌, nat_le, ◌&&◌, if◌then◌else◌}
use Rattle.std.specs.Prelude.{List, [], ◌∷◌, ◌++◌, codes, Option, Some, None}
use Rattle.std.specs.Fmt.{decimal}
use Rattle.avc_request.specs.declared.request.Form.{Form}
use Rattle.avc_request.specs.declared.request.Form.TheVariants as forms
use Rattle.avc_request.specs.declared.request.Task.{Task}
use Rattle.avc_request.specs.declared.request.Task.TheVariants as tasks

-- where there had to be pictures, none are as a refusal
abbrev pub status_wanting : (is_wanted : Bool) → (pictures status : ℕ) → ℕ
status_wanting is_wanted pictures status =
    if is_wanted && (pictures == 0 && status == 0) then 1 else status

-- the pictures are compared
abbrev pub is_verifying : Form → Bool
is_verifying (forms.Verify digest) = true
is_verifying forms.I420 = false
is_verifying forms.Null = false
is_verifying forms.Md5 = false
is_verifying forms.Y4m = false
is_verifying forms.FrameMd5 = false
is_verifying forms.Png = false

-- they are, or one is drawn
abbrev pub has_to_show : Task → Bool
has_to_show (tasks.Show showing) = is_verifying showing.form
has_to_show (tasks.Decode mode) = false
has_to_show (tasks.Check mode) = false
has_to_show (tasks.Tell subject wording) = false
has_to_show (tasks.Cut number) = false
has_to_show (tasks.Draw number) = true
has_to_show (tasks.Compare how) = true

-- how many of so many pictures are shown: so many at most behind those that are skipped
abbrev pub shown_by : Task → (pictures : ℕ) → ℕ
shown_by (tasks.Show showing) pictures = min (pictures - showing.skip) showing.limit
shown_by (tasks.Draw number) pictures = min (pictures - number) 1
shown_by (tasks.Decode mode) pictures = pictures
shown_by (tasks.Check mode) pictures = pictures
shown_by (tasks.Tell subject wording) pictures = pictures
shown_by (tasks.Cut number) pictures = pictures
shown_by (tasks.Compare how) pictures = pictures

-- after a run of so many pictures that ended with this status
abbrev pub ended_status : (is_strict : Bool) → Task → (pictures status : ℕ) → ℕ
ended_status is_strict task pictures status =
    status_wanting (has_to_show task) (shown_by task pictures)
    (status_wanting is_strict pictures status)

-- the number of a picture that was to be drawn and isn't there, by a run of so many pictures
-- without a fault
abbrev pub absent_picture : Task → (pictures status : ℕ) → Option ℕ
absent_picture (tasks.Draw number) pictures status =
    if nat_le pictures number && nat_le status 1 then Some number else None
absent_picture (tasks.Show showing) pictures status = None
absent_picture (tasks.Decode mode) pictures status = None
absent_picture (tasks.Check mode) pictures status = None
absent_picture (tasks.Tell subject wording) pictures status = None
absent_picture (tasks.Cut number) pictures status = None
absent_picture (tasks.Compare how) pictures status = None

-- that there is none is told by this line
abbrev pub absent_picture_line : (number : ℕ) → List ℕ
absent_picture_line number = codes "avcdec: no picture " ++ decimal number ++ (10 ∷ [])

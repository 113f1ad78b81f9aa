-- How a task ends whose command a program has not.
use Rattle.std.specs.Prelude.{◌≡◌, ℕ, Bool, true, false, List, ◌∷◌, [], ◌++◌, Option, Ok, codes}
use Rattle.avc_request.specs.declared.request.Subject.TheVariants.{Macroblocks}
use Rattle.avc_request.specs.declared.request.Task.{Task}
use Rattle.avc_request.specs.declared.request.Task.TheVariants as tasks
use Rattle.avc_console.specs.Status.{answer_status}
use Rattle.avc_console.specs.Telling.{Tells}
use Rattle.avc_console.specs.declared.exit.Answer.TheVariants.{Misuse}
use Rattle.avc_console.specs.declared.exit.Ending.{Ending}

-- a task of one of the two commands that are for test benches
abbrev pub is_for_benches : Task → Bool
is_for_benches (tasks.Compare how) = true
is_for_benches (tasks.Tell (Macroblocks choice) wording) = true
is_for_benches _ = false

-- the line that tells that a program has not these
abbrev pub absent_line : List ℕ
absent_line =
    codes "avcdec: the commands `compare` and `macroblocks` are not in this program" ++ 10 ∷ []

-- That is told, and the exit status is that of wrong words.
pub record TellsAbsent (before now : Option (List ℕ)) (ending : Ending) : Type 0 where
  pub status_is : ending.status ≡ answer_status (Ok Misuse)
  pub told : Tells before now absent_line ending.told

-- Nothing is read and written, and that is told.
pub record EndsAbsent (unread left held holds before now : Option (List ℕ))
    (ending : Ending) : Type 0 where
  pub reads : left ≡ unread
  pub writes : holds ≡ held
  pub tells : TellsAbsent before now ending

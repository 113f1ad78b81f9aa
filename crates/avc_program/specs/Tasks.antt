-- How the tasks of a program end.
use Rattle.std.specs.Prelude.{ℕ, Bool, true, false, List, Option}
use Rattle.std.specs.Borrow.{Bor}
use Rattle.avc_request.specs.declared.request.Task.{Task}
use Rattle.avc_request.specs.declared.request.Task.TheVariants as tasks
use Rattle.avc_console.specs.declared.console.Names.{Names}
use Rattle.avc_console.specs.declared.exit.Ending.{Ending}

-- What a program's tasks come to: a task, where the pictures have a file each or not, ended so.
abbrev pub TaskEnding : Type 1
TaskEnding =
    Task → (other : Option (Bor (List ℕ))) → (is_each_alone : Bool) → Names → (explained : Bool) →
    (unread left held holds before now : Option (List ℕ)) → Ending → Type 0

-- Where decoding waits, and how many slices it passes over, is told of what is decoded; of pictures
-- that are compared it is not followed.
abbrev pub are_losses_told : Task → Bool
are_losses_told (tasks.Compare how) = false
are_losses_told _ = true

-- How the program's commands end.
use Rattle.std.specs.Prelude.{◌≡◌, ℕ, Bool, List, Option, Result, Ok, Err}
use Rattle.avc_console.specs.Listing.{Cuts, Lists}
use Rattle.avc_console.specs.Status.{cut_status_of, run_status, units_status}
use Rattle.avc_console.specs.Messages.{cut_text, end_text, fault_line, run_text}
use Rattle.avc_console.specs.Telling.{Tells}
use Rattle.avc_console.specs.declared.console.Names.{Names}
use Rattle.avc_console.specs.declared.exit.Ending.{Ending}
use Rattle.avc_console.specs.declared.fault.RunFault.{RunFault}
use Rattle.avc_console.specs.declared.report.Report.{Report}

-- The exit status and what is told are those of a run that came to this report, where the files
-- have these names.
pub record TellsRun (names : Names) (explained : Bool) (report : Report)
    (run : Result (Unit {0}) RunFault) (before now : Option (List ℕ))
    (ending : Ending) : Type 0 where
  pub status_is : ending.status ≡ run_status report run
  pub told : Tells before now (run_text names explained report run) ending.told

-- The same of `units` and `headers`: the exit status and what is told are those of this run.
pub record TellsListing (names : Names) (run : Result (Unit {0}) RunFault)
    (before now : Option (List ℕ)) (ending : Ending) : Type 0 where
  pub status_is : ending.status ≡ units_status run
  pub told : Tells before now (end_text names run) ending.told

pub record EndsListing (names : Names) (text : List ℕ → (ended : Bool) →
    List ℕ) (unread left held holds before now : Option (List ℕ))
    (ending : Ending) : Type 0 where
  pub run : Result (Unit {0}) RunFault
  pub lists : Lists text unread left held holds run
  pub tells : TellsListing names run before now ending

-- what `cut` tells on the standard error
abbrev pub cut_text_of : Names → (number : ℕ) → Result Bool RunFault → List ℕ
cut_text_of names number (Ok found) = cut_text number found
cut_text_of names number (Err fault) = fault_line names fault

-- the same of `cut`
pub record EndsCutting (names : Names) (number : ℕ)
    (unread left held holds before now : Option (List ℕ)) (ending : Ending) : Type 0 where
  pub run : Result Bool RunFault
  pub cuts : Cuts number unread left held holds run
  pub status_is : ending.status ≡ cut_status_of run
  pub told : Tells before now (cut_text_of names number run) ending.told

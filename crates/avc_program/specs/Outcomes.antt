-- What a run came to.
use Rattle.std.specs.Prelude.{Option, Some, Result, Ok, Err}
use Rattle.avc_console.specs.declared.fault.RunFault.{RunFault}
use Rattle.avc_console.specs.declared.reporter.Counts.{Counts}

-- after a run that ended so: where no fault ended it, these counts
abbrev pub outcome_after : Counts → Result (Unit {0}) RunFault → (before : Option Counts) →
    Option Counts
outcome_after counts (Ok _) before = Some counts
outcome_after counts (Err fault) before = before

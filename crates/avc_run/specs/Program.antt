-- How the commands that decode end.
use Rattle.std.specs.Prelude.{ℕ, Bool, List, [], Option, Result}
use Rattle.avc_decoder.specs.Output.{Output}
use Rattle.avc_console.specs.Program.{TellsRun}
use Rattle.avc_console.specs.declared.console.Names.{Names}
use Rattle.avc_console.specs.declared.exit.Ending.{Ending}
use Rattle.avc_console.specs.declared.fault.RunFault.{RunFault}
use Rattle.avc_console.specs.declared.report.Report.{Report}
use Rattle.avc_formats.specs.Formats.{Format}
use Rattle.avc_run.specs.Formats.{DecodesAs}

-- `decode` in a format was a run that came to this report, and its exit status and what it told are
-- those of this run.
pub record EndsDecodingAs (names : Names) (explained : Bool) (format : Format) (output : Output)
    (unread left held holds before now : Option (List ℕ)) (ending : Ending) : Type 0 where
  pub report : Report
  pub run : Result (Unit {0}) RunFault
  pub decodes : DecodesAs format output [] unread left held holds report run
  pub tells : TellsRun names explained report run before now ending

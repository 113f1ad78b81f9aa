-- A stream is decoded in a format that its sequence parameter set decides.
use Rattle.std.specs.Prelude.{◌≡◌, ℕ, Bool, List, [], Option, Result, Err}
use Rattle.std.specs.Io.KnownBytes.{Appends}
use Rattle.avc_decoder.specs.Output.{Output}
use Rattle.avc_console.specs.Program.{TellsRun}
use Rattle.avc_console.specs.Reporting.{no_report}
use Rattle.avc_console.specs.declared.console.Names.{Names}
use Rattle.avc_console.specs.declared.exit.Ending.{Ending}
use Rattle.avc_console.specs.declared.fault.RunFault.{RunFault}
use Rattle.avc_console.specs.declared.report.Report.{Report}
use Rattle.avc_formats.specs.Formats.{Format}
use Rattle.avc_formats.specs.Headed.{headed}
use Rattle.avc_formats.specs.Selecting.{selected}
use Rattle.avc_formats.specs.declared.headed.HeadedFormat.{HeadedFormat}
use Rattle.avc_formats.specs.declared.selected.Selected.{Selected}
use Rattle.avc_formats.specs.Front.{IsFront, NoFront}
use Rattle.avc_presentation.specs.declared.presentation.Presentation.{Presentation}
use Rattle.avc_run.specs.Formats.{DecodesAs}

-- the pictures that are asked for, in a format with a head that says this
abbrev pub selected_by : Selected HeadedFormat → Presentation → Format
selected_by asked said = selected (headed asked.format said) asked.skip asked.limit

-- A stream is decoded in the format that this set decides.
pub record DecodesBySet (format : Presentation → Format) (output : Output)
    (unread left held holds : Option (List ℕ)) (report : Report)
    (run : Result (Unit {0}) RunFault) : Type 0 where
  pub bytes : List ℕ
  pub middle : Option (List ℕ)
  pub said : Presentation
  pub front : IsFront unread middle bytes said
  pub decodes : DecodesAs (format said) output bytes unread left held holds report run

-- A stream is decoded so, or its front can't be read, and nothing is written or reported.
pub data Decodes (format : Presentation → Format) (output : Output)
    (unread left held holds : Option (List ℕ)) (report : Report)
    (run : Result (Unit {0}) RunFault) : Type 0 where
  by_set : DecodesBySet format output unread left held holds report run
      → Decodes format output unread left held holds report run
  in_front : (fault : RunFault) → run ≡ Err fault → NoFront fault unread left
      → Appends held holds [] → report ≡ no_report
      → Decodes format output unread left held holds report run

-- `decode` in such a format was a run that came to this report, and its exit status and what it
-- told are those of this run.
pub record EndsDecodingBySet (names : Names) (explained : Bool) (format : Presentation → Format)
    (output : Output) (unread left held holds before now : Option (List ℕ))
    (ending : Ending) : Type 0 where
  pub report : Report
  pub run : Result (Unit {0}) RunFault
  pub decodes : Decodes format output unread left held holds report run
  pub tells : TellsRun names explained report run before now ending

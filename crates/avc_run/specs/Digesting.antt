-- The MD5 of the pictures in place of the pictures.
use Rattle.std.specs.Prelude.{◌≡◌, ℕ, Bool, true, List, [], ◌∷◌, ◌++◌, Option, Some, Result, Ok}
use Rattle.std.specs.Prelude.{Err, codes}
use Rattle.std.specs.Io.KnownBytes.{Appends}
use Rattle.hex.specs.Hex.{encode_lower}
use Rattle.md5.specs.Md5.{md5}
use Rattle.avc_decoder.specs.Output.{Output}
use Rattle.avc_console.specs.Messages.{run_text}
use Rattle.avc_console.specs.Program.{TellsRun}
use Rattle.avc_console.specs.Status.{other_status, run_status}
use Rattle.avc_console.specs.Telling.{Tells}
use Rattle.avc_console.specs.declared.console.Names.{Names}
use Rattle.avc_console.specs.declared.exit.Ending.{Ending}
use Rattle.avc_console.specs.declared.fault.RunFault.{RunFault}
use Rattle.avc_console.specs.declared.report.Report.{Report}
use Rattle.avc_formats.specs.Formats.{Format, StopsPicture}
use Rattle.avc_formats.specs.Md5Line.{digest_line}
use Rattle.avc_run.specs.Formats.{DecodesAs}

-- A run whose bytes went into a digest (RFC 1321), and what it came to.
pub record Sums (format : Format) (output : Output) (unread left : Option (List ℕ))
    (report : Report) (run : Result (Unit {0}) RunFault) (digest : List ℕ) : Type 0 where
  pub summed : List ℕ
  pub decodes : DecodesAs format output [] unread left (Some []) (Some summed) report run
  pub digest_is : digest ≡ md5 summed

-- This line was written after a run without a fault; after a write fault less than all of it, and
-- where the run or memory failed none of it.
abbrev pub Prints : (run result : Result (Unit {0}) RunFault)
    → (held holds : Option (List ℕ)) → List ℕ → Type 0
Prints (Ok _) (Ok told) held holds line = Appends held holds line
Prints (Ok _) (Err fault) held holds line = StopsPicture fault true held holds line
Prints (Err fault) (Ok told) held holds line = ⊥
Prints (Err fault) (Err told) held holds line = (told ≡ fault) × Appends held holds []

-- The digest of what would be written is written.
pub record WritesDigest (format : Format) (output : Output)
    (unread left held holds : Option (List ℕ)) (report : Report)
    (result : Result (Unit {0}) RunFault) : Type 0 where
  pub run : Result (Unit {0}) RunFault
  pub digest : List ℕ
  pub sums : Sums format output unread left report run digest
  pub prints : Prints run result held holds (digest_line digest)

-- `--format md5` was such a run that came to this report, and its exit status and what it told are
-- those of this run.
pub record EndsDigesting (names : Names) (explained : Bool) (format : Format) (output : Output)
    (unread left held holds before now : Option (List ℕ)) (ending : Ending) : Type 0 where
  pub report : Report
  pub run : Result (Unit {0}) RunFault
  pub writes : WritesDigest format output unread left held holds report run
  pub tells : TellsRun names explained report run before now ending

-- the line that tells which digest it is, where it is another one than was expected
abbrev pub other_line : (digest : List ℕ) → List ℕ
other_line digest = codes "avcdec: the MD5 is " ++ encode_lower digest ++ 10 ∷ []

-- of a run that no fault ended
abbrev pub other_text : Result (Unit {0}) RunFault → (digest : List ℕ) → List ℕ
other_text (Ok _) digest = other_line digest
other_text (Err fault) digest = []

-- The exit status and what is told are those of this run, whose digest is another one.
pub record TellsOther (names : Names) (explained : Bool) (report : Report)
    (run : Result (Unit {0}) RunFault) (digest : List ℕ) (before now : Option (List ℕ))
    (ending : Ending) : Type 0 where
  pub status_is : ending.status ≡ other_status (run_status report run)
  pub told : Tells before now
      (run_text names explained report run ++ other_text run digest) ending.told

-- The digest of what would be written is compared.
pub record EndsVerifying (names : Names) (explained : Bool) (format : Format) (output : Output)
    (expected : List ℕ) (unread left before now : Option (List ℕ)) (ending : Ending) : Type 0 where
  pub report : Report
  pub run : Result (Unit {0}) RunFault
  pub digest : List ℕ
  pub sums : Sums format output unread left report run digest
  pub same : digest ≡ expected → TellsRun names explained report run before now ending
  pub other : (digest ≡ expected → ⊥)
      → TellsOther names explained report run digest before now ending

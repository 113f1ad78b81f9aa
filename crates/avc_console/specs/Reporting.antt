-- What a run reports while it goes on, and what of that is told at once.
use Rattle.std.specs.Prelude.{◌≡◌, ℕ, ◌+◌, Bool, true, List, [], ◌∷◌, ◌++◌, Option}
use Rattle.std.specs.List.{flat_map}
use Rattle.avc_annexb.specs.Units.{saturated}
use Rattle.avc_types.specs.declared.fault.Fault.{Fault}
use Rattle.avc_console.specs.Messages.{refusal_text}
use Rattle.avc_console.specs.Telling.{Tells}
use Rattle.avc_console.specs.declared.report.Report.{Report}

-- of a run that has not begun
abbrev pub no_report : Report
no_report = record { pictures = 0; refused = [] }

-- The report, the line that is told of each refusal, and whether all of these lines were told.
pub record Reported : Type 0 where
  pub report : Report
  pub line : ℕ × Fault → List ℕ
  pub is_told : Bool

-- with one picture more
abbrev pub with_picture : Reported → Reported
with_picture r =
    record r { report = record r.report { pictures = saturated (r.report.pictures + 1) } }

-- with one refusal more
abbrev pub with_refusal : Report → ℕ × Fault → Report
with_refusal report refusal = record report { refused = report.refused ++ refusal ∷ [] }

-- Since the standard error held `start`, the lines of all refusals were told, or where it took no
-- more the first of them.
abbrev pub IsTold : (start now : Option (List ℕ)) → Reported → Type 0
IsTold start now r = Tells start now (flat_map r.line r.report.refused) r.is_told

-- Telling went on: if the refusals so far were told, so are those that have come since, each by the
-- same line.
pub record TellsOn (old new : Reported) (before now : Option (List ℕ)) : Type 0 where
  pub line_is : new.line ≡ old.line
  pub told : (start : Option (List ℕ)) → IsTold start before old → IsTold start now new

-- A tally: the pictures and refusals that were counted, whether what they mean is told too, and
-- whether all was told.
pub record Tallied : Type 0 where
  pub pictures : ℕ
  pub refusals : List (ℕ × Fault)
  pub explained : Bool
  pub told : Bool

-- of a run that has not begun
abbrev pub new_tally : (explained : Bool) → Tallied
new_tally explained = record { pictures = 0; refusals = []; explained = explained; told = true }

-- as a report
abbrev pub report_in : Tallied → Report
report_in t = record { pictures = t.pictures; refused = t.refusals }

-- and as it is told
abbrev pub reported_by : Tallied → Reported
reported_by t = record { report = report_in t; line = refusal_text t.explained; is_told = t.told }

-- Where a comparison reports to: these words are the crate's own.
use Rattle.std.specs.Prelude.{◌≡◌, ℕ, List, Option}
use Rattle.avc_console.specs.Reporting.{Reported, TellsOn}
use Rattle.avc_compare.specs.declared.reporting.Reporting.{Reporting}

-- The same are lent to the comparison as before.
abbrev pub LendsTheSame : {T E : Type 0} → (old new : Reporting T E) → Type 0
LendsTheSame old new =
    (new.report.ghost_name ≡ old.report.ghost_name)
    × (new.errors.ghost_name ≡ old.errors.ghost_name)

-- Telling went on, by what `reported` says of a report, and `contents` of where refusals are told.
abbrev pub ReportsOn : {T E : Type 0} → (reported : T → Reported)
    → (contents : E → Option (List ℕ)) → (old new : Reporting T E) → Type 0
ReportsOn reported contents old new =
    TellsOn (reported old.report.now) (reported new.report.now)
    (contents old.errors.now) (contents new.errors.now)

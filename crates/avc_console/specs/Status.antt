-- What the program tells by its exit status.
use Rattle.std.specs.Prelude.{ℕ, ◌==◌, Bool, if◌then◌else◌, List, [], ◌∷◌, Result, Ok, Err}
use Rattle.avc_types.specs.declared.fault.Fault.{Fault}
use Rattle.avc_console.specs.declared.fault.RunFault.{RunFault}
use Rattle.avc_console.specs.declared.fault.RunFault.TheVariants.{Read, Endless, Write, Memory}
use Rattle.avc_console.specs.declared.fault.RunFault.TheVariants.{Size}
use Rattle.avc_console.specs.declared.report.Report.{Report}
use Rattle.avc_console.specs.declared.exit.Answer.{Answer}
use Rattle.avc_console.specs.declared.exit.Answer.TheVariants.{Help, Misuse}

-- 3 where reading or writing failed, also for a picture of another size, 4 where memory was refused
abbrev pub fault_status : RunFault → ℕ
fault_status Read = 3
fault_status Endless = 3
fault_status Write = 3
fault_status Memory = 4
fault_status Size = 3

-- 1 where something was refused
abbrev pub refused_status : List (ℕ × Fault) → ℕ
refused_status [] = 0
refused_status (_ ∷ _) = 1

-- after decoding
abbrev pub status_of : Result Report RunFault → ℕ
status_of (Ok report) = refused_status report.refused
status_of (Err fault) = fault_status fault

-- after decoding that came to this report, and ended so
abbrev pub run_status : Report → Result (Unit {0}) RunFault → ℕ
run_status report (Ok _) = refused_status report.refused
run_status report (Err fault) = fault_status fault

-- after decoding that ended so, where the pictures are not those that were expected: 1 in place of
-- 0
abbrev pub other_status : ℕ → ℕ
other_status status = if status == 0 then 1 else status

-- after listing units or headers
abbrev pub units_status : Result (Unit {0}) RunFault → ℕ
units_status (Ok _) = 0
units_status (Err fault) = fault_status fault

-- 1 where no piece has the number
abbrev pub cut_status : (found : Bool) → ℕ
cut_status found = if found then 0 else 1

-- after cutting out a piece
abbrev pub cut_status_of : Result Bool RunFault → ℕ
cut_status_of (Ok found) = cut_status found
cut_status_of (Err fault) = fault_status fault

-- after words that name nothing to do
abbrev pub answer_status : Result Answer RunFault → ℕ
answer_status (Ok Help) = 0
answer_status (Ok Misuse) = 2
answer_status (Err fault) = fault_status fault

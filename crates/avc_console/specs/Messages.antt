-- What the program tells on the standard error.
use Rattle.std.specs.Prelude.{ℕ, Bool, if◌then◌else◌, List, ◌∷◌, ◌++◌, [], Option, Some, None}
use Rattle.std.specs.Prelude.{Result, Ok, Err, codes}
use Rattle.std.specs.List.{flat_map}
use Rattle.std.specs.Borrow.{Bor}
use Rattle.std.specs.Fmt.{decimal}
use Rattle.avc_types.specs.declared.fault.Fault.{Fault}
use Rattle.avc_types.specs.Faults.{number_of, name_of}
use Rattle.avc_explain.specs.Explanations.{explained_line, waits_line}
use Rattle.avc_console.specs.declared.console.Names.{Names}
use Rattle.avc_console.specs.declared.fault.RunFault.{RunFault}
use Rattle.avc_console.specs.declared.fault.RunFault.TheVariants.{Read, Endless, Write, Memory}
use Rattle.avc_console.specs.declared.fault.RunFault.TheVariants.{Size}
use Rattle.avc_console.specs.declared.report.Report.{Report}

-- the end of a line
abbrev newline : List ℕ
newline = 10 ∷ []

-- of the unit at this place among the stream's units, which has this fault
abbrev pub refusal_line : ℕ × Fault → List ℕ
refusal_line (unit, fault) =
    codes "refused unit " ++ decimal unit ++ codes ": " ++ decimal (number_of fault) ++ codes " "
    ++ name_of fault ++ newline

-- and behind it, where that is wanted, the line that says what it means
unfoldable pub refusal_text : (explained : Bool) → ℕ × Fault → List ℕ
refusal_text explained refusal =
    refusal_line refusal ++ (if explained then explained_line refusal else [])

-- of each refusal, in order
abbrev pub refusal_texts : (explained : Bool) → List (ℕ × Fault) → List ℕ
refusal_texts explained refusals = flat_map (refusal_text explained) refusals

-- behind a refusal of a unit, where decoding waits from there on or not
abbrev pub loss_text : (unit : ℕ) → (waits : Bool) → List ℕ
loss_text unit waits = if waits then waits_line unit else []

-- why the program stopped
abbrev pub fault_text : RunFault → List ℕ
fault_text Read = codes "avcdec: read fault"
fault_text Endless = codes "avcdec: read fault"
fault_text Write = codes "avcdec: write fault"
fault_text Memory = codes "avcdec: out of memory"
fault_text Size = codes "avcdec: a picture of another size"

-- the file to which it happened, where that has a name
abbrev pub file_of : Names → RunFault → Option (Bor (List ℕ))
file_of names Read = names.input
file_of names Endless = names.input
file_of names Write = names.output
file_of names Memory = None
file_of names Size = None

-- behind what happened
abbrev pub name_text : Option (Bor (List ℕ)) → List ℕ
name_text None = []
name_text (Some name) = codes ": " ++ name.now

-- of a fault
abbrev pub fault_line : Names → RunFault → List ℕ
fault_line names fault = fault_text fault ++ name_text (file_of names fault) ++ newline

-- of the fault that ended a run, if one did
abbrev pub end_text : Names → Result (Unit {0}) RunFault → List ℕ
end_text names (Ok _) = []
end_text names (Err fault) = fault_line names fault

-- of a run: of its refusals, and then of its end
abbrev pub run_text : Names → (explained : Bool) → Report → Result (Unit {0}) RunFault → List ℕ
run_text names explained report run = refusal_texts explained report.refused ++ end_text names run

-- that no piece has this number
abbrev pub no_piece_line : (number : ℕ) → List ℕ
no_piece_line number = codes "avcdec: no piece " ++ decimal number ++ newline

-- where one has it or not
abbrev pub cut_text : (number : ℕ) → (found : Bool) → List ℕ
cut_text number found = if found then [] else no_piece_line number

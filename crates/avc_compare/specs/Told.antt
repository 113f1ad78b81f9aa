-- What is told of a comparison, and how the command ends.
use Rattle.std.specs.Prelude.{◌≡◌, ℕ, ◌+◌, Bool, true, false, if◌then◌else◌, List, [], ◌++◌, length}
use Rattle.std.specs.Prelude.{Option, Result, Ok, Err, codes}
use Rattle.std.specs.Fmt.{decimal, signed_decimal}
use Rattle.std.specs.List.{flat_map}
use Rattle.std.specs.Borrow.{Bor}
use Rattle.std.specs.Io.KnownBytes.{Appends}
use Rattle.avc_annexb.specs.Units.{saturated}
use Rattle.avc_difference.specs.Places.{macroblocks}
use Rattle.avc_report.specs.Text.{difference_text, newline}
use Rattle.avc_console.specs.Program.{TellsRun}
use Rattle.avc_console.specs.declared.console.Names.{Names}
use Rattle.avc_console.specs.declared.exit.Ending.{Ending}
use Rattle.avc_console.specs.declared.fault.RunFault.{RunFault}
use Rattle.avc_console.specs.declared.fault.RunFault.TheVariants.{Read, Write}
use Rattle.avc_console.specs.declared.report.Report.{Report}
use Rattle.avc_formats.specs.Formats.{StopsPicture}
use Rattle.avc_console.specs.Status.{other_status}
use Rattle.avc_compare.specs.Comparing.{Compares}
use Rattle.avc_compare.specs.declared.comparison.Comparison.{Comparison}
use Rattle.avc_compare.specs.declared.comparison.Findings.{Findings}
use Rattle.avc_compare.specs.declared.displaced.Displaced.{Displaced}
use Rattle.avc_compare.specs.declared.verdict.ComparedPicture.{ComparedPicture}
use Rattle.avc_compare.specs.declared.verdict.CompareFault.{CompareFault}
use Rattle.avc_compare.specs.declared.verdict.CompareFault.TheVariants.{Ours, Theirs}
use Rattle.avc_compare.specs.declared.verdict.Sizes.{Sizes}
use Rattle.avc_compare.specs.declared.verdict.Verdict.{Verdict}
use Rattle.avc_compare.specs.declared.verdict.Verdict.TheVariants.{Differs, Fewer, More, OtherSize}
use Rattle.avc_compare.specs.declared.verdict.Verdict.TheVariants.{Same}

-- that the other ends before the picture of this number is whole
abbrev pub fewer_line : (number : ℕ) → List ℕ
fewer_line number =
    codes "the other has fewer pictures: it ends before picture " ++ decimal number
    ++ codes " is whole" ++ newline

-- that all of so many pictures are the other's, and more bytes follow there
abbrev pub more_line : (number : ℕ) → List ℕ
more_line number =
    codes "the other has more pictures: it goes on behind all " ++ decimal number ++ newline

-- how the picture that differs is numbered (7.4.3, 8.2.1), and the unit of its first slice
abbrev pub info_line : ComparedPicture → List ℕ
info_line p =
    codes "picture " ++ decimal p.number ++ codes " has frame_num " ++ decimal p.info.frame_num
    ++ codes ", PicOrderCnt " ++ signed_decimal p.info.pic_order_cnt
    ++ codes " and its first slice in unit " ++ decimal p.info.unit ++ newline

-- the size of the other's pictures, and ours
abbrev pub sizes_line : Sizes → List ℕ
sizes_line s =
    codes "the other's pictures have " ++ decimal s.theirs.width ++ codes "x"
    ++ decimal s.theirs.height ++ codes " samples, and ours " ++ decimal s.ours.width ++ codes "x"
    ++ decimal s.ours.height ++ newline

-- what is written of a comparison
abbrev pub verdict_text : Verdict → List ℕ
verdict_text Same = []
verdict_text (Differs d) =
    info_line d.picture ++ difference_text d.picture.number d.picture.shape d.difference
verdict_text (Fewer number) = fewer_line number
verdict_text (More number) = more_line number
verdict_text (OtherSize sizes) = sizes_line sizes

-- that a picture of the other's is one of ours of another number
abbrev pub displaced_line : Displaced → List ℕ
displaced_line d =
    codes "picture " ++ decimal d.number ++ codes " is our picture " ++ decimal d.ours ++ newline

-- What is written of what a comparison found: the verdict, and behind it a line for each such
-- picture; nothing after a line that could not be written.
abbrev pub text_with : Verdict → Result (List Displaced) CompareFault → List ℕ
text_with verdict (Ok displaced) = verdict_text verdict ++ flat_map displaced_line displaced
text_with verdict (Err (Ours Write)) = []
text_with verdict (Err _) = verdict_text verdict

abbrev pub findings_text : Findings → List ℕ
findings_text f = text_with f.verdict f.displaced

-- A difference has a mark for each macroblock of its picture.
abbrev pub HasMarks : Verdict → Type 0
HasMarks (Differs d) = length (d.difference).marks.items ≡ macroblocks d.picture.shape
HasMarks _ = Unit {0}

-- This text was written; after a write fault less than all of it, and after want of memory none of
-- it.
abbrev pub WritesText : List ℕ → (held holds : Option (List ℕ))
    → Result (Unit {0}) RunFault → Type 0
WritesText text held holds (Ok _) = Appends held holds text
WritesText text held holds (Err fault) = StopsPicture fault true held holds text

-- nothing differs
abbrev pub is_same : Verdict → Bool
is_same Same = true
is_same _ = false

-- how many pictures of ours were found, where so many were reported: one more where the comparison
-- ended at a picture beside which the other has none, or none of its size
abbrev pub found_pictures : (reported : ℕ) → Verdict → ℕ
found_pictures reported (Fewer number) = saturated (reported + 1)
found_pictures reported (OtherSize sizes) = saturated (reported + 1)
found_pictures reported _ = reported

-- the exit status, by that of the run: 1 in place of 0 where something differs
abbrev pub verdict_status : Verdict → (status : ℕ) → ℕ
verdict_status verdict status = if is_same verdict then status else other_status status

-- what ended a comparison, as a run's fault
abbrev pub run_fault : CompareFault → RunFault
run_fault (Ours fault) = fault
run_fault Theirs = Read

-- the files' names at such a fault: where the other can't be read, it is the one that is read
abbrev pub fault_names : Names → (other : Option (Bor (List ℕ))) → CompareFault → Names
fault_names names other (Ours fault) = names
fault_names names other Theirs = record names { input = other }

-- how a run ended, and the files' names then
abbrev pub run_of : Result (Unit {0}) CompareFault → Result (Unit {0}) RunFault
run_of (Ok done) = Ok done
run_of (Err fault) = Err (run_fault fault)

abbrev pub names_of : Names → (other : Option (Bor (List ℕ)))
    → Result (Unit {0}) CompareFault → Names
names_of names other (Ok done) = names
names_of names other (Err fault) = fault_names names other fault

-- how a comparison ended whose findings were written so: as the writing did, or by the fault that
-- broke looking on off
abbrev pub ended_by : (written : Result (Unit {0}) RunFault) → Result (List Displaced) CompareFault
    → Result (Unit {0}) CompareFault
ended_by (Err fault) displaced = Err (Ours fault)
ended_by (Ok done) (Ok displaced) = Ok done
ended_by (Ok done) (Err fault) = Err fault

-- Findings are written, and the exit status and what is told are those of a run that ended so.
-- Where the run was broken off they are those of its fault, which names the other's file where that
-- can't be read.
abbrev pub TellsVerdict : Names → (other : Option (Bor (List ℕ))) → (explained : Bool) → Report
    → Result Findings CompareFault → (held holds before now : Option (List ℕ)) → Ending → Type 0
TellsVerdict names other explained report (Ok findings) held holds before now ending =
    (written : Result (Unit {0}) RunFault) × (decoded : Ending)
    × WritesText (findings_text findings) held holds written
    × TellsRun (names_of names other (ended_by written findings.displaced)) explained report
    (run_of (ended_by written findings.displaced)) before now decoded
    × (ending.told ≡ decoded.told)
    × (ending.status ≡ verdict_status findings.verdict decoded.status)
TellsVerdict names other explained report (Err fault) held holds before now ending =
    Appends held holds []
    × TellsRun (fault_names names other fault) explained report (Err (run_fault fault)) before now
    ending

-- `compare` was such a comparison, which came to this report. Its lines come before what is written
-- of the verdict.
pub record EndsComparing (names : Names) (other_name : Option (Bor (List ℕ))) (explained : Bool)
    (how : Comparison) (unread left other rest held holds before now : Option (List ℕ))
    (ending : Ending) : Type 0 where
  pub report : Report
  pub run : Result Findings CompareFault
  pub wrote : Option (List ℕ)
  pub compares : Compares how unread left other rest held wrote report run
  pub tells : TellsVerdict names other_name explained report run wrote holds before now ending

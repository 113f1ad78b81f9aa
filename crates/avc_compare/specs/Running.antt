-- A comparison that goes on: these words are the crate's own.
use Rattle.std.specs.Prelude.{◌≡◌, ℕ, ◌<◌, ◌≤◌, Bool, true, false, not, ◌&&◌, nat_le, nat_lt}
use Rattle.std.specs.Prelude.{if◌then◌else◌, List, [], ◌∷◌, ◌++◌, length, map, take, Option, Some}
use Rattle.std.specs.Prelude.{None, Result, Ok, Err}
use Rattle.std.specs.Io.KnownBytes.{Appends, Consumes, IsAtEnd}
use Rattle.avc_types.specs.declared.picture.Picture.{Picture as Decoded}
use Rattle.avc_yuv.specs.I420.{i420}
use Rattle.avc_difference.specs.Differences.{AreSame, IsDifference}
use Rattle.avc_report.specs.Psnr.{IsPsnr}
use Rattle.avc_report.specs.Text.{psnr_line}
use Rattle.avc_report.specs.declared.psnr.Psnr.{Psnr}
use Rattle.avc_decoder.specs.Machine.{Machine}
use Rattle.avc_decoder.specs.SeenEvents.{Event}
use Rattle.avc_decoder.specs.declared.event.Event.TheVariants.{Picture, Refused}
use Rattle.avc_console.specs.declared.fault.RunFault.{RunFault}
use Rattle.avc_console.specs.declared.fault.RunFault.TheVariants.{Memory, Write}
use Rattle.avc_console.specs.declared.report.Report.{Report}
use Rattle.avc_events.specs.EventReports.{report_with}
use Rattle.avc_console.specs.Reading.{WritesFirst}
use Rattle.md5.specs.Md5.{md5}
use Rattle.avc_events.specs.EventReports.{report_of, shown}
use Rattle.avc_console.specs.Reporting.{no_report}
use Rattle.avc_decoder.specs.Events.{pictures_in}
use Rattle.avc_compare.specs.Comparing.{other_size, AreLines, BreaksLine, IsAlike, IsDiffering}
use Rattle.avc_compare.specs.Comparing.{IsDisplaced, IsLine, IsLookedOn, IsSame}
use Rattle.avc_compare.specs.Displaced.{digests_of, most_sought, pictures_beside, Digested}
use Rattle.avc_compare.specs.Kept.{Waiting}
use Rattle.avc_compare.specs.Reading.{IsReading}
use Rattle.avc_compare.specs.declared.comparison.Comparison.{Comparison}
use Rattle.avc_types.specs.declared.fault.Fault.{Fault}
use Rattle.avc_compare.specs.declared.verdict.ComparedPicture.{ComparedPicture}
use Rattle.avc_compare.specs.declared.verdict.CompareFault.{CompareFault}
use Rattle.avc_compare.specs.declared.verdict.CompareFault.TheVariants.{Ours, Theirs}
use Rattle.avc_compare.specs.declared.displaced.Displaced.{Displaced}
use Rattle.avc_compare.specs.declared.verdict.Differing.{Differing}
use Rattle.avc_compare.specs.declared.verdict.Sizes.{Sizes}
use Rattle.avc_compare.specs.declared.verdict.Verdict.{Verdict}
use Rattle.avc_compare.specs.declared.verdict.Verdict.TheVariants.{Differs, Fewer, More, OtherSize}
use Rattle.avc_compare.specs.declared.verdict.Verdict.TheVariants.{Same}

-- The comparison ends at the picture of this number, beside which these bytes of the other stand.
abbrev pub EndsAt : (how : Comparison) → (number : ℕ) → Decoded → (here : List ℕ)
    → (left held holds : Option (List ℕ)) → Verdict → Type 0
EndsAt how number p here left held holds (Fewer n) =
    (length here < length (i420 p)) × IsAtEnd left × (n ≡ number) × Appends held holds []
    × (other_size how.size p ≡ None)
EndsAt how number p here left held holds (OtherSize sizes) =
    (here ≡ []) × (other_size how.size p ≡ Some sizes) × Appends held holds []
EndsAt how number p here left held holds (Differs d) =
    (line : List ℕ) × IsDiffering how number p here d
    × IsLine how.has_psnr number p here line × Appends held holds line
EndsAt how number p here left held holds _ = ⊥

-- the same of an event: at a refusal it doesn't end
abbrev pub EndsAtEvent : (how : Comparison) → (number : ℕ) → Event → (here : List ℕ)
    → (left held holds : Option (List ℕ)) → Verdict → Type 0
EndsAtEvent how number (Picture p) here left held holds verdict =
    EndsAt how number p here left held holds verdict
EndsAtEvent how number _ here left held holds verdict = ⊥

-- memory was refused, or the other can't be read, or the line on an event could not be written
abbrev pub StopsAt : CompareFault → (how : Comparison) → (number : ℕ) → Event → (here : List ℕ)
    → (held holds : Option (List ℕ)) → Type 0
StopsAt (Ours Memory) how number event here held holds = Appends held holds []
StopsAt (Ours Write) how number (Picture p) here held holds =
    BreaksLine how.has_psnr number p here held holds
StopsAt (Ours _) how number event here held holds = ⊥
StopsAt Theirs how number event here held holds = Appends held holds []

-- The picture of this number was compared with the other's next bytes, if there are as many.
abbrev pub ComparesPicture : (how : Comparison) → (number : ℕ) → Decoded
    → (old new held holds : Option (List ℕ)) → Result (Option Verdict) CompareFault → Type 0
ComparesPicture how number p old new held holds (Ok None) =
    (here line : List ℕ) × Consumes old new here × (length here ≡ length (i420 p))
    × AreSame how.most (i420 p) here × IsLine how.has_psnr number p here line
    × Appends held holds line × (other_size how.size p ≡ None)
ComparesPicture how number p old new held holds (Ok (Some verdict)) =
    (here : List ℕ) × Consumes old new here × EndsAt how number p here new held holds verdict
ComparesPicture how number p old new held holds (Err fault) =
    (here : List ℕ) × Consumes old new here × StopsAt fault how number (Picture p) here held holds

-- The same of an event, which is reported where the comparison goes on.
abbrev pub ComparesEvent : (how : Comparison) → Event → (old new held holds : Option (List ℕ))
    → (before now : Report) → Result (Option Verdict) CompareFault → Type 0
ComparesEvent how event old new held holds before now (Ok None) =
    (here line : List ℕ) × Consumes old new here × Appends held holds line
    × IsSame how.most (event ∷ []) here × AreLines how before (event ∷ []) here line
    × (now ≡ report_with before (event ∷ []))
ComparesEvent how event old new held holds before now (Ok (Some verdict)) =
    (here : List ℕ) × Consumes old new here
    × EndsAtEvent how before.pictures event here new held holds verdict × (now ≡ before)
ComparesEvent how event old new held holds before now (Err fault) =
    (here : List ℕ) × Consumes old new here
    × StopsAt fault how before.pictures event here held holds × (now ≡ before)

-- So many events were taken, and their pictures are the other's.
pub record IsComparing (how : Comparison) (count : ℕ)
    (unread left other rest held holds : Option (List ℕ)) (m : Machine) (a : Waiting)
    (report : Report) : Type 0 where
  pub done : List Event
  pub theirs : List ℕ
  pub text : List ℕ
  pub reading : IsReading how.output unread left m a done
  pub consumed : Consumes other rest theirs
  pub written : Appends held holds text
  pub alike : IsAlike how done theirs report text
  pub many : count ≤ length done

-- The samples of this picture are the other's, or the verdict tells their difference.
abbrev pub FindsIn : (most : ℕ) → ComparedPicture → (ours theirs : List ℕ) → Option Verdict → Type 0
FindsIn most picture ours theirs None = AreSame most ours theirs
FindsIn most picture ours theirs (Some (Differs d)) =
    (d.picture ≡ picture) × IsDifference picture.shape most ours theirs d.difference
    × (d.our_digest ≡ md5 ours) × (d.their_digest ≡ md5 theirs)
FindsIn most picture ours theirs (Some _) = ⊥

-- The line on these samples, if such lines are told.
abbrev pub IsLineOf : (told : Bool) → ComparedPicture → (ours theirs line : List ℕ) → Type 0
IsLineOf false picture ours theirs line = line ≡ []
IsLineOf true picture ours theirs line =
    (psnr : Psnr) × IsPsnr picture.shape ours theirs psnr × (line ≡ psnr_line picture.number psnr)

-- It was written; after a write fault less than all of it, and after want of memory none of it.
abbrev pub TellsLine : (told : Bool) → ComparedPicture → (ours theirs : List ℕ)
    → (held holds : Option (List ℕ)) → Result (Unit {0}) RunFault → Type 0
TellsLine told picture ours theirs held holds (Ok _) =
    (line : List ℕ) × IsLineOf told picture ours theirs line × Appends held holds line
TellsLine told picture ours theirs held holds (Err Write) =
    (line : List ℕ) × IsLineOf told picture ours theirs line × WritesFirst held holds line
TellsLine told picture ours theirs held holds (Err Memory) = Appends held holds []
TellsLine told picture ours theirs held holds (Err _) = ⊥

-- Behind all pictures: no byte of the other is left, or one is read.
abbrev pub EndsAll : (number : ℕ) → (old new : Option (List ℕ))
    → Result Verdict CompareFault → Type 0
EndsAll number old new (Ok Same) = Consumes old new [] × IsAtEnd new
EndsAll number old new (Ok (More n)) = (next : ℕ) × Consumes old new (next ∷ []) × (n ≡ number)
EndsAll number old new (Ok _) = ⊥
EndsAll number old new (Err fault) = (here : List ℕ) × Consumes old new here × (fault ≡ Theirs)

-- ---- behind the first picture that differs

-- the first of some MD5s, with one more where they are not so many
abbrev pub kept : List (List ℕ) → (digest : List ℕ) → List (List ℕ)
kept digests digest =
    if nat_lt (length digests) most_sought then digests ++ digest ∷ [] else digests

abbrev pub with_ours : (digest : List ℕ) → Digested → Digested
with_ours digest d = record { ours = kept d.ours digest; theirs = d.theirs }

abbrev pub with_theirs : (digest : List ℕ) → Digested → Digested
with_theirs digest d = record { ours = d.ours; theirs = kept d.theirs digest }

-- so many pictures were looked at that no other is, if no lines are told
abbrev pub is_enough : (how : Comparison) → (count : ℕ) → Bool
is_enough how count = not how.has_psnr && nat_le most_sought count

-- `Lacks`, of what is left of the other's bytes
abbrev pub LacksLeft : Option Sizes → (left : Option (List ℕ)) → (here : List ℕ) → Decoded → Type 0
LacksLeft None left here p = IsAtEnd left × (length here < length (i420 p))
LacksLeft (Some sizes) left here p = here ≡ []

-- The picture of this number was looked at beside the other's next bytes, if there are as many.
abbrev pub LooksAt : (how : Comparison) → (number : ℕ) → Decoded
    → (old new held holds : Option (List ℕ)) → (before now : Digested)
    → Result Bool CompareFault → Type 0
LooksAt how number p old new held holds before now (Ok true) =
    (here line : List ℕ) × Consumes old new here
    × (length here ≡ length (i420 p)) × IsLine how.has_psnr number p here line
    × Appends held holds line × (other_size how.size p ≡ None)
    × (now ≡ with_theirs (md5 here) (with_ours (md5 (i420 p)) before))
LooksAt how number p old new held holds before now (Ok false) =
    (here : List ℕ) × Consumes old new here × LacksLeft (other_size how.size p) new here p
    × Appends held holds [] × (now ≡ with_ours (md5 (i420 p)) before)
LooksAt how number p old new held holds before now (Err fault) =
    (here : List ℕ) × Consumes old new here × StopsAt fault how number (Picture p) here held holds

-- A refusal was reported, and nothing else done; after want of memory it was not.
abbrev pub PassesRefusal : (before now : Report) → (unit : ℕ) → Fault
    → Result Bool CompareFault → Type 0
PassesRefusal before now unit f (Ok true) = now ≡ report_with before (Refused unit f ∷ [])
PassesRefusal before now unit f (Ok false) = ⊥
PassesRefusal before now unit f (Err fault) = (fault ≡ Ours Memory) × (now ≡ before)

-- what is reported of a picture that was looked at
abbrev pub IsCounted : (before now : Report) → Decoded → Result Bool CompareFault → Type 0
IsCounted before now p (Ok true) = now ≡ report_with before (Picture p ∷ [])
IsCounted before now p (Ok false) = now ≡ before
IsCounted before now p (Err fault) = now ≡ before

-- The same of an event.
abbrev pub LooksAtEvent : (how : Comparison) → Event → (old new held holds : Option (List ℕ))
    → (before now : Report) → (d e : Digested) → Result Bool CompareFault → Type 0
LooksAtEvent how (Picture p) old new held holds before now d e result =
    LooksAt how before.pictures p old new held holds d e result × IsCounted before now p result
LooksAtEvent how (Refused unit f) old new held holds before now d e result =
    (new ≡ old) × (holds ≡ held) × (e ≡ d) × PassesRefusal before now unit f result

-- What is left to read of both, what the writer holds, and how far the stream was decoded and
-- reported.
pub record Stand : Type 0 where
  pub left : Option (List ℕ)
  pub rest : Option (List ℕ)
  pub holds : Option (List ℕ)
  pub machine : Machine
  pub waiting : Waiting
  pub report : Report

abbrev pub stand : (left rest holds : Option (List ℕ)) → Machine → Waiting → Report → Stand
stand left rest holds m a report =
    record { left = left; rest = rest; holds = holds; machine = m; waiting = a; report = report }

-- These events were taken, and beside their pictures these bytes of the other; the lines on them
-- are written.
pub record IsLooking (how : Comparison) (unread other held : Option (List ℕ)) (s : Stand)
    (done : List Event) (theirs text : List ℕ) : Type 0 where
  pub reading : IsReading how.output unread s.left s.machine s.waiting done
  pub consumed : Consumes other s.rest theirs
  pub written : Appends held s.holds text
  pub reported : s.report ≡ report_of done
  pub lines : AreLines how no_report done theirs text

-- Behind these events so many others were looked at, and these are the MD5s.
pub record IsFurther (how : Comparison) (count : ℕ) (unread other held : Option (List ℕ))
    (ours theirs : List ℕ) (s : Stand) (d : Digested) (done : List Event)
    (before text : List ℕ) : Type 0 where
  pub looked : List Event
  pub more : List ℕ
  pub lines : List ℕ
  pub looking : IsLooking how unread other held s (done ++ looked) (before ++ more) (text ++ lines)
  pub many : count ≤ length looked
  pub few : how.has_psnr ≡ false → length (pictures_in looked) < most_sought
  pub whole : length more ≡ length (shown looked)
  pub ours_are : d.ours ≡ take most_sought (ours ∷ digests_of (pictures_in looked))
  pub theirs_are : d.theirs
      ≡ take most_sought (theirs ∷ map md5 (pictures_beside (pictures_in looked) more))

-- Looking went on.
pub record GoesOn (how : Comparison) (count : ℕ) (ours theirs : List ℕ)
    (old new : Stand) (d : Digested) : Type 0 where
  pub on : (unread other held : Option (List ℕ)) (done : List Event) (before text : List ℕ)
      → IsLooking how unread other held old done before text
      → IsFurther how count unread other held ours theirs new d done before text

-- Looking went on to its end.
pub record LooksOn (how : Comparison) (ours theirs : List ℕ) (old new : Stand)
    (result : Result Digested CompareFault) : Type 0 where
  pub on : (unread other held : Option (List ℕ)) (done : List Event) (before text : List ℕ)
      → IsLooking how unread other held old done before text
      → IsLookedOn how unread new.left other new.rest held new.holds new.report
      done before ours theirs result

-- The other's pictures were sought from the first that differs on.
pub record Seeks (how : Comparison) (d : Differing) (old new : Stand)
    (result : Result (List Displaced) CompareFault) : Type 0 where
  pub on : (unread other held : Option (List ℕ)) (p : Decoded) (done : List Event)
      (before text : List ℕ) → IsLooking how unread other held
      (record old { report = report_with old.report (Picture p ∷ []) }) done before text
      → (seen : Result Digested CompareFault)
      × IsLookedOn how unread new.left other new.rest held new.holds new.report
      done before d.our_digest d.their_digest seen
      × IsDisplaced d.picture.number seen result

-- Behind an event at which a comparison ended the other's pictures were sought, where a picture
-- differs; and else nothing was done.
abbrev pub FindsBehind : (how : Comparison) → Verdict → (old new : Stand)
    → Result (List Displaced) CompareFault → Type 0
FindsBehind how (Differs d) old new displaced = Seeks how d old new displaced
FindsBehind how verdict old new displaced = (new ≡ old) × (displaced ≡ Ok [])

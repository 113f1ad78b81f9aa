-- A stream's pictures beside another decoder's, which are bytes: each as I420, one behind another.
use Rattle.std.specs.Prelude.{◌≡◌, ◌⊎◌, ℕ, ◌+◌, ◌<◌, ◌≤◌, ◌^◌, ◌==◌, ◌&&◌, Bool, true, false}
use Rattle.std.specs.Prelude.{if◌then◌else◌, List, [], ◌∷◌, ◌++◌, length, map, take, Option, Some}
use Rattle.std.specs.Prelude.{None, Result, Ok, Err}
use Rattle.std.specs.Io.KnownBytes.{Appends, Consumes}
use Rattle.std.specs.List.{cons_option}
use Rattle.md5.specs.Md5.{md5}
use Rattle.avc_types.specs.declared.picture.Picture.{Picture as Decoded}
use Rattle.avc_yuv.specs.I420.{i420, shown_height, shown_width}
use Rattle.avc_difference.specs.Differences.{AreSame, IsDifference}
use Rattle.avc_difference.specs.Places.{shape_of}
use Rattle.avc_report.specs.Psnr.{IsPsnr}
use Rattle.avc_report.specs.Text.{psnr_line}
use Rattle.avc_report.specs.declared.psnr.Psnr.{Psnr}
use Rattle.avc_decoder.specs.Events.{events, pictures_in}
use Rattle.avc_decoder.specs.SeenEvents.{Event}
use Rattle.avc_decoder.specs.declared.event.Event.TheVariants.{Picture, Refused}
use Rattle.avc_console.specs.Reading.{max_unit, HasRead, WritesFirst}
use Rattle.avc_console.specs.Reporting.{no_report}
use Rattle.avc_console.specs.declared.fault.RunFault.TheVariants.{Read, Write, Endless, Memory}
use Rattle.avc_console.specs.declared.report.Report.{Report}
use Rattle.avc_events.specs.EventReports.{report_of, report_with, shown}
use Rattle.avc_compare.specs.Displaced.{digests_of, displaced_pictures, most_sought}
use Rattle.avc_compare.specs.Displaced.{pictures_beside, Digested}
use Rattle.avc_compare.specs.declared.comparison.Comparison.{Comparison}
use Rattle.avc_compare.specs.declared.comparison.Findings.{Findings}
use Rattle.avc_compare.specs.declared.displaced.Displaced.{Displaced}
use Rattle.avc_compare.specs.declared.verdict.ComparedPicture.{ComparedPicture}
use Rattle.avc_compare.specs.declared.verdict.CompareFault.{CompareFault}
use Rattle.avc_compare.specs.declared.verdict.CompareFault.TheVariants.{Ours, Theirs}
use Rattle.avc_compare.specs.declared.verdict.Differing.{Differing}
use Rattle.avc_compare.specs.declared.verdict.PictureSize.{PictureSize}
use Rattle.avc_compare.specs.declared.verdict.Sizes.{Sizes}
use Rattle.avc_compare.specs.declared.verdict.Verdict.{Verdict}
use Rattle.avc_compare.specs.declared.verdict.Verdict.TheVariants.{Differs, Fewer, More, OtherSize}
use Rattle.avc_compare.specs.declared.verdict.Verdict.TheVariants.{Same}

-- The other's bytes are the pictures of these events, one behind another, where samples that are at
-- most so far apart are the same.
pub record IsSame (most : ℕ) (events : List Event) (theirs : List ℕ) : Type 0 where
  pub all : length theirs ≡ length (shown events)
  pub same : AreSame most (shown events) theirs

-- how many columns and rows of luma samples are shown of a picture (the cropping rectangle,
-- 7.4.2.1.1)
abbrev pub size_of : Decoded → PictureSize
size_of p = record { width = shown_width p; height = shown_height p }

abbrev pub is_same_size : (ours theirs : PictureSize) → Bool
is_same_size ours theirs = theirs.width == ours.width && theirs.height == ours.height

-- The size that the other's file says, where it is not that of this picture, beside it.
abbrev pub other_size : Option PictureSize → Decoded → Option Sizes
other_size None p = None
other_size (Some theirs) p =
    if is_same_size (size_of p) theirs then None
    else Some (record { ours = size_of p; theirs = theirs })

-- The line on how near a picture is to the other's bytes beside it, if such lines are told.
abbrev pub IsLine : (told : Bool) → (number : ℕ) → Decoded → (here line : List ℕ) → Type 0
IsLine false number p here line = line ≡ []
IsLine true number p here line =
    (psnr : Psnr) × IsPsnr (shape_of p) (i420 p) here psnr × (line ≡ psnr_line number psnr)

-- A picture has the size that the other says, as many of the other's first bytes beside it as it
-- has as I420, and the text begins with its line.
pub record IsBeside (how : Comparison) (number : ℕ) (p : Decoded)
    (theirs text rest more : List ℕ) : Type 0 where
  pub here : List ℕ
  pub line : List ℕ
  pub bytes : theirs ≡ here ++ rest
  pub texts : text ≡ line ++ more
  pub long : length here ≡ length (i420 p)
  pub is : IsLine how.has_psnr number p here line
  pub fits : other_size how.size p ≡ None

-- The text is the lines on the pictures of these events, which come behind what is reported.
abbrev pub AreLines : (how : Comparison) → Report → List Event → (theirs text : List ℕ) → Type 0
AreLines how r [] theirs text = (theirs ≡ []) × (text ≡ [])
AreLines how r (Picture p ∷ events) theirs text =
    (rest more : List ℕ) × IsBeside how r.pictures p theirs text rest more
    × AreLines how (report_with r (Picture p ∷ [])) events rest more
AreLines how r (Refused unit f ∷ events) theirs text =
    AreLines how (report_with r (Refused unit f ∷ [])) events theirs text

-- All pictures of these events are the other's, the report is on these events, and the text is
-- their lines.
pub record IsAlike (how : Comparison) (events : List Event) (theirs : List ℕ) (report : Report)
    (text : List ℕ) : Type 0 where
  pub same : IsSame how.most events theirs
  pub reported : report ≡ report_of events
  pub lines : AreLines how no_report events theirs text

-- Among these events is this picture. Those before it are the other's first bytes, and the report
-- and the lines are on these; other bytes follow.
pub record IsReached (how : Comparison) (events : List Event) (p : Decoded) (theirs here : List ℕ)
    (report : Report) (text : List ℕ) : Type 0 where
  pub front : List Event
  pub rest : List Event
  pub before : List ℕ
  pub parts : events ≡ front ++ Picture p ∷ rest
  pub bytes : theirs ≡ before ++ here
  pub alike : IsAlike how front before report text

-- which picture is compared, that of this number
abbrev pub compared_picture : (number : ℕ) → Decoded → ComparedPicture
compared_picture number p = record { number = number; info = p.info; shape = shape_of p }

-- What becomes of the comparison of the events that a stream defines, all or so far, with the
-- other's bytes, all or so far, and which lines are told, where no picture differs. A picture's
-- number is that of the pictures before it (the greatest number, once there).
abbrev pub Finds : (how : Comparison) → List Event → (all : Bool) → (theirs : List ℕ)
    → (over : Bool) → Report → (text : List ℕ) → Verdict → Type 0
Finds how events all theirs over report text Same =
    (all ≡ true) × (over ≡ true) × IsAlike how events theirs report text
Finds how events all theirs over report text (More number) =
    (before : List ℕ) × (next : ℕ) × (all ≡ true) × (theirs ≡ before ++ next ∷ [])
    × IsAlike how events before report text × (number ≡ report.pictures)
Finds how events all theirs over report text (Fewer number) =
    (p : Decoded) × (here : List ℕ) × IsReached how events p theirs here report text × (over ≡ true)
    × (length here < length (i420 p)) × (number ≡ report.pictures) × (other_size how.size p ≡ None)
Finds how events all theirs over report text (OtherSize sizes) =
    (p : Decoded) × IsReached how events p theirs [] report text
    × (other_size how.size p ≡ Some sizes)
Finds how events all theirs over report text (Differs d) = ⊥

-- The picture of this number differs from the other's bytes beside it.
pub record IsDiffering (how : Comparison) (number : ℕ) (p : Decoded) (here : List ℕ)
    (d : Differing) : Type 0 where
  pub long : length here ≡ length (i420 p)
  pub fits : other_size how.size p ≡ None
  pub which : d.picture ≡ compared_picture number p
  pub differs : IsDifference (shape_of p) how.most (i420 p) here d.difference
  pub ours : d.our_digest ≡ md5 (i420 p)
  pub theirs : d.their_digest ≡ md5 here

-- Why a comparison was broken off after the first of a stream's events: a read of the stream
-- failed, when no event was left; or there were so many bytes and events; or the other's file can't
-- be read; or memory was refused; or a line could not be written.
abbrev pub BreaksOffFor : CompareFault → (bytes : List ℕ) → (front rest : List Event) → Type 0
BreaksOffFor (Ours Read) bytes front rest = rest ≡ []
BreaksOffFor (Ours Endless) bytes front rest = 2 ^ 32 ≤ length bytes + length front
BreaksOffFor (Ours Memory) bytes front rest = Unit {0}
BreaksOffFor (Ours Write) bytes front rest = Unit {0}
BreaksOffFor (Ours _) bytes front rest = ⊥
BreaksOffFor Theirs bytes front rest = Unit {0}

-- Of the line on a picture less than all was written.
pub record BreaksLine (told : Bool) (number : ℕ) (p : Decoded) (here : List ℕ)
    (old new : Option (List ℕ)) : Type 0 where
  pub line : List ℕ
  pub is : IsLine told number p here line
  pub first : WritesFirst old new line

-- What was written beside whole lines: after a write fault a part of the line on the next picture,
-- and else nothing.
abbrev pub WritesPart : CompareFault → (told : Bool) → (number : ℕ) → (rest : List Event)
    → (here : List ℕ) → (old new : Option (List ℕ)) → Type 0
WritesPart (Ours Write) told number (Picture p ∷ rest) here old new =
    BreaksLine told number p here old new
WritesPart (Ours Write) told number _ here old new = ⊥
WritesPart _ told number rest here old new = Appends old new []

-- The first of these events are the other's first bytes, and the report and the lines are on them.
pub record IsBrokenOff (how : Comparison) (fault : CompareFault) (bytes : List ℕ)
    (events : List Event) (theirs : List ℕ) (held holds : Option (List ℕ))
    (report : Report) : Type 0 where
  pub front : List Event
  pub rest : List Event
  pub before : List ℕ
  pub here : List ℕ
  pub text : List ℕ
  pub wrote : Option (List ℕ)
  pub parts : events ≡ front ++ rest
  pub bytes_are : theirs ≡ before ++ here
  pub alike : IsAlike how front before report text
  pub why : BreaksOffFor fault bytes front rest
  pub lines : Appends held wrote text
  pub part : WritesPart fault how.has_psnr report.pictures rest here wrote holds

-- Beside a picture the other has not as many bytes left; or it has none of this size.
abbrev pub Lacks : Option Sizes → (over : Bool) → (part : List ℕ) → Decoded → Type 0
Lacks None over part p = (over ≡ true) × (length part < length (i420 p))
Lacks (Some sizes) over part p = part ≡ []

-- Where looking on ends behind these events: after so many pictures, if no lines are told, or with
-- the stream; or at the next picture, beside which the other lacks one.
abbrev pub EndsLooking : (how : Comparison) → (all over : Bool) → (looked others : List Event)
    → (part : List ℕ) → (last : Option Decoded) → Type 0
EndsLooking how all over looked others part None =
    (part ≡ []) × (((how.has_psnr ≡ false) × (most_sought ≤ length (pictures_in looked) + 1))
    ⊎ ((all ≡ true) × (others ≡ [])))
EndsLooking how all over looked others part (Some p) =
    (next : List Event) × (others ≡ Picture p ∷ next) × Lacks (other_size how.size p) over part p

-- Behind the first picture that differs, which has these MD5s, the pictures were looked at of these
-- events, beside the other's next bytes: their MD5s and that of the picture at which it ended; or
-- the fault that broke it off.
abbrev pub Sees : (how : Comparison) → (ours theirs : List ℕ) → (bytes : List ℕ)
    → (all over : Bool) → (done looked others : List Event) → (more part : List ℕ) → (number : ℕ)
    → (wrote holds : Option (List ℕ)) → Result Digested CompareFault → Type 0
Sees how ours theirs bytes all over done looked others more part number wrote holds (Ok d) =
    (last : Option Decoded) × EndsLooking how all over looked others part last
    × Appends wrote holds []
    × (d.ours ≡ take most_sought (ours ∷ digests_of (pictures_in looked ++ cons_option last [])))
    × (d.theirs ≡ take most_sought (theirs ∷ map md5 (pictures_beside (pictures_in looked) more)))
Sees how ours theirs bytes all over done looked others more part number wrote holds (Err fault) =
    BreaksOffFor fault bytes (done ++ looked) others
    × WritesPart fault how.has_psnr number others part wrote holds

-- Behind these events of a stream, beside which these bytes of the other stand, others were looked
-- at: the report and the lines are on all of them.
pub record IsLookedOn (how : Comparison) (unread left other rest held holds : Option (List ℕ))
    (report : Report) (done : List Event) (before ours theirs : List ℕ)
    (result : Result Digested CompareFault) : Type 0 where
  pub bytes : List ℕ
  pub all : Bool
  pub over : Bool
  pub looked : List Event
  pub others : List Event
  pub more : List ℕ
  pub part : List ℕ
  pub text : List ℕ
  pub wrote : Option (List ℕ)
  pub read : HasRead unread left bytes all
  pub read_theirs : HasRead other rest (before ++ more ++ part) over
  pub parts : events how.output max_unit bytes all ≡ done ++ looked ++ others
  pub reported : report ≡ report_of (done ++ looked)
  pub lines : AreLines how no_report (done ++ looked) (before ++ more) text
  pub written : Appends held wrote text
  pub few : how.has_psnr ≡ false → length (pictures_in looked) < most_sought
  pub sees : Sees how ours theirs bytes all over done looked others more part
      report.pictures wrote holds result

-- The other's pictures that are ours of another number, by these MD5s; or why they are not known:
-- the fault that broke looking on off, or want of memory.
abbrev pub IsDisplaced : (first : ℕ) → Result Digested CompareFault
    → Result (List Displaced) CompareFault → Type 0
IsDisplaced first (Ok d) (Ok displaced) = displaced ≡ displaced_pictures first d
IsDisplaced first (Ok d) (Err fault) = fault ≡ Ours Memory
IsDisplaced first (Err fault) (Ok displaced) = ⊥
IsDisplaced first (Err fault) (Err told) = told ≡ fault

-- What a comparison finds. The pictures before the first that differs are the other's.
abbrev pub FindsAll : (how : Comparison) → (unread left other rest held holds : Option (List ℕ))
    → Report → Verdict → Result (List Displaced) CompareFault → Type 0
FindsAll how unread left other rest held holds report (Differs d) displaced =
    (front : List Event) × (p : Decoded) × (before here : List ℕ)
    × (seen : Result Digested CompareFault) × IsSame how.most front before
    × IsDiffering how (report_of front).pictures p here d
    × IsLookedOn how unread left other rest held holds report (front ++ Picture p ∷ [])
    (before ++ here) d.our_digest d.their_digest seen
    × IsDisplaced d.picture.number seen displaced
FindsAll how unread left other rest held holds report verdict displaced =
    (bytes theirs text : List ℕ) × (all over : Bool) × HasRead unread left bytes all
    × HasRead other rest theirs over × Appends held holds text
    × Finds how (events how.output max_unit bytes all) all theirs over report text verdict
    × (displaced ≡ Ok [])

-- A stream, of which these bytes were read, was compared with the other's bytes that were read.
abbrev pub Compares : (how : Comparison) → (unread left other rest held holds : Option (List ℕ))
    → Report → Result Findings CompareFault → Type 0
Compares how unread left other rest held holds report (Ok findings) =
    FindsAll how unread left other rest held holds report findings.verdict findings.displaced
Compares how unread left other rest held holds report (Err fault) =
    (bytes theirs : List ℕ) × (all : Bool)
    × HasRead unread left bytes all × Consumes other rest theirs
    × IsBrokenOff how fault bytes (events how.output max_unit bytes all) theirs held holds report

-- What `decode` writes where pictures have a format of their own, and not all may be wanted.
use Rattle.std.specs.Prelude.{◌≡◌, ℕ, ◌+◌, ◌<◌, ◌≤◌, ◌^◌, Bool, true, false, List, [], ◌∷◌, ◌++◌}
use Rattle.std.specs.Prelude.{length, take, Option, Result, Ok, Err}
use Rattle.std.specs.Io.KnownBytes.{Appends}
use Rattle.avc_annexb.specs.Units.{saturated}
use Rattle.avc_decoder.specs.Output.{Output}
use Rattle.avc_decoder.specs.Events.{events}
use Rattle.avc_decoder.specs.SeenEvents.{Event}
use Rattle.avc_decoder.specs.declared.event.Event.TheVariants.{Picture, Refused}
use Rattle.avc_events.specs.EventReports.{report_of}
use Rattle.avc_console.specs.Reading.{max_unit, HasRead}
use Rattle.avc_formats.specs.Formats.{Format}
use Rattle.avc_formats.specs.Front.{max_read}
use Rattle.avc_console.specs.declared.fault.RunFault.{RunFault}
use Rattle.avc_console.specs.declared.fault.RunFault.TheVariants.{Read, Endless, Write, Memory}
use Rattle.avc_console.specs.declared.fault.RunFault.TheVariants.{Size}
use Rattle.avc_console.specs.declared.report.Report.{Report}

-- how many pictures went out after these events, where so many had before
abbrev pub pictures_after : (number : ℕ) → List Event → ℕ
pictures_after n [] = n
pictures_after n (Picture p ∷ events) = pictures_after (saturated (n + 1)) events
pictures_after n (Refused unit f ∷ events) = pictures_after n events

-- what is written of these events' pictures, where so many went out before
abbrev pub written_from : Format → (number : ℕ) → List Event → List ℕ
written_from format n [] = []
written_from format n (Picture p ∷ events) =
    format.text n p ++ written_from format (saturated (n + 1)) events
written_from format n (Refused unit f ∷ events) = written_from format n events

-- all pictures of these events have a size that the format can have, where so many went out before
abbrev pub AllFit : Format → (number : ℕ) → List Event → Type 0
AllFit format n [] = Unit {0}
AllFit format n (Picture p ∷ events) =
    (format.fits n p ≡ true) × AllFit format (saturated (n + 1)) events
AllFit format n (Refused unit f ∷ events) = AllFit format n events

-- They have, and are written.
pub record IsWritten (format : Format) (number : ℕ) (old new : Option (List ℕ))
    (events : List Event) : Type 0 where
  pub fit : AllFit format number events
  pub text : Appends old new (written_from format number events)

-- Behind this text the first of these further bytes were written, and not all.
pub record WritesWithin (old new : Option (List ℕ)) (text more : List ℕ) : Type 0 where
  pub count : ℕ
  pub fewer : count < length more
  pub written : Appends old new (text ++ take count more)

-- A fault came before any of these events, of which the first picture has this number, was handled
-- whole, when this text had been written: want of memory, or in the writing of the first of them, a
-- picture, that the writer took no more of it, or that it has another size. None comes from reading
-- here.
abbrev pub StopsAt : Format → (number : ℕ) → RunFault → (old new : Option (List ℕ))
    → (text : List ℕ) → List Event → Type 0
StopsAt format n Memory old new text events = Appends old new text
StopsAt format n Write old new text (Picture p ∷ events) =
    (format.fits n p ≡ true) × WritesWithin old new text (format.text n p)
StopsAt format n Size old new text (Picture p ∷ events) =
    (format.fits n p ≡ false) × Appends old new text
StopsAt format n _ old new text events = ⊥

-- A fault broke off the handling of these events: the first of them have a size that the format can
-- have, were written, each whole, and are reported.
pub record BreaksOff (format : Format) (report : Report) (fault : RunFault)
    (old new : Option (List ℕ)) (events : List Event) : Type 0 where
  pub front : List Event
  pub rest : List Event
  pub parts : events ≡ front ++ rest
  pub fit : AllFit format 0 front
  pub reported : report ≡ report_of front
  pub stops : StopsAt format (pictures_after 0 front) fault old new
      (written_from format 0 front) rest

-- These bytes were read: a front, and what the reads behind it gave. The last of these gave at most
-- 65,536 bytes, and none where it is said to be empty. It was wanted: it was the first, or the
-- pictures that had come were not yet all that are wanted.
pub record ReadsWanted (format : Format) (output : Output)
    (front bytes : List ℕ) (empty : Bool) : Type 0 where
  pub before : List ℕ
  pub last : List ℕ
  pub parts : bytes ≡ (front ++ before) ++ last
  pub short : length last ≤ max_read
  pub none : empty ≡ true → last ≡ []
  pub wanted : (before ≡ [] → ⊥)
      → format.enough (report_of (events output max_unit (front ++ before) false)).pictures ≡ false

-- Of all bytes that the reader had, a front among them that had been read, or of the first of them
-- where these bring as many pictures as are wanted, the defined pictures fit and are written, and
-- the report is on what they define. After a read fault exactly the pictures that the bytes read so
-- far define fit and are written, and reported is what these define, and also where there were more
-- reads than a run may take, each of some bytes. After other faults the events before it are. No
-- read came that was not wanted.
abbrev pub DecodesAs : Format → Output → (front : List ℕ)
    → (unread left held holds : Option (List ℕ)) → Report → Result (Unit {0}) RunFault → Type 0
DecodesAs format output front unread left held holds report (Ok _) =
    (bytes : List ℕ) × (all : Bool) × HasRead unread left bytes all
    × IsWritten format 0 held holds (events output max_unit bytes all)
    × (report ≡ report_of (events output max_unit bytes all))
    × (all ≡ false → format.enough report.pictures ≡ true)
    × ReadsWanted format output front bytes all
DecodesAs format output front unread left held holds report (Err Read) =
    (bytes : List ℕ) × HasRead unread left bytes false
    × IsWritten format 0 held holds (events output max_unit bytes false)
    × (report ≡ report_of (events output max_unit bytes false))
    × ReadsWanted format output front bytes true
DecodesAs format output front unread left held holds report (Err Endless) =
    (bytes : List ℕ) × HasRead unread left bytes false
    × IsWritten format 0 held holds (events output max_unit bytes false)
    × (report ≡ report_of (events output max_unit bytes false))
    × ReadsWanted format output front bytes true × (2 ^ 32 ≤ length bytes)
DecodesAs format output front unread left held holds report (Err fault) =
    (bytes : List ℕ) × (all : Bool) × HasRead unread left bytes all
    × BreaksOff format report fault held holds (events output max_unit bytes all)
    × ReadsWanted format output front bytes all

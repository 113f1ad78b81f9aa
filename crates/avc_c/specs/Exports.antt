-- What each call of C does to a decoder, or to none.
use Rattle.std.specs.Prelude.{◌≡◌, ◌⊎◌, ℕ, Bool, true, false, List, [], Option, Some, None, Result}
use Rattle.avc_annexb.specs.Units.{units_begun}
use Rattle.avc_dpb.specs.declared.output.Output.{Output}
use Rattle.avc_dpb.specs.declared.output.Output.TheVariants.{Early, Full}
use Rattle.avc_decoder.specs.Machine.{Machine, new_machine, IsCount, IsFeedAnswer, IsFeedUnitAnswer}
use Rattle.avc_decoder.specs.Machine.{IsTakeAnswer}
use Rattle.avc_decoder.specs.declared.error.DecodeError.{DecodeError}
use Rattle.avc_decoder.specs.SeenEvents.{Event}
use Rattle.avc_c.specs.Awaited.{awaited_behind, none_awaited, with_awaited, AwaitedMarks}
use Rattle.avc_c.specs.Awaited.{IsDroppedTold}
use Rattle.avc_c_picture.specs.Copies.{IsI420Copied, IsPlaneCopied}
use Rattle.avc_c.specs.EventRecords.{record_of}
use Rattle.avc_c_picture.specs.Answers.{call_status, picture_of, take_status, unit_status, used_by}
use Rattle.avc_c_picture.specs.InfoRecords.{IsInfoTold}
use Rattle.avc_c_picture.specs.Loans.{IsPlaneLent}
use Rattle.avc_c.specs.Marks.{with_mark}
use Rattle.avc_c_picture.specs.Statuses.{number_of}
use Rattle.avc_c.specs.declared.address.OpenDecoder.{OpenDecoder}
use Rattle.avc_c.specs.declared.event.EventRecord.{EventRecord}
use Rattle.avc_c_picture.specs.declared.info.InfoRecord.{InfoRecord}
use Rattle.avc_c.specs.declared.marks.Mark.{Mark}
use Rattle.avc_c_picture.specs.declared.rows.LentRows.{LentRows}
use Rattle.avc_c_picture.specs.declared.status.Status.{Status}
use Rattle.avc_c_picture.specs.declared.status.Status.TheVariants.{Ok, OutOfMemory, Closed, IsOpen}

-- the most bytes of a unit
abbrev pub max_unit : ℕ
max_unit = 134217728

-- when pictures go out
abbrev pub output_of : (early : Bool) → Output
output_of true = Early
output_of false = Full

-- a decoder of no bytes, with no picture and no mark
abbrev pub new_decoder : Output → OpenDecoder
new_decoder output = record {
  decoder = new_machine output;
  picture = None;
  marks = [];
  awaited = none_awaited;
}

-- as it is opened
abbrev pub opened : (early : Bool) → OpenDecoder
opened early = new_decoder (output_of early)

-- a decoder is opened, or there was no memory; an open one stays as it is
abbrev pub IsOpened : (early : Bool) → Option OpenDecoder → (status : ℕ) → Option OpenDecoder →
    Type 0
IsOpened early (Some d) status new = (status ≡ number_of IsOpen) × (new ≡ Some d)
IsOpened early None status new =
    ((status ≡ number_of Ok) × (new ≡ Some (opened early))) ⊎ ((status ≡ number_of OutOfMemory) ×
    (new ≡ None))

-- bytes are fed, or the end is told; the picture that was taken stays, and the marks
abbrev pub IsFed : (after : Machine → Machine) → Option OpenDecoder → (status : ℕ) →
    Option OpenDecoder → Type 0
IsFed after None status new = (status ≡ number_of Closed) × (new ≡ None)
IsFed after (Some d) status new =
    (answer : Result (Unit {0}) DecodeError) × (m : Machine) ×
    IsFeedAnswer d.decoder (after d.decoder) answer m ×
    (status ≡ number_of (call_status answer))
    × (new ≡ Some (record d { decoder = m }))

-- bytes are fed up to where a unit has ended, and `used` says how many; the picture that was taken
-- stays, and the marks
abbrev pub IsUnitFed : (bytes : List ℕ) → Option OpenDecoder → (status used : ℕ) →
    Option OpenDecoder → Type 0
IsUnitFed bytes None status used new = (status ≡ number_of Closed) × (used ≡ 0) × (new ≡ None)
IsUnitFed bytes (Some d) status used new =
    (answer : Result ℕ DecodeError) × (m : Machine) ×
    IsFeedUnitAnswer max_unit d.decoder bytes answer m ×
    (status ≡ number_of (unit_status answer))
    × (used ≡ used_by answer) × (new ≡ Some (record d { decoder = m }))

-- a new stream begins, with no picture and no mark
abbrev pub IsReset : Option OpenDecoder → (status : ℕ) → Option OpenDecoder → Type 0
IsReset None status new = (status ≡ number_of Closed) × (new ≡ None)
IsReset (Some d) status new =
    (status ≡ number_of Ok) × (new ≡ Some (new_decoder (d.decoder).output))

-- the next event is told, with the value of its unit, which is awaited no more, and its picture
-- kept
abbrev pub IsTaken : Option OpenDecoder → (before : EventRecord) → (status : ℕ) →
    (event : EventRecord) → Option OpenDecoder → Type 0
IsTaken None before status event new = (status ≡ number_of Closed) × (event ≡ before) × (new ≡ None)
IsTaken (Some d) before status event new =
    (answer : Result (Option Event) DecodeError) × (m : Machine) ×
    IsTakeAnswer max_unit d.decoder answer m × (status ≡ number_of (take_status answer))
    × (event ≡ record_of d.marks answer) × (new ≡ Some (record d {
      decoder = m;
      picture = picture_of answer;
      awaited = awaited_behind d.marks answer d.awaited;
    }))

-- the status of a mark: after want of memory none is made
abbrev pub mark_status : OpenDecoder → Status
mark_status d = elim (d.decoder).failed [ true ↦ OutOfMemory | false ↦ Ok ]

-- a mark at the unit that will begin next behind these bytes
abbrev pub mark_behind : List ℕ → (value : ℕ) → Mark
mark_behind bytes value = record { unit = units_begun max_unit bytes; value = value }

-- with this mark, whose value is awaited
abbrev pub marked : Mark → OpenDecoder → OpenDecoder
marked mark d = record d { marks = with_mark mark d.marks; awaited = with_awaited mark d.awaited }

-- with a mark at the unit that will begin next
abbrev pub after_mark : (value : ℕ) → OpenDecoder → OpenDecoder
after_mark value d =
    elim (d.decoder).failed [
      | true ↦ d
      | false ↦ marked (mark_behind (d.decoder).bytes value) d
    ]

-- a value is given to the units that begin from here on
abbrev pub IsMarkMade : (value : ℕ) → Option OpenDecoder → (status : ℕ) → Option OpenDecoder →
    Type 0
IsMarkMade value None status new = (status ≡ number_of Closed) × (new ≡ None)
IsMarkMade value (Some d) status new =
    (status ≡ number_of (mark_status d)) × (new ≡ Some (after_mark value d))

-- the oldest value that never comes is told
abbrev pub IsDroppedTaken : Option OpenDecoder → (old : ℕ) → (status : ℕ) → (value : ℕ) →
    Option OpenDecoder → Type 0
IsDroppedTaken None old status value new =
    (status ≡ number_of Closed) × (value ≡ old) × (new ≡ None)
IsDroppedTaken (Some d) old status value new =
    (left : AwaitedMarks) × IsDroppedTold d.awaited old status value left ×
    (new ≡ Some (record d { awaited = left }))

-- what is known of the picture that was taken last is told
abbrev pub IsInfoToldOut : Option OpenDecoder → (old : InfoRecord) → (status : ℕ) →
    (new : InfoRecord) → Type 0
IsInfoToldOut None old status new = (status ≡ number_of Closed) × (new ≡ old)
IsInfoToldOut (Some d) old status new = IsInfoTold d.picture old status new

-- the picture that was taken last is copied
abbrev pub IsI420CopiedOut : Option OpenDecoder → (old : List ℕ) → (status : ℕ) → (new : List ℕ) →
    Type 0
IsI420CopiedOut None old status new = (status ≡ number_of Closed) × (new ≡ old)
IsI420CopiedOut (Some d) old status new = IsI420Copied d.picture old status new

-- a plane of it is copied
abbrev pub IsPlaneCopiedOut : Option OpenDecoder → (plane : ℕ) → (old : List ℕ) →
    (stride status : ℕ) → (new : List ℕ) → Type 0
IsPlaneCopiedOut None plane old stride status new = (status ≡ number_of Closed) × (new ≡ old)
IsPlaneCopiedOut (Some d) plane old stride status new =
    IsPlaneCopied d.picture plane old stride status new

-- a plane of it is lent
abbrev pub IsPlaneLentOut : Option OpenDecoder → (plane : ℕ) → (old : LentRows) → (status : ℕ) →
    (new : LentRows) → Type 0
IsPlaneLentOut None plane old status new = (status ≡ number_of Closed) × (new ≡ old)
IsPlaneLentOut (Some d) plane old status new = IsPlaneLent d.picture plane old status new

-- the macroblocks that were read are counted
abbrev pub IsCounted : Option OpenDecoder → (count : ℕ) → Type 0
IsCounted None count = count ≡ 0
IsCounted (Some d) count = IsCount max_unit d.decoder count

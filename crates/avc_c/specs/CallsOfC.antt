-- What C's calls of one decoder, from open to close, tell of the stream.
use Rattle.std.specs.Prelude.{◌≡◌, ◌⊎◌, ℕ, Bool, List, [], ◌∷◌, ◌++◌, take, Option, Some, None}
use Rattle.std.specs.Prelude.{Result, Ok, Err}
use Rattle.avc_types.specs.declared.picture.Picture.{Picture}
use Rattle.avc_decoder.specs.Machine.{after_feed, after_flush, new_machine, Run}
use Rattle.avc_decoder.specs.declared.calls.Call.{Call}
use Rattle.avc_decoder.specs.declared.calls.Call.TheVariants.{Feed, Take, Flush, Reset}
use Rattle.avc_decoder.specs.declared.calls.Reply.{Reply}
use Rattle.avc_decoder.specs.declared.calls.Reply.TheVariants as replies
use Rattle.avc_decoder.specs.declared.error.DecodeError.{DecodeError}
use Rattle.avc_decoder.specs.SeenEvents.{Event}
use Rattle.avc_c.specs.Awaited.{awaited_behind, none_awaited, with_awaited, AwaitedMarks}
use Rattle.avc_c.specs.Awaited.{IsDroppedTold}
use Rattle.avc_c.specs.EventRecords.{record_of}
use Rattle.avc_c_picture.specs.Answers.{call_status, picture_of, take_status}
use Rattle.avc_c.specs.Exports.{mark_behind, max_unit, opened, output_of, IsDroppedTaken, IsFed}
use Rattle.avc_c.specs.Exports.{IsMarkMade, IsOpened, IsReset, IsTaken, IsUnitFed}
use Rattle.avc_c.specs.Marks.{with_mark}
use Rattle.avc_c_picture.specs.Statuses.{number_of}
use Rattle.avc_c.specs.declared.address.OpenDecoder.{OpenDecoder}
use Rattle.avc_c.specs.declared.event.EventRecord.{EventRecord}
use Rattle.avc_c.specs.declared.marks.Mark.{Mark}
use Rattle.avc_c_picture.specs.declared.status.Status.TheVariants as statuses

-- A call that C makes of an open decoder. To look is to copy its picture or a plane, to be lent a
-- plane or told of the picture, or to count; to open it changes nothing either.
pub data CallOfC : Type 0 where
  feeds : List ℕ → CallOfC
  feeds_unit : List ℕ → CallOfC
  takes : CallOfC
  takes_dropped : CallOfC
  flushes : CallOfC
  resets : CallOfC
  makes_mark : ℕ → CallOfC
  opens : Bool → CallOfC
  looks : CallOfC

-- what C is told: a status and, by a feed of one unit, how many bytes were taken; by take, an
-- event; and a value that never comes
pub record Told : Type 0 where
  pub status : ℕ
  pub used : ℕ
  pub event : EventRecord
  pub value : ℕ

-- From `old`, the call may be answered so and leave `new`. The memory of what is told held
-- `before`.
abbrev pub IsAnswered : Option OpenDecoder → CallOfC → (before : Told) → Told → Option OpenDecoder →
    Type 0
IsAnswered old (feeds piece) before told new = IsFed (after_feed piece) old told.status new
IsAnswered old (feeds_unit bytes) before told new = IsUnitFed bytes old told.status told.used new
IsAnswered old takes before told new = IsTaken old before.event told.status told.event new
IsAnswered old takes_dropped before told new =
    IsDroppedTaken old before.value told.status told.value new
IsAnswered old flushes before told new = IsFed after_flush old told.status new
IsAnswered old resets before told new = IsReset old told.status new
IsAnswered old (makes_mark value) before told new = IsMarkMade value old told.status new
IsAnswered old (opens early) before told new = IsOpened early old told.status new
IsAnswered old looks before told new = new ≡ old

-- The calls may be answered so, one after another.
abbrev pub AreAnswered : Option OpenDecoder → List CallOfC → List Told → Option OpenDecoder → Type 0
AreAnswered old [] [] new = new ≡ old
AreAnswered old (call ∷ calls) (told ∷ all_told) new =
    (before : Told) × (between : Option OpenDecoder) × IsAnswered old call before told between ×
    AreAnswered between calls all_told new
AreAnswered old [] (told ∷ all_told) new = ⊥
AreAnswered old (call ∷ calls) [] new = ⊥

-- the bytes that a feed of one unit gave: those that were taken; all, where it was not carried out
abbrev pub given_by : Result (Unit {0}) DecodeError → (used : ℕ) → List ℕ → List ℕ
given_by (Ok done) used bytes = take used bytes
given_by (Err error) used bytes = bytes

-- what is there between two calls of C: the picture that was taken last, the marks and those whose
-- values are awaited, and the bytes given since the last reset
pub record Between : Type 0 where
  pub picture : Option Picture
  pub marks : List Mark
  pub awaited : AwaitedMarks
  pub bytes : List ℕ

-- nothing yet, or behind a reset
abbrev pub at_start : Between
at_start = record { picture = None; marks = []; awaited = none_awaited; bytes = [] }

-- with the bytes of a feed that was carried out
abbrev pub after_bytes : Result (Unit {0}) DecodeError → List ℕ → Between → Between
after_bytes (Ok done) piece b = record b { bytes = b.bytes ++ piece }
after_bytes (Err error) piece b = b

-- with a mark at the unit that will begin next
abbrev pub marked_at_bytes : (value : ℕ) → Between → Between
marked_at_bytes value b = let mark = mark_behind b.bytes value in record b {
  marks = with_mark mark b.marks;
  awaited = with_awaited mark b.awaited;
}

-- behind an answer of take
abbrev pub after_take : Result (Option Event) DecodeError → Between → Between
after_take answer b = record b {
  picture = picture_of answer;
  awaited = awaited_behind b.marks answer b.awaited;
}

-- What C was told of these calls is what the machine replies to its own calls `made`: each of C's
-- feeds, take, flush and reset is one of the machine's, a feed of one unit being a feed of the
-- bytes that it took. An event has the value of the marks that were made, a value never comes by
-- what was taken, and the picture becomes that of the last take.
abbrev pub Tells : Between → List CallOfC → List Told → (made : List Call) → List Reply →
    (last : OpenDecoder) → Type 0
Tells b [] [] [] [] last =
    (last.picture ≡ b.picture) × (last.marks ≡ b.marks) × (last.awaited ≡ b.awaited)
Tells b (feeds piece ∷ calls) (told ∷ all_told) (Feed bytes ∷ made) (replies.Fed answer ∷ replies)
    last =
    (bytes ≡ piece) × (told.status ≡ number_of (call_status answer)) ×
    Tells (after_bytes answer bytes b) calls all_told made replies last
Tells b (feeds_unit piece ∷ calls) (told ∷ all_told) (Feed bytes ∷ made)
    (replies.Fed answer ∷ replies) last =
    (bytes ≡ given_by answer told.used piece) × (told.status ≡ number_of (call_status answer)) ×
    Tells (after_bytes answer bytes b) calls all_told made replies last
Tells b (takes ∷ calls) (told ∷ all_told) (Take ∷ made) (replies.Taken answer ∷ replies) last =
    (told.status ≡ number_of (take_status answer)) × (told.event ≡ record_of b.marks answer) ×
    Tells (after_take answer b) calls all_told made replies last
Tells b (takes_dropped ∷ calls) (told ∷ all_told) made replies last =
    (old : ℕ) × (left : AwaitedMarks) × IsDroppedTold b.awaited old told.status told.value left ×
    Tells (record b { awaited = left }) calls all_told made replies last
Tells b (flushes ∷ calls) (told ∷ all_told) (Flush ∷ made) (replies.Flushed answer ∷ replies) last =
    (told.status ≡ number_of (call_status answer)) × Tells b calls all_told made replies last
Tells b (resets ∷ calls) (told ∷ all_told) (Reset ∷ made) (replies.Reset ∷ replies) last =
    (told.status ≡ number_of statuses.Ok) × Tells at_start calls all_told made replies last
Tells b (makes_mark value ∷ calls) (told ∷ all_told) made replies last =
    ((told.status ≡ number_of statuses.Ok) ×
    Tells (marked_at_bytes value b) calls all_told made replies last)
    ⊎ ((told.status ≡ number_of statuses.OutOfMemory) × Tells b calls all_told made replies last)
Tells b (opens early ∷ calls) (told ∷ all_told) made replies last =
    (told.status ≡ number_of statuses.IsOpen) × Tells b calls all_told made replies last
Tells b (looks ∷ calls) (told ∷ all_told) made replies last =
    Tells b calls all_told made replies last
Tells b calls all_told made replies last = ⊥

-- However C calls a decoder from open to close, it is told the replies of a run of the machine, its
-- events have the values of its marks, and the picture that it may copy is that of the last take.
abbrev pub CallsAreARun : Type 0
CallsAreARun =
    (early : Bool) (calls : List CallOfC) (told : List Told) (last : OpenDecoder) →
    AreAnswered (Some (opened early)) calls told (Some last) →
    (made : List Call) × (answers : List Reply) ×
    Run max_unit (new_machine (output_of early)) made answers last.decoder ×
    Tells at_start calls told made answers last

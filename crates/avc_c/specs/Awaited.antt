-- The caller's values that no event had yet, and those that none will have.
use Rattle.std.specs.Prelude.{◌≡◌, ℕ, Bool, false, List, [], ◌∷◌, ◌++◌, length, drop, remove}
use Rattle.std.specs.Prelude.{position, ◌==◌, nat_le, nat_lt, if◌then◌else◌}
use Rattle.std.specs.Prelude.{Option, Some, None, Result, Ok, Err}
use Rattle.avc_decoder.specs.declared.error.DecodeError.{DecodeError}
use Rattle.avc_decoder.specs.SeenEvents.{Event}
use Rattle.avc_decoder.specs.declared.event.Event.TheVariants as events
use Rattle.avc_c.specs.Marks.{mark_of}
use Rattle.avc_c_picture.specs.Statuses.{number_of}
use Rattle.avc_c.specs.declared.marks.Mark.{Mark}
use Rattle.avc_c_picture.specs.declared.status.Status.TheVariants as statuses

-- the marks of which no event was taken, the oldest first; and the mark of the newest IDR picture
-- that was taken, by its unit: of a unit before it no event comes any more (C.4.4)
pub record AwaitedMarks : Type 0 where
  pub marks : List Mark
  pub first : ℕ

-- before any mark
abbrev pub none_awaited : AwaitedMarks
none_awaited = record { marks = []; first = 0 }

-- the marks but that of this unit
abbrev pub without : (unit : ℕ) → List Mark → List Mark
without unit marks =
    elim (position (λ m. m.unit == unit) marks) [
      | None ↦ marks
      | Some at ↦ remove marks at
    ]

-- the marks, of which the oldest goes where there are 1,024
abbrev pub with_room : List Mark → List Mark
with_room marks = if nat_le 1024 (length marks) then drop 1 marks else marks

-- with a new mark, which takes the place of one of the same unit
abbrev pub with_awaited : Mark → AwaitedMarks → AwaitedMarks
with_awaited mark a = record a { marks = with_room (without mark.unit a.marks) ++ mark ∷ [] }

-- behind an event that had the value of this mark, if of any; before an IDR picture's none comes
abbrev pub behind_mark : (is_idr : Bool) → Option Mark → AwaitedMarks → AwaitedMarks
behind_mark is_idr None a = a
behind_mark is_idr (Some mark) a = record {
  marks = without mark.unit a.marks;
  first = if is_idr then mark.unit else a.first;
}

-- behind an answer of `take`, in a stream of these marks
abbrev pub awaited_behind : List Mark → Result (Option Event) DecodeError → AwaitedMarks →
    AwaitedMarks
awaited_behind marks (Ok (Some (events.Picture p))) a =
    behind_mark (p.info).is_idr (mark_of marks (p.info).unit) a
awaited_behind marks (Ok (Some (events.Refused unit fault))) a =
    behind_mark false (mark_of marks unit) a
awaited_behind marks (Ok None) a = a
awaited_behind marks (Err error) a = a

-- the oldest value that no event had, if its mark stands before that of the newest IDR picture
abbrev pub oldest_dropped : AwaitedMarks → Option ℕ
oldest_dropped a =
    elim a.marks [
      | [] ↦ None
      | oldest ∷ newer ↦ if nat_lt oldest.unit a.first then Some oldest.value else None
    ]

-- without the oldest mark
abbrev pub without_oldest : AwaitedMarks → AwaitedMarks
without_oldest a = record a { marks = drop 1 a.marks }

-- That value is told, if there is one, and goes.
abbrev pub IsDroppedTold : AwaitedMarks → (old : ℕ) → (status : ℕ) → (new : ℕ) → AwaitedMarks →
    Type 0
IsDroppedTold a old status new left = elim (oldest_dropped a) [
  | None ↦ (status ≡ number_of statuses.NoValue) × (new ≡ old) × (left ≡ a)
  | Some value ↦ (status ≡ number_of statuses.Ok) × (new ≡ value) × (left ≡ without_oldest a)
]

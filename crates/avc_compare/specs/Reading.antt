-- A stream whose events are taken one by one: these words are the crate's own.
use Rattle.std.specs.Prelude.{◌≡◌, ℕ, ◌≤◌, ◌^◌, Bool, true, List, [], ◌∷◌, ◌++◌, length, Option}
use Rattle.std.specs.Prelude.{Some, None}
use Rattle.std.specs.Io.KnownBytes.{Consumes, IsAtEnd}
use Rattle.avc_decoder.specs.Output.{Output}
use Rattle.avc_decoder.specs.Events.{events}
use Rattle.avc_decoder.specs.Machine.{Machine}
use Rattle.avc_decoder.specs.SeenEvents.{Event}
use Rattle.avc_types.specs.Whole.{IsWhole}
use Rattle.avc_console.specs.Reading.{max_unit, HasRead}
use Rattle.avc_console.specs.declared.fault.RunFault.{RunFault}
use Rattle.avc_console.specs.declared.fault.RunFault.TheVariants.{Read, Endless, Memory}
use Rattle.avc_events.specs.EventReports.{events_defined, IfPicture}
use Rattle.avc_compare.specs.Kept.{Waiting}

-- These were read, or none.
abbrev pub ReadsSome : (old new : Option (List ℕ)) → Type 0
ReadsSome old new = (here : List ℕ) × Consumes old new here

-- Of the bytes that were read some were fed, and the rest wait; of the events that the fed ones
-- define these were taken.
pub record IsReading (output : Output) (unread left : Option (List ℕ)) (m : Machine) (a : Waiting)
    (done : List Event) : Type 0 where
  pub mode : m.output ≡ output
  pub consumed : Consumes unread left (m.bytes ++ a.bytes)
  pub ended : m.ended ≡ a.ended
  pub at_end : a.ended ≡ true → (a.bytes ≡ []) × IsAtEnd left
  pub rest : List Event
  pub parts : events_defined m ≡ done ++ rest
  pub taken : m.taken ≡ length done

-- Reading went on, and no event was taken.
pub record ReadsOn (old_left new_left : Option (List ℕ)) (old new : Machine)
    (before now : Waiting) : Type 0 where
  pub on : (output : Output) (unread : Option (List ℕ)) (done : List Event)
      → IsReading output unread old_left old before done
      → IsReading output unread new_left new now done

-- why it broke off: a read failed, when no event was left; there were so many bytes; or memory was
-- refused
abbrev pub StopsFor : RunFault → (bytes : List ℕ) → (rest : List Event) → Type 0
StopsFor Read bytes rest = rest ≡ []
StopsFor Endless bytes rest = 2 ^ 32 ≤ length bytes
StopsFor Memory bytes rest = Unit {0}
StopsFor _ bytes rest = ⊥

-- These bytes were read, and these events of them taken, when a fault came.
pub record IsReadOff (output : Output) (unread left : Option (List ℕ)) (done : List Event)
    (fault : RunFault) : Type 0 where
  pub bytes : List ℕ
  pub all : Bool
  pub rest : List Event
  pub read : HasRead unread left bytes all
  pub parts : events output max_unit bytes all ≡ done ++ rest
  pub why : StopsFor fault bytes rest

-- A fault came while reading went on.
pub record BreaksReading (old_left new_left : Option (List ℕ)) (old : Machine) (before : Waiting)
    (fault : RunFault) : Type 0 where
  pub on : (output : Output) (unread : Option (List ℕ)) (done : List Event)
      → IsReading output unread old_left old before done
      → IsReadOff output unread new_left done fault

-- The next event was taken; or there is none, since the stream has ended.
abbrev pub IsNext : Output → (unread left : Option (List ℕ)) → Machine → Waiting
    → (done : List Event) → Option Event → Type 0
IsNext output unread left m a done (Some event) =
    IsReading output unread left m a (done ++ event ∷ [])
IsNext output unread left m a done None =
    HasRead unread left m.bytes true × (events output max_unit m.bytes true ≡ done)

-- Reading went on to the next event, or to the end.
pub record TakesNext (old_left new_left : Option (List ℕ)) (old new : Machine)
    (before now : Waiting) (event : Option Event) : Type 0 where
  pub on : (output : Output) (unread : Option (List ℕ)) (done : List Event)
      → IsReading output unread old_left old before done
      → IsNext output unread new_left new now done event

-- where it is a picture, this is whole
abbrev pub IsWholeIfAny : Option Event → Type 0
IsWholeIfAny None = Unit {0}
IsWholeIfAny (Some event) = IfPicture event IsWhole

-- What waits is more, by what was read, where nothing waited; where nothing waits still, no more is
-- left to read.
pub record Fills (old_left new_left : Option (List ℕ)) (before now : Waiting) : Type 0 where
  pub more : List ℕ
  pub consumed : Consumes old_left new_left more
  pub bytes : now.bytes ≡ before.bytes ++ more
  pub ended : now.ended ≡ before.ended
  pub last : now.bytes ≡ [] → IsAtEnd new_left

-- The events that wait to be taken.
use Rattle.std.specs.Prelude.{◌≡◌, ℕ, ◌+◌, List, ◌++◌, length, Option, Some, None}
use Rattle.avc_decoder.specs.SeenEvents.{Event}

-- the events so far, and how many of them were taken
pub record QueueState : Type 0 where
  pub events : List Event
  pub taken : ℕ

-- more events at the end of the queue
abbrev pub with_events : List Event → QueueState → QueueState
with_events more q = record q { events = q.events ++ more }

-- the event at the front is taken, where there is one
abbrev pub after_queue_take : Option Event → QueueState → QueueState
after_queue_take None q = q
after_queue_take (Some e) q = record q { taken = q.taken + 1 }

-- all its events are taken
abbrev pub passed_on : QueueState → QueueState
passed_on q = record q { taken = length q.events }

-- The events of the first queue are those of the second that were taken.
pub record IsBehind (out q : QueueState) : Type 0 where
  pub more : List Event
  pub events : q.events ≡ out.events ++ more
  pub taken : q.taken ≡ length out.events

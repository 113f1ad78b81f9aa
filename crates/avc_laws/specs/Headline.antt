-- What a list of calls and their replies tell of the stream, in their own words.
use Rattle.std.specs.Prelude.{◌≡◌, ℕ, Bool, true, false, List, [], ◌∷◌, ◌++◌, Some, None, Ok}
use Rattle.avc_dpb.specs.declared.output.Output.{Output}
use Rattle.avc_decoder.specs.Events.{events}
use Rattle.avc_decoder.specs.Machine.{Machine, new_machine, Run}
use Rattle.avc_decoder.specs.declared.calls.Call.{Call}
use Rattle.avc_decoder.specs.declared.calls.Call.TheVariants.{Feed, Take, Flush, Reset}
use Rattle.avc_decoder.specs.declared.calls.Reply.{Reply}
use Rattle.avc_decoder.specs.declared.calls.Reply.TheVariants as replies
use Rattle.avc_decoder.specs.SeenEvents.{Event}

-- Since the last reset: the bytes that were fed, whether they were said to be all, and the events
-- that were taken, in order.
pub record SinceReset : Type 0 where
  pub bytes : List ℕ
  pub ended : Bool
  pub taken : List Event

-- before the first call, and after a reset
abbrev pub no_call : SinceReset
no_call = record { bytes = []; ended = false; taken = [] }

-- One call more; one that was not carried out changes nothing.
abbrev pub with_call : SinceReset → Call → Reply → SinceReset
with_call s (Feed piece) (replies.Fed (Ok done)) = record s { bytes = s.bytes ++ piece }
with_call s Flush (replies.Flushed (Ok done)) = record s { ended = true }
with_call s Take (replies.Taken (Ok (Some event))) = record s { taken = s.taken ++ event ∷ [] }
with_call s Reset reply = no_call
with_call s call reply = s

-- after these calls, each with its reply; calls without replies, and replies without calls, change
-- nothing
abbrev pub since_reset : SinceReset → List Call → List Reply → SinceReset
since_reset s (call ∷ calls) (reply ∷ replies) = since_reset (with_call s call reply) calls replies
since_reset s _ _ = s

-- the events that the bytes since the last reset define
abbrev pub defined_events : Output → (max : ℕ) → SinceReset → List Event
defined_events output max s = events output max s.bytes s.ended

-- However a decoder is called, the n-th event that was taken since the last reset is the n-th that
-- is defined on the bytes since then.
abbrev pub TakesThem : Type 0
TakesThem =
    (output : Output) (max : ℕ) (calls : List Call) (answers : List Reply) (last : Machine) →
    Run max (new_machine output) calls answers last →
    (others : List Event) ×
    (defined_events output max (since_reset no_call calls answers)
    ≡ (since_reset no_call calls answers).taken ++ others)

-- Where a call of `take` after these calls is answered by None, these are all.
abbrev pub TakesAll : Type 0
TakesAll =
    (output : Output) (max : ℕ) (calls : List Call) (answers : List Reply) (before last : Machine) →
    Run max (new_machine output) calls answers before →
    Run max before (Take ∷ []) (replies.Taken (Ok None) ∷ []) last →
    defined_events output max (since_reset no_call calls answers)
    ≡ (since_reset no_call calls answers).taken

-- Events as contracts see them: whichever kind of picture is handed out, it is a picture.
use Rattle.std.specs.Prelude.{Option, Result, Ok, Err}
use Rattle.std.specs.Option.{option_map}
use Rattle.avc_types.specs.declared.picture.Picture.{Picture as Decoded}
use Rattle.avc_decoder.specs.declared.error.DecodeError.{DecodeError}
use Rattle.avc_decoder.specs.declared.event.Event.{Event as EventOf}
use Rattle.avc_decoder.specs.declared.event.Event.TheVariants.{Picture, Refused}

-- an event
abbrev pub Event : Type 0
Event = EventOf Decoded

-- the event, where a kind of picture is seen so
abbrev pub seen_event : {P : Type 0} → (P → Decoded) → EventOf P → Event
seen_event picture (Picture p) = Picture (picture p)
seen_event picture (Refused unit f) = Refused unit f

-- the same where there is one
abbrev pub seen_if_any : {P : Type 0} → (P → Decoded) → Option (EventOf P) → Option Event
seen_if_any picture event = option_map (seen_event picture) event

-- the same of an answer
abbrev pub seen_answer : {P : Type 0} → (P → Decoded) → Result (Option (EventOf P)) DecodeError →
    Result (Option Event) DecodeError
seen_answer picture (Ok event) = Ok (seen_if_any picture event)
seen_answer picture (Err e) = Err e

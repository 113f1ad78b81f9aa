-- What is written and reported of the events of a stream.
use Rattle.std.specs.Prelude.{ℕ, ◌+◌, List, [], ◌∷◌, ◌++◌, length}
use Rattle.std.specs.List.{flat_map}
use Rattle.avc_types.specs.declared.picture.Picture.{Picture as Decoded}
use Rattle.avc_annexb.specs.Units.{saturated}
use Rattle.avc_yuv.specs.I420.{i420}
use Rattle.avc_decoder.specs.Events.{events, pictures_in, refusals_in}
use Rattle.avc_decoder.specs.Machine.{Machine}
use Rattle.avc_decoder.specs.SeenEvents.{Event}
use Rattle.avc_decoder.specs.declared.event.Event.TheVariants.{Picture, Refused}
use Rattle.avc_console.specs.Reading.{max_unit}
use Rattle.avc_console.specs.declared.report.Report.{Report}

-- I420 of all pictures among these events, in order
abbrev pub shown : List Event → List ℕ
shown events = flat_map i420 (pictures_in events)

-- the events that the bytes so far define
abbrev pub events_defined : Machine → List Event
events_defined m = events m.output max_unit m.bytes m.ended

-- The report on these events: how many pictures there are (or the greatest number, once there), and
-- each refusal.
abbrev pub report_of : List Event → Report
report_of events = record {
  pictures = saturated (length (pictures_in events));
  refused = refusals_in events;
}

-- a report with these events more
abbrev pub report_with : Report → List Event → Report
report_with r [] = r
report_with r (Picture p ∷ events) =
    report_with (record r { pictures = saturated (r.pictures + 1) }) events
report_with r (Refused unit f ∷ events) =
    report_with (record r { refused = r.refused ++ (unit, f) ∷ [] }) events

-- of a picture this holds; of a refusal nothing is said
abbrev pub IfPicture : Event → (Decoded → Type 0) → Type 0
IfPicture (Picture p) holds = holds p
IfPicture (Refused unit f) holds = Unit {0}

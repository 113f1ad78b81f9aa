-- What C is told of an answer.
use Rattle.std.specs.Prelude.{ℕ, List, Option, Some, None, Result, Ok, Err}
use Rattle.avc_types.specs.Faults.{number_of}
use Rattle.avc_types.specs.declared.fault.Fault.{Fault}
use Rattle.avc_types.specs.declared.picture.Picture.{Picture}
use Rattle.avc_decoder.specs.declared.error.DecodeError.{DecodeError}
use Rattle.avc_decoder.specs.SeenEvents.{Event}
use Rattle.avc_decoder.specs.declared.event.Event.TheVariants as events
use Rattle.avc_c.specs.Marks.{value_of}
use Rattle.avc_c.specs.declared.event.EventRecord.{EventRecord}
use Rattle.avc_c.specs.declared.marks.Mark.{Mark}

-- no event
abbrev pub nothing : EventRecord
nothing = record {
  kind = 0;
  fault = 0;
  unit = 0;
  width = 0;
  height = 0;
  crop_left = 0;
  crop_right = 0;
  crop_top = 0;
  crop_bottom = 0;
  value = 0;
}

-- a picture, with the value of its first slice's unit
abbrev pub picture_record : List Mark → Picture → EventRecord
picture_record marks p = record nothing {
  kind = 1;
  unit = (p.info).unit;
  width = p.width;
  height = p.height;
  crop_left = (p.crop).left;
  crop_right = (p.crop).right;
  crop_top = (p.crop).top;
  crop_bottom = (p.crop).bottom;
  value = value_of marks (p.info).unit;
}

-- a refusal, with the value of its unit
abbrev pub refusal_record : List Mark → (unit : ℕ) → Fault → EventRecord
refusal_record marks unit fault = record nothing {
  kind = 2;
  fault = number_of fault;
  unit = unit;
  value = value_of marks unit;
}

-- the event of an answer of `take`, in a stream of these marks
abbrev pub record_of : List Mark → Result (Option Event) DecodeError → EventRecord
record_of marks (Ok (Some (events.Picture p))) = picture_record marks p
record_of marks (Ok (Some (events.Refused unit fault))) = refusal_record marks unit fault
record_of marks (Ok None) = nothing
record_of marks (Err error) = nothing

-- What the answer of a decoder's call is to C: its status, its picture, the bytes that were taken.
use Rattle.std.specs.Prelude.{ℕ, Option, Some, None, Result, Ok, Err}
use Rattle.avc_types.specs.declared.picture.Picture.{Picture}
use Rattle.avc_decoder.specs.declared.error.DecodeError.{DecodeError}
use Rattle.avc_decoder.specs.declared.error.DecodeError.TheVariants as errors
use Rattle.avc_decoder.specs.SeenEvents.{Event}
use Rattle.avc_decoder.specs.declared.event.Event.TheVariants as events
use Rattle.avc_c_picture.specs.declared.status.Status.{Status}
use Rattle.avc_c_picture.specs.declared.status.Status.TheVariants as statuses

-- the picture of an answer of `take`
abbrev pub picture_of : Result (Option Event) DecodeError → Option Picture
picture_of (Ok (Some (events.Picture p))) = Some p
picture_of (Ok (Some (events.Refused unit fault))) = None
picture_of (Ok None) = None
picture_of (Err error) = None

-- its status
abbrev pub take_status : Result (Option Event) DecodeError → Status
take_status (Ok event) = statuses.Ok
take_status (Err errors.OutOfMemory) = statuses.OutOfMemory
take_status (Err errors.Ended) = statuses.Ended

-- the status of an answer of `feed` or `flush`
abbrev pub call_status : Result (Unit {0}) DecodeError → Status
call_status (Ok done) = statuses.Ok
call_status (Err errors.OutOfMemory) = statuses.OutOfMemory
call_status (Err errors.Ended) = statuses.Ended

-- the status of an answer of `feed_unit`
abbrev pub unit_status : Result ℕ DecodeError → Status
unit_status (Ok used) = statuses.Ok
unit_status (Err errors.OutOfMemory) = statuses.OutOfMemory
unit_status (Err errors.Ended) = statuses.Ended

-- how many bytes were taken: none where the call was not carried out
abbrev pub used_by : Result ℕ DecodeError → ℕ
used_by (Ok used) = used
used_by (Err error) = 0

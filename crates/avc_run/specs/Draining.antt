-- Taking all events that have come: these words are the crate's own.
use Rattle.std.specs.Prelude.{◌≡◌, ℕ, false, ◌+◌, ◌-◌, List, ◌++◌, length, drop, Option}
use Rattle.avc_decoder.specs.Output.{Output}
use Rattle.avc_decoder.specs.Events.{events}
use Rattle.avc_decoder.specs.Machine.{Machine}
use Rattle.avc_decoder.specs.SeenEvents.{Event}
use Rattle.std.specs.Io.KnownBytes.{Consumes}
use Rattle.avc_events.specs.EventReports.{events_defined, report_of, report_with}
use Rattle.avc_formats.specs.Formats.{Format}
use Rattle.avc_run.specs.Formats.{pictures_after, written_from, AllFit, IsWritten, StopsAt}
use Rattle.avc_console.specs.Reading.{max_unit}
use Rattle.avc_console.specs.declared.fault.RunFault.{RunFault}
use Rattle.avc_console.specs.declared.report.Report.{Report}

-- the events that were not taken
abbrev pub events_left : Machine → List Event
events_left m = drop m.taken (events_defined m)

-- after all were taken
abbrev pub after_draining : Machine → Machine
after_draining m = record m { taken = m.taken + length (events_left m) }

-- The stream has not ended, and all events that came were taken.
pub record IsDrained (m : Machine) : Type 0 where
  pub goes_on : m.ended ≡ false
  pub taken : m.taken ≡ length (events_defined m)

-- how many are left
abbrev pub count_left : Machine → ℕ
count_left m = length (events_defined m) - m.taken

-- From `old` all events that were due were taken, told in the report and written.
pub record IsHandled (format : Format) (old new : Machine) (before now : Report)
    (held holds : Option (List ℕ)) : Type 0 where
  pub machine : new ≡ after_draining old
  pub report : now ≡ report_with before (events_left old)
  pub written : IsWritten format before.pictures held holds (events_left old)

-- From `old` some events were taken and handled.
pub record IsDraining (format : Format) (old new : Machine) (before now : Report)
    (held holds : Option (List ℕ)) : Type 0 where
  pub done : List Event
  pub rest : events_left old ≡ done ++ events_left new
  pub machine : new ≡ record old { taken = old.taken + length done }
  pub report : now ≡ report_with before done
  pub written : IsWritten format before.pictures held holds done

-- These bytes were read, and the events that they define were taken, told and written.
pub record IsRunning (format : Format) (output : Output) (unread left held holds : Option (List ℕ))
    (m : Machine) (r : Report) : Type 0 where
  pub bytes : List ℕ
  pub consumed : Consumes unread left bytes
  pub machine : m ≡ record {
    output = output;
    bytes = bytes;
    ended = false;
    taken = length (events output max_unit bytes false);
    failed = false;
  }
  pub report : r ≡ report_of (events output max_unit bytes false)
  pub written : IsWritten format 0 held holds (events output max_unit bytes false)

-- A fault broke off the handling of these events: the first of them were handled.
pub record BreaksOffFrom (format : Format) (before now : Report) (fault : RunFault)
    (held holds : Option (List ℕ)) (events : List Event) : Type 0 where
  pub front : List Event
  pub rest : List Event
  pub parts : events ≡ front ++ rest
  pub fit : AllFit format before.pictures front
  pub report : now ≡ report_with before front
  pub stops : StopsAt format (pictures_after before.pictures front) fault held holds
      (written_from format before.pictures front) rest

use Rattle.std.specs.Prelude.{◌≡◌, length}
use Rattle.avc_compare.specs.Meeting.{Meets}
use Rattle.avc_compare.proofs.Meetings.{first_rows}
use Rattle.avc_compare.proofs.meeting.meet_component.Given as goal

abbrev pub invariant-rows : goal.invariant-rows
invariant-rows g l = record {
  place : l.met ≡ length (first_rows l.picture l.component l.number);
  met : Meets (first_rows l.picture l.component l.number) l.left l.met (l.fn).ahead.bytes l.ahead.bytes (g.O.Read.remaining (l.fn).other) (g.O.Read.remaining l.other);
}

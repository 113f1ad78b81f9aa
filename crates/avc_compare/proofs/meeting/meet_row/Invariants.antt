use Rattle.std.specs.Prelude.{◌-◌, length}
use Rattle.avc_compare.specs.Meeting.{Meets}
use Rattle.avc_compare.proofs.meeting.meet_row.Given as goal

abbrev pub invariant-parts : goal.invariant-parts
invariant-parts g l = record { met : Meets l.row l.left l.met (l.fn).ahead.bytes l.ahead.bytes (g.O.Read.remaining (l.fn).other) (g.O.Read.remaining l.other) }

abbrev pub decreases-parts : goal.decreases-parts
decreases-parts g l = length l.row - l.met

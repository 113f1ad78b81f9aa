use Rattle.avc_decoder.proofs.Events.{units_waiting, IsStream, stream_state, Left}
use Rattle.avc_decoder.proofs.parts.handle_units.Given as goal

abbrev pub invariant-loop-unit : goal.invariant-loop-unit
invariant-loop-unit g l = record {
  left : Left g.row.MAX l.fn.splitter (stream_state l.fn.stream) l.splitter (stream_state l.stream);
  works : IsStream l.stream;
}

abbrev pub decreases-loop-unit : goal.decreases-loop-unit
decreases-loop-unit g l = units_waiting g.row.MAX l.splitter

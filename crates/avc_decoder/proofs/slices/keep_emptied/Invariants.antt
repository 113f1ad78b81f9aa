use Rattle.avc_decoder.proofs.Events.{◌≡◌}
use Rattle.avc_decoder.specs.SpareMemory.{AddsClosed}
use Rattle.avc_decoder.proofs.slices.keep_emptied.Given as goal

abbrev pub invariant-loop-frame : goal.invariant-loop-frame
invariant-loop-frame l = record {
  sequence : l.sequence ≡ l.initial.sequence;
  memory : AddsClosed l.initial.memory l.memory;
}

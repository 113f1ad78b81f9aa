use Rattle.avc_marking.proofs.KeptFrames.{◌≡◌, ℕ, ◌+◌, List, length, drop, false, None, if◌then◌else◌, marking_entry, operation_state, StandBefore}
use Rattle.avc_marking.proofs.KeptFrames.{after_operations}
use Rattle.avc_marking.proofs.operations.operate_all.Given as goal

abbrev pub invariant-loop-operation : goal.invariant-loop-operation
invariant-loop-operation l = record {
  length : length l.frames.items ≡ length l.initial.frames.items + (if l.assigned then 1 else 0);
  turn : (indices : List ℕ) (own : ℕ) → StandBefore indices own l.initial.frames.items →
      after_operations (marking_entry l.new None) own (operation_state indices own l.initial.frames.items l.initial.max_long_term_frame_idx false) l.operations
      ≡ after_operations (marking_entry l.new None) own (operation_state indices own l.frames.items l.max_long_term_frame_idx l.assigned) (drop l.operation-index l.operations);
}

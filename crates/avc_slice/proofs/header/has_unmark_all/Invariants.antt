use Rattle.avc_slice.proofs.ReadUnder.{◌≡◌, drop, is_unmark_all, list_any}
use Rattle.avc_slice.proofs.header.has_unmark_all.Given as goal

abbrev pub invariant-loop-operation : goal.invariant-loop-operation
invariant-loop-operation l = list_any is_unmark_all (drop l.operation-index l.operations) ≡ list_any is_unmark_all l.operations

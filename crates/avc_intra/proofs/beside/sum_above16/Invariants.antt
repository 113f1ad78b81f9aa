use Rattle.avc_intra.proofs.Predictions.{◌≡◌, ◌+◌, ◌-◌, ◌*◌, ◌≤◌, slice_index, sum_below}
use Rattle.avc_intra.proofs.beside.sum_above16.Given as goal

abbrev pub invariant-loop-x : goal.invariant-loop-x
invariant-loop-x l = record {
  so_far : l.sum ≡ sum_below l.x (λ i. slice_index l.rows (l.at.first - l.at.stride + i));
  small : l.sum ≤ 255 * l.x;
}

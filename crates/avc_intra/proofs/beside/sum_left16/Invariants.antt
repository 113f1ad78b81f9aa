use Rattle.avc_intra.proofs.Predictions.{◌≡◌, ◌+◌, ◌-◌, ◌*◌, ◌≤◌, slice_index, sum_below}
use Rattle.avc_intra.proofs.beside.sum_left16.Given as goal

abbrev pub invariant-loop-y : goal.invariant-loop-y
invariant-loop-y l = record {
  so_far : l.sum ≡ sum_below l.y (λ i. slice_index l.rows (l.at.first + i * l.at.stride - 1));
  small : l.sum ≤ 255 * l.y;
}

use Rattle.avc_intra.proofs.Predictions.{◌≡◌, ◌*◌, ◌≤◌, slice_index, sum_below}
use Rattle.avc_intra.proofs.means.sum_of_sixteen.Given as goal

abbrev pub invariant-loop-i : goal.invariant-loop-i
invariant-loop-i l = record {
  so_far : l.sum ≡ sum_below l.i (λ i. slice_index l.samples i);
  small : l.sum ≤ 255 * l.i;
}

use Rattle.avc_edges.proofs.EdgesOnPlane.{◌≡◌, ◌<◌, ◌≤◌, ℕ, length, slice_index, tc1_of}
use Rattle.avc_edges.proofs.thresholds.each_tc1.Given as goal

abbrev pub invariant-loop-k : goal.invariant-loop-k
invariant-loop-k l = record {
  long : length l.out ≡ 16;
  small : (k : ℕ) → k < l.k → slice_index l.out k ≤ 26;
  done : (k : ℕ) → k < l.k → k < 4 → slice_index l.out k ≡ tc1_of k l.fn.index.value;
}

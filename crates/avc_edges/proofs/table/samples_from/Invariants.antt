use Rattle.avc_edges.proofs.EdgesOnPlane.{◌≡◌, ◌<◌, ◌+◌, ℕ, length, slice_index}
use Rattle.avc_edges.proofs.table.samples_from.Given as goal

abbrev pub invariant-loop-k : goal.invariant-loop-k
invariant-loop-k g l = record {
  long : length l.out ≡ g.row.M;
  done : (k : ℕ) → k < l.k → slice_index l.out k ≡ slice_index l.t (l.from + k);
}

use Rattle.avc_edges.proofs.EdgesOnPlane.{◌≡◌, ◌<◌, ◌+◌, ℕ, length, slice_index, IsKeptOutside}
use Rattle.avc_edges.proofs.table.set_samples.Given as goal

abbrev pub invariant-loop-k : goal.invariant-loop-k
invariant-loop-k g l = record {
  long : length l.t ≡ g.row.N;
  inside : (k : ℕ) → k < l.k → slice_index l.t (l.from + k) ≡ slice_index l.samples k;
  others : IsKeptOutside l.from (l.from + g.row.M) l.fn.t l.t;
}

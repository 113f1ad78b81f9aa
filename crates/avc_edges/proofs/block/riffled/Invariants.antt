use Rattle.avc_edges.proofs.EdgesOnPlane.{◌≡◌, ◌<◌, ◌+◌, ◌*◌, ℕ, length, slice_index}
use Rattle.avc_edges.proofs.block.riffled.Given as goal

abbrev pub invariant-loop-k : goal.invariant-loop-k
invariant-loop-k g l = record {
  long : length l.out ≡ g.row.N;
  even : (k : ℕ) → k < l.k → slice_index l.out (2 * k) ≡ slice_index l.t k;
  odd : (k : ℕ) → k < l.k → slice_index l.out (2 * k + 1) ≡ slice_index l.t (g.row.HALF + k);
}

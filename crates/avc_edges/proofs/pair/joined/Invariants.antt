use Rattle.avc_edges.proofs.EdgesOnPlane.{◌≡◌, ◌<◌, ◌+◌, ℕ, length, slice_index}
use Rattle.avc_edges.proofs.pair.joined.Given as goal

abbrev pub invariant-loop-k : goal.invariant-loop-k
invariant-loop-k l = record {
  long : length l.out ≡ 128;
  first : (k : ℕ) → k < l.k → slice_index l.out k ≡ slice_index l.a k;
  second : (k : ℕ) → k < l.k → slice_index l.out (64 + k) ≡ slice_index l.b k;
}

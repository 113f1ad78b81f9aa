use Rattle.avc_edges.proofs.EdgesOnPlane.{◌≡◌, ◌<◌, ◌+◌, ℕ, length, slice_index}
use Rattle.avc_edges.proofs.block.middle_apart.Given as goal

abbrev pub invariant-loop-k : goal.invariant-loop-k
invariant-loop-k l = record {
  long : length l.out ≡ 128;
  first : (k : ℕ) → k < l.k → slice_index l.out k ≡ slice_index l.t (32 + k);
  second : (k : ℕ) → k < l.k → slice_index l.out (32 + k) ≡ slice_index l.t (48 + k);
  third : (k : ℕ) → k < l.k → slice_index l.out (64 + k) ≡ slice_index l.t (64 + k);
  fourth : (k : ℕ) → k < l.k → slice_index l.out (96 + k) ≡ slice_index l.t (80 + k);
}

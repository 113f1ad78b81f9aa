use Rattle.avc_edges.proofs.EdgesOnPlane.{◌≡◌, ◌<◌, ◌+◌, ◌*◌, ℕ, length, slice_index}
use Rattle.avc_edges.proofs.block.by_words.Given as goal

abbrev pub invariant-loop-k : goal.invariant-loop-k
invariant-loop-k l = record {
  long : length l.out ≡ 64;
  first : (k : ℕ) → k < l.k → slice_index l.out (4 * k) ≡ slice_index l.t (4 * k);
  second : (k : ℕ) → k < l.k → slice_index l.out (4 * k + 1) ≡ slice_index l.t (4 * k + 1);
  third : (k : ℕ) → k < l.k → slice_index l.out (4 * k + 2) ≡ slice_index l.t (4 * k + 2);
  fourth : (k : ℕ) → k < l.k → slice_index l.out (4 * k + 3) ≡ slice_index l.t (4 * k + 3);
}

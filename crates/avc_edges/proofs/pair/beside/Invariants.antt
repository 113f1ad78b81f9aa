use Rattle.avc_edges.proofs.EdgesOnPlane.{◌≡◌, ◌<◌, ◌+◌, ◌*◌, ℕ, length, slice_index}
use Rattle.avc_edges.proofs.pair.beside.Given as goal

abbrev pub invariant-loop-r : goal.invariant-loop-r
invariant-loop-r l = record {
  long : length l.out ≡ 128;
  left : (r c : ℕ) → r < l.r → c < 8 → slice_index l.out (16 * r + c) ≡ slice_index l.a (8 * r + c);
  right : (r c : ℕ) → r < l.r → c < 8 → slice_index l.out (16 * r + (8 + c)) ≡ slice_index l.b (8 * r + c);
}

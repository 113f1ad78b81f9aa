use Rattle.avc_edges.proofs.EdgesOnPlane.{◌≡◌, ◌<◌, ◌+◌, ◌*◌, ℕ, length, slice_index}
use Rattle.avc_edges.proofs.pair.nearest.Given as goal

abbrev pub invariant-loop-r : goal.invariant-loop-r
invariant-loop-r l = record {
  long : length l.out ≡ 16;
  done : (r c : ℕ) → r < l.r → c < 8 → slice_index l.out (8 * r + c) ≡ slice_index l.t (16 * (3 + r) + (l.from + c));
}

abbrev pub invariant-loop-c : goal.invariant-loop-c
invariant-loop-c l = record {
  long : length l.out ≡ 16;
  done : (r c : ℕ) → r < l.r → c < 8 → slice_index l.out (8 * r + c) ≡ slice_index l.t (16 * (3 + r) + (l.from + c));
  here : (c : ℕ) → c < l.c → slice_index l.out (8 * l.r + c) ≡ slice_index l.t (16 * (3 + l.r) + (l.from + c));
}

use Rattle.avc_edges.proofs.EdgesOnPlane.{◌≡◌, false, ◌<◌, ◌+◌, ℕ, length, slice_index, ◌==◌, if◌then◌else◌, Setting, filtered, line_inside, IsWeak}
use Rattle.avc_edges.proofs.lines.weak_chroma_lines.Given as goal

abbrev pub invariant-loop-i : goal.invariant-loop-i
invariant-loop-i l = record {
  long0 : length l.o0 ≡ 16;
  far0 : length l.r0 ≡ 16;
  done : (p3 p2 q2 q3 : ℕ) (s : Setting) (k : ℕ) → k < l.i → IsWeak false s (if slice_index l.dead k == 0 then slice_index l.alpha1 k + 1 else 0) (slice_index l.beta1 k + 1) (slice_index l.tc0 k) →
      filtered s (line_inside p3 p2 q2 q3 l.p1 l.a0 l.b0 l.q1 k) ≡ line_inside p3 p2 q2 q3 l.p1 l.o0 l.r0 l.q1 k;
}

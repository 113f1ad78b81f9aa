use Rattle.avc_edges.proofs.EdgesOnPlane.{◌≡◌, true, ◌<◌, ◌+◌, ℕ, length, slice_index, ◌==◌, if◌then◌else◌, Setting, filtered, line_within, IsWeak}
use Rattle.avc_edges.proofs.lines.weak_lines.Given as goal

abbrev pub invariant-loop-i : goal.invariant-loop-i
invariant-loop-i l = record {
  long1 : length l.o1 ≡ 16;
  long0 : length l.o0 ≡ 16;
  far0 : length l.r0 ≡ 16;
  far1 : length l.r1 ≡ 16;
  done : (p3 q3 : ℕ) (s : Setting) (k : ℕ) → k < l.i → IsWeak true s (if slice_index l.dead k == 0 then slice_index l.alpha1 k + 1 else 0) (slice_index l.beta1 k + 1) (slice_index l.tc0 k) →
      filtered s (line_within p3 q3 l.p2 l.a1 l.a0 l.b0 l.b1 l.q2 k) ≡ line_within p3 q3 l.p2 l.o1 l.o0 l.r0 l.r1 l.q2 k;
}

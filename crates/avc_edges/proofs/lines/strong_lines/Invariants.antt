use Rattle.avc_edges.proofs.EdgesOnPlane.{◌≡◌, true, ◌<◌, ◌+◌, ℕ, length, slice_index, Setting, filtered, line_of_rows, IsStrong}
use Rattle.avc_edges.proofs.lines.strong_lines.Given as goal

abbrev pub invariant-loop-i : goal.invariant-loop-i
invariant-loop-i l = record {
  long2 : length l.o2 ≡ 16;
  long1 : length l.o1 ≡ 16;
  long0 : length l.o0 ≡ 16;
  far0 : length l.r0 ≡ 16;
  far1 : length l.r1 ≡ 16;
  far2 : length l.r2 ≡ 16;
  done : (s : Setting) (k : ℕ) → k < l.i → IsStrong true s (slice_index l.alpha1 k + 1) (slice_index l.beta1 k + 1) →
      filtered s (line_of_rows l.p3 l.a2 l.a1 l.a0 l.b0 l.b1 l.b2 l.q3 k) ≡ line_of_rows l.p3 l.o2 l.o1 l.o0 l.r0 l.r1 l.r2 l.q3 k;
}

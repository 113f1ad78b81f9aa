use Rattle.avc_edges.proofs.EdgesOnPlane.{arith, ◌∙◌, length-set, below_more, inner_before, inner_here}
use Rattle.avc_edges.proofs.lines.strong_chroma_lines.Goals as goal

pub loop-i-preserved : goal.loop-i-preserved
loop-i-preserved c = record {
  long0 = length-set _ _ _ ∙ c.loop-i.invariant.long0;
  far0 = length-set _ _ _ ∙ c.loop-i.invariant.far0;
  done = λ p3 p2 q2 q3 s. below_more _ _
      (λ k h w. c.loop-i.invariant.done p3 p2 q2 q3 s k h w ∙ inner_before p3 p2 q2 q3 _ c.loop-i.o0 c.loop-i.r0 _ _ _ c.loop-i.i k h)
      (λ w. c.strong_chroma_line-nearest.ensures p3 p2 q2 q3 s w ∙ inner_here p3 p2 q2 q3 _ c.loop-i.o0 c.loop-i.r0 _ _ _ c.loop-i.i (omega arith) (omega arith));
}

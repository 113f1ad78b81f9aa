use Rattle.avc_edges.proofs.EdgesOnPlane.{arith, ◌∙◌, length-set, below_more, line_before, line_here}
use Rattle.avc_edges.proofs.lines.weak_lines.Goals as goal

pub loop-i-preserved : goal.loop-i-preserved
loop-i-preserved c = record {
  long1 = length-set _ _ _ ∙ c.loop-i.invariant.long1;
  long0 = length-set _ _ _ ∙ c.loop-i.invariant.long0;
  far0 = length-set _ _ _ ∙ c.loop-i.invariant.far0;
  far1 = length-set _ _ _ ∙ c.loop-i.invariant.far1;
  done = λ p3 q3 s. below_more _ _
      (λ k h w. c.loop-i.invariant.done p3 q3 s k h w ∙ line_before p3 q3 _ c.loop-i.o1 c.loop-i.o0 c.loop-i.r0 c.loop-i.r1 _ _ _ _ _ c.loop-i.i k h)
      (λ w. c.weak_line-inner.ensures p3 q3 s w
      ∙ line_here p3 q3 _ c.loop-i.o1 c.loop-i.o0 c.loop-i.r0 c.loop-i.r1 _ _ _ _ _ c.loop-i.i (omega arith) (omega arith) (omega arith) (omega arith));
}

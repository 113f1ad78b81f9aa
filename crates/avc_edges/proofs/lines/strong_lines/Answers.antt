use Rattle.avc_edges.proofs.EdgesOnPlane.{arith, ◌∙◌, length-set, below_more, wide_before, wide_here}
use Rattle.avc_edges.proofs.lines.strong_lines.Goals as goal

pub loop-i-preserved : goal.loop-i-preserved
loop-i-preserved c = record {
  long2 = length-set _ _ _ ∙ c.loop-i.invariant.long2;
  long1 = length-set _ _ _ ∙ c.loop-i.invariant.long1;
  long0 = length-set _ _ _ ∙ c.loop-i.invariant.long0;
  far0 = length-set _ _ _ ∙ c.loop-i.invariant.far0;
  far1 = length-set _ _ _ ∙ c.loop-i.invariant.far1;
  far2 = length-set _ _ _ ∙ c.loop-i.invariant.far2;
  done = λ s. below_more _ _
      (λ k h w. c.loop-i.invariant.done s k h w ∙ wide_before _ c.loop-i.o2 c.loop-i.o1 c.loop-i.o0 c.loop-i.r0 c.loop-i.r1 c.loop-i.r2 _ _ _ _ _ _ _ c.loop-i.i k h)
      (λ w. c.strong_line-after.ensures s w
      ∙ wide_here _ c.loop-i.o2 c.loop-i.o1 c.loop-i.o0 c.loop-i.r0 c.loop-i.r1 c.loop-i.r2 _ _ _ _ _ _ _ c.loop-i.i (omega arith) (omega arith) (omega arith) (omega arith) (omega arith) (omega arith));
}

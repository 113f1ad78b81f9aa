use Rattle.avc_motion.proofs.MacroblockMotion.{◌∙◌, arith, rules, length-with_part, quarter_more, same_blocks}
use Rattle.avc_motion.proofs.parts.fill.Goals as goal

pub loop-quarter-preserved : goal.loop-quarter-preserved
loop-quarter-preserved c = record {
  long = search rules;
  done = quarter_more c.args.mine.now c.loop-quarter.mine c.fill_quarter.new.mine c.args.part c.args.motion c.loop-quarter.quarter (omega arith)
      c.fill_quarter.ensures c.loop-quarter.invariant.done c.loop-quarter.invariant.left;
  left = λ k h. c.fill_quarter.ensures.behind k (omega arith) ∙ c.loop-quarter.invariant.left k (omega arith);
}

pub returns : goal.returns
returns c = same_blocks _ _ c.loop-quarter.invariant.long (length-with_part _ _ _) (λ k h. c.loop-quarter.invariant.done k (omega arith))

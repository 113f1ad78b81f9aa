use Rattle.avc_transform.proofs.Residuals.{arith, below_four, level_read, level_below}
use Rattle.avc_transform.proofs.scaling.widened.Goals as goal

pub returns : goal.returns
returns c = record {
  values = below_four _
      (level_read _ _ (c.requires 0 (omega arith)) c.from.ensures) (level_read _ _ (c.requires 1 (omega arith)) c.from-2.ensures)
      (level_read _ _ (c.requires 2 (omega arith)) c.from-3.ensures) (level_read _ _ (c.requires 3 (omega arith)) c.from-4.ensures);
  small = below_four _
      (level_below _ _ (omega arith) (c.requires 0 (omega arith)) c.from.ensures) (level_below _ _ (omega arith) (c.requires 1 (omega arith)) c.from-2.ensures)
      (level_below _ _ (omega arith) (c.requires 2 (omega arith)) c.from-3.ensures) (level_below _ _ (omega arith) (c.requires 3 (omega arith)) c.from-4.ensures);
}

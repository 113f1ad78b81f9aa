use Rattle.avc_edges.proofs.EdgesOnPlane.{arith, inner_lines}
use Rattle.avc_edges.proofs.square.filter_rows.Goals as goal

pub returns-clause-lines : goal.returns-clause-lines
returns-clause-lines c s i low fits =
    inner_lines s c.args.from i c.args.t.now c.samples_from-lines.result c.weak_luma.new.t c.samples_from-inner.result c.set_samples.new.t low fits.weak
    c.samples_from-lines.ensures c.samples_from-inner.ensures c.set_samples.ensures (c.weak_luma.ensures s i low fits)

pub returns-clause-others : goal.returns-clause-others
returns-clause-others c = record {
  before = c.set_samples.ensures.others.before;
  behind = λ k far. c.set_samples.ensures.others.behind k (omega arith);
}

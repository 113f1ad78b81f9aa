use Rattle.std.proofs.Common.{arith, sym}
use Rattle.avc_difference.specs.Differences.{differs_at}
use Rattle.avc_difference.proofs.Counting.{count_below_none, counted_more, counted_few}
use Rattle.avc_difference.proofs.difference.count_differences.Goals as goal

pub samples-init : goal.samples-init
samples-init c = record { few = omega arith; counted = sym (count_below_none (differs_at c.args.most c.args.ours.now c.args.theirs.now)) }

pub samples-preserved : goal.samples-preserved
samples-preserved c = record {
  few = counted_few c.samples.place c.samples.count _ _ c.samples.invariant.few c.one_more-count.ensures;
  counted = counted_more c.samples.place c.samples.count _ _ (differs_at c.args.most c.args.ours.now c.args.theirs.now) c.samples.invariant.counted c.differs.ensures c.one_more-count.ensures;
}

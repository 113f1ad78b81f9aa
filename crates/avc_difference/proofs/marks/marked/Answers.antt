use Rattle.std.proofs.Common.{ap, ◌∙◌}
use Rattle.std.specs.Prelude.{count_by}
use Rattle.std.proofs.lemmas.List.{take_all}
use Rattle.avc_difference.specs.Differences.{is_marked}
use Rattle.avc_difference.proofs.Counting.{counted_few, marked_more}
use Rattle.avc_difference.proofs.marks.marked.Goals as goal

pub marks-preserved : goal.marks-preserved
marks-preserved c = record {
  few = counted_few c.marks.mark-index c.marks.count _ _ c.marks.invariant.few c.one_more-count.ensures;
  counted = marked_more c.marks.mark-index c.marks.count _ _ c.args.marks.now _ c.marks-test.true c.marks.invariant.counted c.is_marked.ensures c.one_more-count.ensures;
}

pub returns : goal.returns
returns c = c.marks.invariant.counted ∙ ap (count_by is_marked) (take_all c.marks.mark-index c.args.marks.now c.marks-test.false)

use Rattle.std.proofs.Common.{sym, ◌∙◌}
use Rattle.avc_difference.proofs.Counting.{marks_more, marks_same}
use Rattle.avc_difference.proofs.marks.mark_sample.Goals as goal

pub returns-then-not-differs : goal.returns-then-not-differs
returns-then-not-differs c = λ m. marks_same c.args.shape c.args.most c.args.ours.now c.args.theirs.now c.args.place c.args.marks.now m (sym c.differs.ensures ∙ c.if-not-differs.true)

pub returns : goal.returns
returns c = λ m.
    marks_more c.args.shape c.args.most c.args.ours.now c.args.theirs.now c.args.place c.args.marks.now _ c.place_of.result m (sym c.differs.ensures ∙ c.if-not-differs.false) c.place_of.ensures
    c.mark_place.ensures.length c.mark_place.ensures.marks

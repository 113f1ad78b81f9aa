use Rattle.std.proofs.Common.{◌≡◌, ◌∙◌, ap, arith, length, subst, sym}
use Rattle.avc_difference.specs.Differences.{AreMarks}
use Rattle.avc_difference.proofs.Counting.{all_marks}
use Rattle.avc_difference.proofs.marks.marks_of.Goals as goal

pub returns-clause-all : goal.returns-clause-all
returns-clause-all c =
    let new = c.mark_all.new.marks in
    let full : length new ≡ c.in_ok-marks.marks.len = omega (arith, c.mark_all.auto.marks, c.deref_mut.ensures.len) in
    ap length (all_marks c.in_ok-marks.marks.len new c.in_ok-marks.marks.items full) ∙ full ∙ c.in_ok-marks.ensures.len ∙ c.macroblocks.ensures

pub returns-clause-marks : goal.returns-clause-marks
returns-clause-marks c =
    let new = c.mark_all.new.marks in
    let full : length new ≡ c.in_ok-marks.marks.len = omega (arith, c.mark_all.auto.marks, c.deref_mut.ensures.len) in
    subst (AreMarks c.args.shape c.args.most c.args.ours.now c.args.theirs.now (length c.args.ours.now)) (sym (all_marks c.in_ok-marks.marks.len new c.in_ok-marks.marks.items full)) c.mark_all.ensures

use Rattle.avc_marking.proofs.KeptFrames.{sym, ◌∙◌, None, marking_entry, long-ok}
use Rattle.avc_marking.proofs.operations.assign_long_term.Goals as goal

pub returns : goal.returns
returns c = λ indices stand.
    long-ok (marking_entry c.args.new None) c.args.difference_minus1 c.args.index c.args.max_long_term_frame_idx indices c.args.frames.now c.unmark_frames.new.frames c.in_ok-place.place stand
    c.in_ok-place.ensures.within c.unmark_frames.auto.frames c.in_ok-place.ensures.short (c.in_ok-place.ensures.named indices stand)
    (sym c.may_be_long_term.ensures ∙ c.if-not-may_be_long_term.false) (c.unmark_frames.ensures.each c.in_ok-place.place c.in_ok-place.ensures.within) (c.unmark_frames.ensures.references indices stand)

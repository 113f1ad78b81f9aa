use Rattle.avc_marking.proofs.KeptFrames.{◌-◌, arith, ◌+◌, ◌≡◌, length, marking_entry, settled-assigned}
use Rattle.avc_marking.proofs.marking.mark_current.Goals as goal

pub returns-then-assigned-clause-marks : goal.returns-then-assigned-clause-marks
returns-then-assigned-clause-marks c = λ indices decoding_index idx stand.
    let s = marking_entry c.args.new c.args.marking.now in
    let place : c.len-last.result - 1 + 1 ≡ length c.args.frames.now.items = omega (arith, c.len-last.ensures.value, c.requires.own c.if-assigned.true) in
    let settled = settled-assigned s indices decoding_index idx _ _ _ (c.len-last.result - 1) c.frame_num_after_marking-frame_num.result c.deref_mut.ensures.value c.deref.ensures.0 in
    grind (arith, settled (rw c.if-assigned.true at stand) place c.frame_num_after_marking-frame_num.ensures)

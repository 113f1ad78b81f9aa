use Rattle.avc_marking.proofs.KeptFrames.{operations-any, stand_turned, stand_settled, arith, nat_tests, stand_as}
use Rattle.avc_marking.proofs.marking.adaptive_marking.Goals as goal

pub returns-in_err-assigned-clause-marks : goal.returns-in_err-assigned-clause-marks
returns-in_err-assigned-clause-marks c = λ indices decoding_index stand. grind (arith, operations-any, c.in_err-assigned.ensures.turn indices decoding_index stand)

pub returns-then-count-limit-clause-marks : goal.returns-then-count-limit-clause-marks
returns-then-count-limit-clause-marks c = λ indices decoding_index stand.
    let turned = stand_turned c.in_ok-assigned.assigned indices decoding_index c.args.frames.now.items c.operate_all.new.frames.items stand c.in_ok-assigned.ensures.length in
    let settled = stand_settled c.in_ok-assigned.assigned indices decoding_index _ _ _ stand c.in_ok-assigned.ensures.length c.mark_current.ensures.length in
    let counted = c.count.ensures.references _ (stand_as _ _ _ c.as_slice.ensures.value settled) in
    let marked = c.mark_current.ensures.marks indices decoding_index c.operate_all.new.max_long_term_frame_idx turned in
    grind (arith, nat_tests, operations-any, c.in_ok-assigned.ensures.turn indices decoding_index stand, marked, counted)

pub returns-else-count-limit-clause-marks : goal.returns-else-count-limit-clause-marks
returns-else-count-limit-clause-marks c = λ indices decoding_index stand.
    let turned = stand_turned c.in_ok-assigned.assigned indices decoding_index c.args.frames.now.items c.operate_all.new.frames.items stand c.in_ok-assigned.ensures.length in
    let settled = stand_settled c.in_ok-assigned.assigned indices decoding_index _ _ _ stand c.in_ok-assigned.ensures.length c.mark_current.ensures.length in
    let counted = c.count.ensures.references _ (stand_as _ _ _ c.as_slice.ensures.value settled) in
    let marked = c.mark_current.ensures.marks indices decoding_index c.operate_all.new.max_long_term_frame_idx turned in
    grind (arith, nat_tests, operations-any, c.in_ok-assigned.ensures.turn indices decoding_index stand, marked, counted)

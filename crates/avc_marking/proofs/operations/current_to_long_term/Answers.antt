use Rattle.avc_marking.proofs.KeptFrames.{refilled, references-append, stand_as, arith, stand_before}
use Rattle.avc_marking.proofs.operations.current_to_long_term.Goals as goal

pub returns-clause-references : goal.returns-clause-references
returns-clause-references c = λ indices own stand.
    let left = c.unmark_frames.ensures.references indices (stand_as indices _ _ c.as_mut_slice.ensures.value (stand_before indices own _ stand)) in
    grind (arith, refilled, references-append, left)

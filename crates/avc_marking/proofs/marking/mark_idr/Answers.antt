use Rattle.avc_marking.proofs.KeptFrames.{refilled, references-append, stand_as, arith, references_at, stand_before, filter-nothing}
use Rattle.avc_marking.proofs.marking.mark_idr.Goals as goal

pub returns-clause-references : goal.returns-clause-references
returns-clause-references c = λ indices decoding_index stand.
    let left = c.unmark_frames.ensures.references indices (stand_as indices _ _ c.as_mut_slice.ensures.value (stand_before indices decoding_index _ stand)) in
    grind (arith, refilled, references-append, filter-nothing (references_at indices c.args.frames.now.items), left)

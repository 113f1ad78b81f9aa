use Rattle.avc_marking.proofs.KeptFrames.{arith, indices_with, references_at, refilled, stand_as, filter-nothing, stand_with}
use Rattle.avc_marking.proofs.operations.operate.Goals as goal

pub returns-in-UnmarkAll-clause-turn : goal.returns-in-UnmarkAll-clause-turn
returns-in-UnmarkAll-clause-turn c = λ indices own stand.
    let stands = stand_as _ _ _ c.as_mut_slice-in-UnmarkAll.ensures.value (stand_with c.args.assigned indices own _ stand) in
    let none = filter-nothing (references_at (indices_with c.args.assigned indices own) c.args.frames.now.items) in
    grind (arith, refilled, none, c.unmark_frames-in-UnmarkAll.ensures.references _ stands)

use Rattle.avc_marking.proofs.KeptFrames.{arith, index_above}
use Rattle.avc_marking.proofs.window.first_in_window_with.Goals as goal

pub returns-in-Some-clause-short : goal.returns-in-Some-clause-short
returns-in-Some-clause-short c = λ marked indices stand.
    let within = rw c.in-Some.is at c.requires.within in
    let above = index_above indices c.args.frames.now c.args.place c.in-Some.other stand (rw c.in-Some.is at c.requires.later) within in
    grind (arith, c.precedes_in_window.ensures _ _ above)

pub returns-in_default-later-clause-short : goal.returns-in_default-later-clause-short
returns-in_default-later-clause-short c = λ marked indices stand.
    let within = rw c.in-Some.is at c.requires.within in
    let above = index_above indices c.args.frames.now c.args.place c.in-Some.other stand (rw c.in-Some.is at c.requires.later) within in
    grind (arith, c.precedes_in_window.ensures _ _ above)

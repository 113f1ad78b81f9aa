use Rattle.avc_types.proofs.Frames.{◌≡◌, arith, length, ◌∙◌, length-chunk, get_or-chunk, get_or-put_chunk_below, get_or-put_chunk_at, chunk}
use Rattle.avc_types.proofs.rows.copy_sixteen.Goals as goal

pub returns-clause-before : goal.returns-clause-before
returns-clause-before c k below = grind (arith, get_or-put_chunk_below)

pub returns-clause-here : goal.returns-clause-here
returns-clause-here c i below =
    let part = chunk c.args.from 16 c.args.samples.now in
    let long : length part ≡ 16 = length-chunk c.args.from 16 c.args.samples.now (omega arith) in
    get_or-put_chunk_at c.args.to c.args.rows.now part i 0 (omega (arith, long)) (omega (arith, long)) ∙ get_or-chunk c.args.from 16 c.args.samples.now i 0 below

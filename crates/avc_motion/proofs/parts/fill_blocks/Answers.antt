use Rattle.avc_motion.proofs.MacroblockMotion.{if◌then◌else◌, ◌≡◌, ◌*◌, ◌∙◌, ap, arith, rules, slice_index_or, absent, is_in_part, set_more}
use Rattle.avc_motion.proofs.parts.fill_blocks.Goals as goal

pub loop-k-preserved : goal.loop-k-preserved
loop-k-preserved c =
    let i = c.loop-k.k in
    let mine = c.loop-k.mine in
    let old = c.args.mine.now in
    let part = c.args.part in
    let m = c.args.motion in
    let value : c.pick.result ≡ (if is_in_part part i then m else slice_index_or mine i absent) = search rules in
    set_more (λ j. if is_in_part part j then m else slice_index_or old j absent) old mine c.pick.result (4 * c.args.quarter) i (omega arith)
    (value ∙ ap (λ x. if is_in_part part i then m else x) (c.loop-k.invariant.left i (omega arith))) c.loop-k.invariant

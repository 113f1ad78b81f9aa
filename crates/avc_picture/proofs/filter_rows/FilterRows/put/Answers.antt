use Rattle.std.proofs.Common.{◌∙◌, ◌<◌, ◌+◌, ◌∷◌, ◌++◌, [], ap, arith, length, get_or-set_same}
use Rattle.avc_picture.proofs.LastRows.{inside_row, row_ended, still_inside, still_ended, still_more}
use Rattle.avc_picture.proofs.filter_rows.FilterRows.put.Goals as goal

pub invariant_of-self : goal.invariant_of-self
invariant_of-self g c =
    let i = c.self.inside in
    let k = c.self.invariant.0 in
    let f = c.set_filter_info.new.info in
    let room : i.column < length i.current.items = omega (arith, k.narrow, k.current_long) in
    let more = c.with-self-inside.ensures ∙ ap (λ x. i.info.items ++ x ∷ []) (c.index.ensures ∙ get_or-set_same i.current.items i.column f _ room) in
    let here = still_more c.args.mb.now c.args.neighbour_info.now.motion c.args.slice.now f c.set_filter_info.ensures.info c.args.stands_still c.requires.skipped c.requires.still
    i.current_still c.still_with-self-inside.result i.column i.current.items room c.self.invariant.1.current_is c.still_with-self-inside.ensures.still c.still_with-self-inside.ensures.frame c.still_with-self-inside.ensures.before in
    rw (c.swap-then-self.ensures.x_after, c.swap-then-self.ensures.y_after, c.swap.ensures.x_after, c.swap.ensures.y_after, more)
    (row_ended k f c.if-self.true, still_ended c.self.invariant.1 f room here c.if-self.true _)

pub invariant_of-self-else-self : goal.invariant_of-self-else-self
invariant_of-self-else-self g c =
    let i = c.self.inside in
    let k = c.self.invariant.0 in
    let f = c.set_filter_info.new.info in
    let room : i.column < length i.current.items = omega (arith, k.narrow, k.current_long) in
    let more = c.with-self-inside.ensures ∙ ap (λ x. i.info.items ++ x ∷ []) (c.index.ensures ∙ get_or-set_same i.current.items i.column f _ room) in
    let inside : i.column + 1 < i.width = omega (arith, k.narrow, c.if-self.false) in
    let here = still_more c.args.mb.now c.args.neighbour_info.now.motion c.args.slice.now f c.set_filter_info.ensures.info c.args.stands_still c.requires.skipped c.requires.still
    i.current_still c.still_with-self-inside.result i.column i.current.items room c.self.invariant.1.current_is c.still_with-self-inside.ensures.still c.still_with-self-inside.ensures.frame c.still_with-self-inside.ensures.before in
    rw more (inside_row k f inside, still_inside c.self.invariant.1 f room here)

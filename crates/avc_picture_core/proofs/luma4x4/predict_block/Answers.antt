use Rattle.avc_picture_core.proofs.InterTiles.{rules, refl, arith, room_lent, can_predict4x4, extended, predict4x4, seen_from, laid, seen4x4}
use Rattle.avc_picture_core.proofs.luma4x4.predict_block.Goals as goal

pub lay4x4-requires-clause-room : goal.lay4x4-requires-clause-room
lay4x4-requires-clause-room g c = search (rules, room_lent)

pub returns-clause-samples : goal.returns-clause-samples
returns-clause-samples g c inside =
    let a = c.args in
    let at = c.padded_place-at in
    let rows = c.padded_rows_mut in
    let p = seen_from a.plane.now a.left a.top in
    let seen = seen4x4 g.row.PAD a.left a.top 4 at.result.first at.result.stride a.plane.now a.sides rows.result.now rows.ensures.rows c.requires.block.columns c.requires.block.rows inside at.ensures.first at.ensures.stride refl in
    laid g.row.PAD a.left a.top 4 at.result.first at.result.stride a.plane.now a.sides rows.result.now rows.ensures.rows c.requires.block.columns c.requires.block.rows inside at.ensures.first at.ensures.stride
    (omega arith) (can_predict4x4 a.sides a.mode) (predict4x4 a.sides (extended a.sides p) a.mode) c.lay4x4.new.rows c.requires.mode (λ _. c.lay4x4.ensures.samples p seen)

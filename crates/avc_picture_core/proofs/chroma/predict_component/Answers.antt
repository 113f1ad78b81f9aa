use Rattle.avc_picture_core.proofs.InterTiles.{◌*◌, arith, room_lent, can_predict_chroma, predict_chroma, seen_from, laid}
use Rattle.avc_picture_core.proofs.chroma.predict_component.Goals as goal

pub lay_chroma-requires-clause-room : goal.lay_chroma-requires-clause-room
lay_chroma-requires-clause-room g c =
    let place = c.padded_place-at in
    let rows = c.padded_rows_mut in
    let first = rw (c.first_column-left.ensures, c.first_row-top.ensures) at place.ensures.first in
    room_lent g.row.PAD c.args.plane.now (8 * c.args.place.column) (8 * c.args.place.row) 8 8 place.result.first place.result.stride rows.result.now rows.ensures.rows
    c.requires.macroblock.columns c.requires.macroblock.rows first place.ensures.stride

pub returns-clause-samples : goal.returns-clause-samples
returns-clause-samples g c inside =
    let s = c.args.plane.now in
    let left = 8 * c.args.place.column in
    let top = 8 * c.args.place.row in
    let sides = c.args.sides in
    let mode = c.args.mode in
    let place = c.padded_place-at in
    let rows = c.padded_rows_mut in
    let first = rw (c.first_column-left.ensures, c.first_row-top.ensures) at place.ensures.first in
    laid g.row.PAD left top 8 place.result.first place.result.stride s sides rows.result.now rows.ensures.rows c.requires.macroblock.columns c.requires.macroblock.rows inside first place.ensures.stride
    (omega arith) (can_predict_chroma sides mode) (predict_chroma sides (seen_from s left top) mode) c.lay_chroma.new.rows c.requires.mode (c.lay_chroma.ensures.samples (seen_from s left top))

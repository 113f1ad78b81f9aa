use Rattle.std.specs.Prelude.{refl}
use Rattle.avc_picture_core.proofs.StillMacroblocks.{rows_lie_in, rows_fit, rows_copied}
use Rattle.avc_picture_core.proofs.still.copy_rows.Goals as goal

pub copy_pieces-requires-clause-source : goal.copy_pieces-requires-clause-source
copy_pieces-requires-clause-source g c =
    let a = c.args in
    rows_lie_in g.row.PAD a.from.now a.plane.now c.padded_rows.result.now c.padded_rows_mut-rows.result.now c.padded_rows.ensures c.padded_rows_mut-rows.ensures.rows a.top a.height _ c.stride-stride.result
    c.requires.width c.requires.from_rows c.requires.rows refl c.stride-stride.ensures.value

pub copy_pieces-requires-clause-target : goal.copy_pieces-requires-clause-target
copy_pieces-requires-clause-target g c =
    let a = c.args in
    rows_fit g.row.PAD a.from.now a.plane.now c.padded_rows.result.now c.padded_rows_mut-rows.result.now c.padded_rows.ensures c.padded_rows_mut-rows.ensures.rows a.top a.height _ c.stride-stride.result
    c.requires.width c.requires.from_rows c.requires.rows refl c.stride-stride.ensures.value

pub returns : goal.returns
returns g c =
    let a = c.args in
    rows_copied g.row.PAD a.from.now a.plane.now c.padded_rows.result.now c.padded_rows_mut-rows.result.now c.padded_rows.ensures c.padded_rows_mut-rows.ensures.rows a.top a.height _ c.stride-stride.result
    c.requires.width c.requires.from_rows c.requires.rows refl c.stride-stride.ensures.value _ c.copy_pieces.ensures

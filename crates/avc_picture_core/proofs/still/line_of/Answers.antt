use Rattle.std.specs.Prelude.{refl}
use Rattle.avc_picture_core.proofs.InterTiles.{arith}
use Rattle.avc_picture_core.proofs.StillMacroblocks.{line_samples}
use Rattle.avc_picture_core.proofs.still.line_of.Goals as goal

pub returns-clause-samples : goal.returns-clause-samples
returns-clause-samples g c =
    let a = c.args in
    line_samples g.row.PAD a.from.now c.padded_rows.result.now c.padded_rows.ensures a.left a.y a.width _ c.stride-stride.result c.requires.line.columns (omega (arith, c.requires.line.rows)) refl c.stride-stride.ensures.value _ refl

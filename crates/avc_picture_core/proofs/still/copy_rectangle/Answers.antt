use Rattle.avc_picture_core.proofs.InterTiles.{◌∙◌, ap, ◌+◌, ◌*◌, Plane, with_block, slice_index}
use Rattle.avc_picture_core.proofs.StillMacroblocks.{no_row, row_more}
use Rattle.avc_picture_core.proofs.still.copy_rectangle.Goals as goal

pub loop-row-init : goal.loop-row-init
loop-row-init g c = no_row c.args.plane.now c.args.from.now c.args.left c.args.top c.args.width c.holds_bytes.ensures.all

pub loop-row-preserved : goal.loop-row-preserved
loop-row-preserved g c =
    let a = c.args in
    let row = c.loop-row.row in
    let line = c.line_of-line.result.now in
    c.set_block.ensures
    ∙ ap (λ (p : Plane). with_block p a.left (a.top + row) a.width 1 (λ x y. slice_index line (a.width * y + x))) c.loop-row.invariant
    ∙ row_more a.plane.now a.from.now a.left a.top a.width row line c.line_of-line.ensures.samples

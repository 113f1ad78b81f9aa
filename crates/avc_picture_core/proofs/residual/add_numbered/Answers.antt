use Rattle.avc_picture_core.proofs.InterTiles.{get_or_default, rules, ◌≡◌, ◌+◌, ◌*◌, ◌∙◌, [], ap, arith, sym, slice_index_or, residual4x4, block_x, block_y}
use Rattle.avc_picture_core.specs.Residuals.{with_residual}
use Rattle.avc_picture_core.proofs.residual.add_numbered.Goals as goal

pub returns-clause-block : goal.returns-clause-block
returns-clause-block g c =
    let a = c.args in
    let s = a.plane.now in
    let left = c.first_column.result + c.left_of_block.result in
    let top = c.first_row.result + c.top_of_block.result in
    let levels = slice_index_or a.levels.now a.k c.index-levels-k.result in
    let mine : slice_index_or a.levels.now a.k [] ≡ levels = get_or_default a.levels.now a.k [] c.index-levels-k.result (search rules) in
    let at_left : left ≡ 16 * a.place.column + block_x a.k = omega (arith, c.first_column.ensures, c.left_of_block.ensures.value) in
    let at_top : top ≡ 16 * a.place.row + block_y a.k = omega (arith, c.first_row.ensures, c.top_of_block.ensures.value) in
    c.add_block4x4.ensures
    ∙ ap (λ n. with_residual s n top 4 4 (residual4x4 a.qp.value levels)) at_left
    ∙ ap (λ n. with_residual s (16 * a.place.column + block_x a.k) n 4 4 (residual4x4 a.qp.value levels)) at_top
    ∙ ap (λ l. with_residual s (16 * a.place.column + block_x a.k) (16 * a.place.row + block_y a.k) 4 4 (residual4x4 a.qp.value l)) (sym mine)

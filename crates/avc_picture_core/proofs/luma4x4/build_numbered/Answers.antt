use Rattle.avc_picture_core.proofs.InterTiles.{get_or_default, ◌≡◌, ◌+◌, ◌*◌, [], slice_index_or, ap, sym, ◌∙◌, arith, rules, block_x, block_y, absent}
use Rattle.avc_picture_core.proofs.InterTiles.{mode4x4_of, residual4x4, mode_number, AreInside, nxn_block, nxn_residual}
use Rattle.avc_types.specs.MacroblockFields.{residual_of}
use Rattle.avc_picture_core.proofs.luma4x4.build_numbered.Goals as goal

pub returns-clause-block : goal.returns-clause-block
returns-clause-block g c = λ p at.
    let a = c.args in
    let k = a.k in
    let cur = a.plane.now in
    let left = c.first_column.result + c.left_of_block.result in
    let top = c.first_row.result + c.top_of_block.result in
    let blocks = a.levels.blocks.now.luma in
    let levels = slice_index_or blocks k c.index-blocks-k.result in
    let mine : slice_index_or blocks k [] ≡ levels = get_or_default blocks k [] c.index-blocks-k.result (search rules) in
    let f = residual4x4 a.qp.value levels in
    let at_left : left ≡ 16 * a.place.column + block_x k = omega (arith, c.first_column.ensures, c.left_of_block.ensures.value) in
    let at_top : top ≡ 16 * a.place.row + block_y k = omega (arith, c.first_row.ensures, c.top_of_block.ensures.value) in
    let within : AreInside left top cur.width c.sides-sides.result =
    rw (c.sides-sides.ensures, at_top, at_left) (at.may_read.inside k c.requires.number) in
    c.build_block.ensures.block within
    ∙ nxn_block p k cur left top c.sides-sides.result c.mode4x4-mode.result f
    (ap (λ n. n + block_x k) at.left ∙ sym at_left) (ap (λ n. n + block_y k) at.top ∙ sym at_top)
    (at.may_read.sides k c.requires.number ∙ sym c.sides-sides.ensures)
    (ap (λ l. mode4x4_of (mode_number (slice_index_or l k absent))) at.modes_are ∙ sym c.mode4x4-mode.ensures)
    (λ x y column row. nxn_residual a.qp.value k (residual_of [] a.levels.blocks.now) levels c.requires.number mine x y column row ∙ sym (at.residual_is (block_x k + x) (block_y k + y)))

use Rattle.avc_picture_core.proofs.InterTiles.{ℤ, ◌*◌, ◌%◌, ◌+ℤ◌, ◌>>ℤ◌, sym, no_level, residual_of_dc, residual_same, luma_residual_16x16}
use Rattle.avc_types.specs.MacroblockFields.{residual_of}
use Rattle.avc_picture_core.proofs.InterTiles.{get_or_default, ints, to_z, of_z, w32, rules, ◌≡◌, ◌+◌, ◌/◌, pos, [], ap, ◌∙◌, refl, slice_index_or, arith}
use Rattle.avc_picture_core.proofs.InterTiles.{block_at, residual4x4_with_dc, luma_dc, luma_tile, residual_by_dc, added_all, added_more, added_none}
use Rattle.avc_picture_core.proofs.residual.add_luma_residual_16x16.Goals as goal

pub loop-k-init : goal.loop-k-init
loop-k-init g c = search (rules, added_none)

pub loop-k-preserved : goal.loop-k-preserved
loop-k-preserved g c =
    let k = c.loop-k.k in
    let l = c.left_of_block-left.result in
    let t = c.top_of_block-top.result in
    let qp = c.args.qp.value in
    let blocks = c.args.levels.blocks.now.luma in
    let levels = slice_index_or blocks k c.index-blocks-k.result in
    let mine : slice_index_or blocks k [] ≡ levels = get_or_default blocks k [] c.index-blocks-k.result (search rules) in
    let tile = luma_tile k l t c.loop-k-test.true c.left_of_block-left.ensures.value c.top_of_block-top.ensures.value in
    let dc = slice_index_or c.luma_dc-values.result (t + l / 4) (pos 0) in
    let small = c.luma_dc-values.ensures.small (t + l / 4) (omega (arith, tile.across, tile.down, tile.row)) in
    let back : to_z w32 (of_z w32 dc) ≡ dc = omega (arith, ints, small.low, small.high) in
    let value : dc ≡ luma_dc qp c.args.levels.dc.now (l / 4) (t / 4) =
    ap (λ i. slice_index_or c.luma_dc-values.result i (pos 0)) (omega (arith, tile.row))
    ∙ c.luma_dc-values.ensures.values (l / 4) (t / 4) (omega (arith, tile.across)) (omega (arith, tile.down))
    ∙ ap (λ d. luma_dc qp d (l / 4) (t / 4)) c.as_array.ensures in
    added_more c.args.plane.now 16 c.args.place.column c.args.place.row _ _ block_at (residual_by_dc qp (luma_dc qp c.args.levels.dc.now) blocks) c.requires.macroblock.columns c.requires.macroblock.rows
    c.loop-k.plane c.add_block4x4_with_dc.new.plane k l t (residual4x4_with_dc qp (to_z w32 (of_z w32 dc)) levels) c.loop-k.invariant
    tile (λ i j. rw (back, value, mine) refl) c.add_block4x4_with_dc.ensures

pub returns : goal.returns
returns g c =
    added_all c.args.plane.now 16 c.args.place.column c.args.place.row _ _ block_at (residual_by_dc c.args.qp.value (luma_dc c.args.qp.value c.args.levels.dc.now) c.args.levels.blocks.now.luma)
    c.loop-k.plane c.loop-k.k c.loop-k.invariant (λ x y column row. omega (arith, c.loop-k-test.false))

pub returns-then-not-has_luma_levels : goal.returns-then-not-has_luma_levels
returns-then-not-has_luma_levels g c =
    let qp = c.args.qp.value in
    let dc = c.args.levels.dc.now in
    let blocks = c.args.levels.blocks.now.luma in
    let rounded = λ (z : ℤ). z +ℤ pos 32 >>ℤ 6 in
    c.add_luma_levels.ensures
    ∙ residual_same c.args.plane.now (16 * c.args.place.column) (16 * c.args.place.row) 16 16 _ (luma_residual_16x16 qp (residual_of dc c.args.levels.blocks.now))
    (λ x y column row.
    ap rounded (c.luma_dc-values.ensures.values (x / 4) (y / 4) (omega arith) (omega arith) ∙ ap (λ d. luma_dc qp d (x / 4) (y / 4)) c.as_array.ensures)
    ∙ sym (residual_of_dc qp (luma_dc qp dc (x / 4) (y / 4)) (slice_index_or blocks (block_at x y) []) (x % 4) (y % 4)
    (no_level (slice_index_or blocks (block_at x y) []) (c.has_luma_levels.ensures c.if-not-has_luma_levels.true (block_at x y) (omega (arith, column, row))))))

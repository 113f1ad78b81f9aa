use Rattle.avc_picture_core.specs.Residuals.{with_residual}
use Rattle.avc_picture_core.proofs.InterTiles.{ℕ, ℤ, ◌+◌, ◌+ℤ◌, ◌>>ℤ◌, sym, no_level, residual_of_dc, residual_same, chroma_residual}
use Rattle.avc_picture_core.proofs.InterTiles.{rules, get_or_default, ints, to_z, of_z, w32, ◌≡◌, ◌*◌, ◌/◌, ◌%◌, pos, [], ap, ◌∙◌, refl, slice_index_or, arith}
use Rattle.avc_picture_core.proofs.InterTiles.{residual4x4_with_dc, chroma_dc, chroma_number, chroma_tile, residual_by_dc, added_all, added_more, added_none}
use Rattle.avc_picture_core.proofs.residual.add_chroma_blocks4x4.Goals as goal

pub loop-k-init : goal.loop-k-init
loop-k-init g c = search (rules, added_none)

pub loop-k-preserved : goal.loop-k-preserved
loop-k-preserved g c =
    let k = c.loop-k.k in
    let l = 4 * (k % 2) in
    let t = 4 * (k / 2) in
    let qp = c.args.qp.value in
    let blocks = c.args.ac.now in
    let levels = slice_index_or blocks k c.index-ac-k.result in
    let mine : slice_index_or blocks k [] ≡ levels = get_or_default blocks k [] c.index-ac-k.result (omega (arith, c.told-ac, c.loop-k-test.true)) in
    let dc = slice_index_or c.chroma_dc-values.result k (pos 0) in
    let small = c.chroma_dc-values.ensures.small k c.loop-k-test.true in
    let back : to_z w32 (of_z w32 dc) ≡ dc = omega (arith, ints, small.low, small.high) in
    let value : dc ≡ chroma_dc qp c.args.dc.now (l / 4) (t / 4) =
    ap (λ i. slice_index_or c.chroma_dc-values.result i (pos 0)) (omega arith)
    ∙ c.chroma_dc-values.ensures.values (l / 4) (t / 4) (omega arith) (omega (arith, c.loop-k-test.true))
    ∙ ap (λ d. chroma_dc qp d (l / 4) (t / 4)) c.as_array.ensures in
    added_more c.args.plane.now 8 c.args.place.column c.args.place.row _ _ chroma_number (residual_by_dc qp (chroma_dc qp c.args.dc.now) blocks) c.requires.macroblock.columns c.requires.macroblock.rows
    c.loop-k.plane c.add_block4x4_with_dc.new.plane k l t (residual4x4_with_dc qp (to_z w32 (of_z w32 dc)) levels) c.loop-k.invariant
    (chroma_tile k c.loop-k-test.true) (λ i j. rw (back, value, mine) refl) c.add_block4x4_with_dc.ensures

pub returns : goal.returns
returns g c = search (rules, added_all)

pub returns-then-not-has_ac_levels : goal.returns-then-not-has_ac_levels
returns-then-not-has_ac_levels g c =
    let qp = c.args.qp.value in
    let dc = c.args.dc.now in
    let ac = c.args.ac.now in
    let rounded = λ (z : ℤ). z +ℤ pos 32 >>ℤ 6 in
    let s = c.args.plane.now in
    let left = 8 * c.args.place.column in
    let top = 8 * c.args.place.row in
    let four = λ (x y : ℕ). slice_index_or c.residuals_of_dc.result (2 * (y / 4) + x / 4) (pos 0) in
    c.add_levels_to_square.ensures
    ∙ ap (λ l. with_residual s l c.first_row-row.result 8 8 four) c.first_column-column.ensures
    ∙ ap (λ t. with_residual s left t 8 8 four) c.first_row-row.ensures
    ∙ residual_same s left top 8 8 four (chroma_residual qp dc ac)
    (λ x y column row.
    c.residuals_of_dc.ensures.values (2 * (y / 4) + x / 4) (omega arith)
    ∙ ap (λ i. rounded (slice_index_or c.chroma_dc-values.result i (pos 0))) (omega arith)
    ∙ ap rounded (c.chroma_dc-values.ensures.values (x / 4) (y / 4) (omega arith) (omega arith) ∙ ap (λ d. chroma_dc qp d (x / 4) (y / 4)) c.as_array.ensures)
    ∙ sym (residual_of_dc qp (chroma_dc qp dc (x / 4) (y / 4)) (slice_index_or ac (2 * (y / 4) + x / 4) []) (x % 4) (y % 4)
    (no_level (slice_index_or ac (2 * (y / 4) + x / 4) []) (c.has_ac_levels.ensures c.if-not-has_ac_levels.true (2 * (y / 4) + x / 4) (omega arith)))))

use Rattle.avc_picture_core.proofs.InterTiles.{ℕ, ◌≡◌, ◌+◌, ◌*◌, ◌/◌, ◌≤◌, ◌+ℤ◌, ◌>>ℤ◌, ◌∙◌, pos, arith, ap, slice_index_or, residual_same}
use Rattle.avc_picture_core.specs.Residuals.{with_residual}
use Rattle.avc_picture_core.proofs.LevelRows.{rows_more}
use Rattle.avc_picture_core.proofs.residual.add_luma_levels.Goals as goal

pub returns : goal.returns
returns g c =
    let s = c.args.plane.now in
    let left = c.first_column-left.result in
    let top = c.first_row-top.result in
    let v = λ (i : ℕ). slice_index_or c.args.values.now i (pos 0) +ℤ pos 32 >>ℤ 6 in
    let f = λ (x y : ℕ). v (4 * (y / 4) + x / 4) in
    let a = c.add_levels_to_row.new.plane in
    let b = c.add_levels_to_row-2.new.plane in
    let d = c.add_levels_to_row-3.new.plane in
    let e = c.add_levels_to_row-4.new.plane in
    let columns : left + 16 ≤ s.width = omega (arith, c.first_column-left.ensures, c.requires.macroblock.columns) in
    let rows : top + 16 ≤ s.height = omega (arith, c.first_row-top.ensures, c.requires.macroblock.rows) in
    let one : a ≡ with_residual s left top 16 4 f =
    c.add_levels_to_row.ensures
    ∙ residual_same s left top 16 4 _ f (λ x y column row. c.residuals_of_dc.ensures.values (x / 4) (omega arith) ∙ ap v (omega arith)) in
    let two : b ≡ with_residual a left (top + 4) 16 4 (λ x y. f x (4 + y)) =
    c.add_levels_to_row-2.ensures
    ∙ residual_same a left (top + 4) 16 4 _ (λ x y. f x (4 + y)) (λ x y column row. c.residuals_of_dc-2.ensures.values (x / 4) (omega arith) ∙ ap v (omega arith)) in
    let three : d ≡ with_residual b left (top + 8) 16 4 (λ x y. f x (8 + y)) =
    c.add_levels_to_row-3.ensures
    ∙ residual_same b left (top + 8) 16 4 _ (λ x y. f x (8 + y)) (λ x y column row. c.residuals_of_dc-3.ensures.values (x / 4) (omega arith) ∙ ap v (omega arith)) in
    let four : e ≡ with_residual d left (top + 12) 16 4 (λ x y. f x (12 + y)) =
    c.add_levels_to_row-4.ensures
    ∙ residual_same d left (top + 12) 16 4 _ (λ x y. f x (12 + y)) (λ x y column row. c.residuals_of_dc-4.ensures.values (x / 4) (omega arith) ∙ ap v (omega arith)) in
    rows_more s d e left top 16 12 4 f columns rows
    (rows_more s b d left top 16 8 4 f columns (omega (arith, rows)) (rows_more s a b left top 16 4 4 f columns (omega (arith, rows)) one two) three) four
    ∙ ap (λ l. with_residual s l top 16 16 f) c.first_column-left.ensures
    ∙ ap (λ t. with_residual s (16 * c.args.place.column) t 16 16 f) c.first_row-top.ensures

use Rattle.avc_edges.proofs.EdgesOnPlane.{ℕ, Bool, true, false, ◌+◌, ◌*◌, ◌≡◌, ◌<◌, arith, refl, sym, ap, ◌∙◌, slice_index, edge_filtered, with_block, within_block}
use Rattle.avc_edges.proofs.EdgesOnPlane.{Plane, List, square, square_itself, edge_on_square, edge_behind, set_flag, clear_flag}
use Rattle.avc_edges.proofs.kernels.three_weak_edges.Goals as goal

pub returns-then-this-ne0 : goal.returns-then-this-ne0
returns-then-this-ne0 g c setting fits =
    let s = c.args.plane.now in
    let left = c.args.left in
    let top = c.args.top in
    let fit = λ (i : ℕ) (low : i < 16).
    c.of_luma-limits.ensures (setting i) i low (fits i low) in
    let first = c.filter_rows.new.t in
    let second = c.filter_rows-then-this-ne0.new.t in
    let third = c.filter_rows-then-this-ne0-2.new.t in
    let across : ℕ → Plane → Plane = λ x p. edge_filtered setting true x top 16 p in
    let with_square : List ℕ → Plane = λ t. with_block s left top 16 16 (square t) in
    let first_at : left + 0 + 4 ≡ left + 4 = omega arith in
    let second_at : left + 4 + 4 ≡ left + 8 = omega arith in
    let third_at : left + 8 + 4 ≡ left + 12 = omega arith in
    let all = c.rectangle-square.ensures in
    let begun = square_itself s left top (square c.transposed-lines.result) all.all (λ x y x_low y_low. c.transposed-lines.ensures y x y_low x_low ∙ all.samples x y x_low y_low) in
    let one = edge_on_square setting left top 0 0 s c.transposed-lines.result first refl (omega arith) c.requires.columns c.requires.rows (λ i low. c.filter_rows.ensures.lines (setting i) i low (fit i low)) c.filter_rows.ensures.others in
    let two = edge_on_square setting left top 4 64 s first second refl (omega arith) c.requires.columns c.requires.rows (λ i low. c.filter_rows-then-this-ne0.ensures.lines (setting i) i low (fit i low)) c.filter_rows-then-this-ne0.ensures.others in
    let three = edge_on_square setting left top 8 128 s second third refl (omega arith) c.requires.columns c.requires.rows (λ i low. c.filter_rows-then-this-ne0-2.ensures.lines (setting i) i low (fit i low)) c.filter_rows-then-this-ne0-2.ensures.others in
    c.set_rectangle.ensures
    ∙ within_block s left top 16 16 0 0 16 16 left top (square third) (λ x y. slice_index c.transposed-after.result (16 * y + x)) (omega arith) (omega arith) (omega arith) (omega arith)
    (λ x y x_low y_low. c.transposed-after.ensures x y x_low y_low ∙ ap (λ a. square third a y) (let e : x ≡ 0 + x = omega arith in e) ∙ ap (square third (0 + x)) (let e : y ≡ 0 + y = omega arith in e))
    (λ x y x_low y_low out. absurd (out (omega arith) (omega arith) (omega arith) (omega arith)))
    ∙ sym three
    ∙ ap (λ (x : ℕ). across x (with_square second)) third_at
    ∙ ap (across (left + 12))
    (sym two
    ∙ ap (λ (x : ℕ). across x (with_square first)) second_at
    ∙ ap (across (left + 8))
    (sym one ∙ ap (λ (x : ℕ). across x (with_square c.transposed-lines.result)) first_at ∙ ap (across (left + 4)) (sym begun)))
    ∙ ap (λ (v : Bool). edge_behind setting v left top 12 (edge_behind setting v left top 8 (edge_behind setting v left top 4 s))) (sym (set_flag _ c.if-this-ne0.true))

pub returns : goal.returns
returns g c setting fits =
    let left = c.args.left in
    let top = c.args.top in
    let down : ℕ → Plane → Plane = λ y s. edge_filtered setting false left y 16 s in
    let second : top + 4 + 4 ≡ top + 8 = omega arith in
    let third : top + 8 + 4 ≡ top + 12 = omega arith in
    c.weak_edge-3.ensures.lines setting fits
    ∙ ap (λ (y : ℕ). down y c.weak_edge-2.new.plane) third
    ∙ ap (down (top + 12))
    (c.weak_edge-2.ensures.lines setting fits
    ∙ ap (λ (y : ℕ). down y c.weak_edge.new.plane) second
    ∙ ap (down (top + 8)) (c.weak_edge.ensures.lines setting fits))
    ∙ ap (λ (v : Bool). edge_behind setting v left top 12 (edge_behind setting v left top 8 (edge_behind setting v left top 4 c.args.plane.now))) (sym (clear_flag _ c.if-this-ne0.false))

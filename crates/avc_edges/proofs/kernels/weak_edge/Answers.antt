use Rattle.avc_edges.proofs.EdgesOnPlane.{ℕ, Bool, true, false, ◌+◌, ◌*◌, ◌≡◌, ◌<◌, arith, refl, sym, ap, ◌∙◌, subst, slice_index, sample, filtered, line_of}
use Rattle.avc_edges.proofs.EdgesOnPlane.{edge_as_block, edge_behind, set_flag, clear_flag, same_samples, weak_reach, kept_by, within_block, HasLines}
use Rattle.avc_edges.proofs.kernels.weak_edge.Goals as goal

pub rectangle-block-requires : goal.rectangle-block-requires
rectangle-block-requires g c =
    let room = subst (λ (v : Bool). HasLines v c.args.left c.args.top c.args.plane.now) (set_flag _ c.if-this-ne0.true) c.requires in
    (omega arith, (omega arith, (room.columns, (room.rows, refl))))

pub returns-then-this-ne0-clause-lines : goal.returns-then-this-ne0-clause-lines
returns-then-this-ne0-clause-lines g c setting fits =
    let s = c.args.plane.now in
    let left = c.args.left in
    let top = c.args.top in
    let room = subst (λ (v : Bool). HasLines v left top s) (set_flag _ c.if-this-ne0.true) c.requires in
    let before = c.transposed-lines.result in
    let after = c.weak_luma.new.t in
    let lines : (i : ℕ) → i < 16 → filtered (setting i) (line_of (λ k. sample s (left + k) (top + i))) ≡ line_of (λ k. slice_index after (16 * k + i)) =
    λ i low.
    ap (filtered (setting i))
    (same_samples (λ k. sample s (left + k) (top + i)) (λ k. slice_index before (16 * k + i))
    (λ k less. sym (c.rectangle-block.ensures.samples k i less low) ∙ sym (c.transposed-lines.ensures i k low less)))
    ∙ c.weak_luma.ensures (setting i) i low (c.of_luma-limits.ensures (setting i) i low (fits i low)) in
    c.set_rectangle.ensures
    ∙ within_block s left top 8 16 2 0 4 16 (left + 2) top (λ x y. slice_index after (16 * x + y)) (λ x y. slice_index c.rows_of_middle-after.result (4 * y + x)) refl (omega arith) (omega arith) (omega arith)
    (λ x y x_low y_low. c.rows_of_middle-after.ensures y x y_low x_low ∙ ap (slice_index after) (omega arith))
    (λ x y x_low y_low out.
    kept_by (setting y) (λ k. sample s (left + k) (top + y)) (λ k. slice_index after (16 * k + y)) 2 (weak_reach (setting y) (fits y y_low).weak) (lines y y_low) x x_low (λ p q. out p (omega arith) (omega arith) (omega arith)))
    ∙ sym (edge_as_block true setting left top 16 s c.rectangle-block.ensures.all (λ x y. slice_index after (16 * x + y)) room.columns room.rows lines)
    ∙ ap (λ (v : Bool). edge_behind setting v left top 4 s) (sym (set_flag _ c.if-this-ne0.true))

pub returns-clause-lines : goal.returns-clause-lines
returns-clause-lines g c setting fits =
    let s = c.args.plane.now in
    let left = c.args.left in
    let top = c.args.top in
    let room = subst (λ (v : Bool). HasLines v left top s) (clear_flag _ c.if-this-ne0.false) c.requires in
    let before = c.rectangle-lines.result in
    let after = c.weak_luma-2.new.t in
    let lines : (i : ℕ) → i < 16 → filtered (setting i) (line_of (λ k. sample s (left + i) (top + k))) ≡ line_of (λ k. slice_index after (16 * k + i)) =
    λ i low.
    ap (filtered (setting i))
    (same_samples (λ k. sample s (left + i) (top + k)) (λ k. slice_index before (16 * k + i)) (λ k less. sym (c.rectangle-lines.ensures.samples i k low less)))
    ∙ c.weak_luma-2.ensures (setting i) i low (c.of_luma-limits.ensures (setting i) i low (fits i low)) in
    c.set_rectangle-2.ensures
    ∙ within_block s left top 16 8 0 2 16 4 left (top + 2) (λ x y. slice_index after (16 * y + x)) (λ x y. slice_index c.samples_from-inner.result (16 * y + x)) (omega arith) refl (omega arith) (omega arith)
    (λ x y x_low y_low. c.samples_from-inner.ensures (16 * y + x) (omega arith) ∙ ap (slice_index after) (omega arith))
    (λ x y x_low y_low out.
    kept_by (setting x) (λ k. sample s (left + x) (top + k)) (λ k. slice_index after (16 * k + x)) 2 (weak_reach (setting x) (fits x x_low).weak) (lines x x_low) y y_low (λ p q. out (omega arith) (omega arith) p (omega arith)))
    ∙ sym (edge_as_block false setting left top 16 s c.rectangle-lines.ensures.all (λ x y. slice_index after (16 * y + x)) room.columns room.rows lines)
    ∙ ap (λ (v : Bool). edge_behind setting v left top 4 s) (sym (clear_flag _ c.if-this-ne0.false))

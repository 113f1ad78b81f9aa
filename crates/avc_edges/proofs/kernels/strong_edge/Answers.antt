use Rattle.avc_edges.proofs.EdgesOnPlane.{◌+◌, ◌*◌, arith, refl, Bool, true, false, sym, ap, ◌∙◌, subst, slice_index, sample, filtered, filtered_across, same_samples}
use Rattle.avc_edges.proofs.EdgesOnPlane.{edge_as_block, edge_behind, set_flag, clear_flag, HasLines}
use Rattle.avc_edges.proofs.kernels.strong_edge.Goals as goal

pub rectangle-block-requires : goal.rectangle-block-requires
rectangle-block-requires g c =
    let room = subst (λ (v : Bool). HasLines v c.args.left c.args.top c.args.plane.now) (set_flag _ c.if-this-ne0.true) c.requires in
    (omega arith, (omega arith, (room.columns, (room.rows, refl))))

pub returns-then-this-ne0 : goal.returns-then-this-ne0
returns-then-this-ne0 g c setting fits =
    let s = c.args.plane.now in
    let after = c.rows_of-after.result in
    let room = subst (λ (v : Bool). HasLines v c.args.left c.args.top s) (set_flag _ c.if-this-ne0.true) c.requires in
    c.set_rectangle.ensures
    ∙ sym (edge_as_block true setting c.args.left c.args.top 16 s c.rectangle-block.ensures.all (λ x y. slice_index after (8 * y + x)) room.columns room.rows
    (λ i low.
    ap (filtered (setting i))
    (same_samples (λ k. sample s (c.args.left + k) (c.args.top + i)) (λ k. slice_index c.rectangle-block.result (8 * i + k)) (λ k less. sym (c.rectangle-block.ensures.samples k i less low)))
    ∙ filtered_across (setting i) i c.rectangle-block.result c.transposed-lines.result c.strong_luma.new.t after low c.transposed-lines.ensures c.rows_of-after.ensures
    (c.strong_luma.ensures (setting i) i low (rw (c.of_lines-limits.ensures.alpha i low, c.of_lines-limits.ensures.beta i low) (fits i low)))))
    ∙ ap (λ (v : Bool). edge_behind setting v c.args.left c.args.top 4 s) (sym (set_flag _ c.if-this-ne0.true))

pub returns : goal.returns
returns g c setting fits =
    let s = c.args.plane.now in
    let before = c.rectangle-lines.result in
    let after = c.strong_luma-2.new.t in
    let room = subst (λ (v : Bool). HasLines v c.args.left c.args.top s) (clear_flag _ c.if-this-ne0.false) c.requires in
    c.set_rectangle-2.ensures
    ∙ sym (edge_as_block false setting c.args.left c.args.top 16 s c.rectangle-lines.ensures.all (λ x y. slice_index after (16 * y + x)) room.columns room.rows
    (λ i low.
    ap (filtered (setting i))
    (same_samples (λ k. sample s (c.args.left + i) (c.args.top + k)) (λ k. slice_index before (16 * k + i)) (λ k less. sym (c.rectangle-lines.ensures.samples i k low less)))
    ∙ c.strong_luma-2.ensures (setting i) i low (rw (c.of_lines-limits.ensures.alpha i low, c.of_lines-limits.ensures.beta i low) (fits i low))))
    ∙ ap (λ (v : Bool). edge_behind setting v c.args.left c.args.top 4 s) (sym (clear_flag _ c.if-this-ne0.false))

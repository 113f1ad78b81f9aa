use Rattle.avc_picture_core.proofs.InterTiles.{ℕ, ◌+◌, ◌*◌, ◌/◌, ◌∙◌, arith, ap, pos, slice_index, slice_index_or, sample, sum_of, with_block_same}
use Rattle.avc_picture_core.proofs.residual.add_levels_to_square.Goals as goal

pub returns : goal.returns
returns g c =
    let s = c.args.plane.now in
    let left = c.args.left in
    let top = c.args.top in
    let samples = c.rectangle-samples.result in
    let four = λ (k : ℕ). slice_index_or c.args.values k (pos 0) in
    c.set_rectangle.ensures
    ∙ with_block_same s left top 8 8 (λ x y. slice_index c.add_to_square-sums.result (8 * y + x)) (λ x y. sum_of (sample s (left + x) (top + y)) (four (2 * (y / 4) + x / 4)))
    (λ x y column row. c.add_to_square-sums.ensures (8 * y + x) (omega arith)
    ∙ ap (λ k. sum_of (slice_index samples (8 * y + x)) (four k)) (omega arith)
    ∙ ap (λ n. sum_of n (four (2 * (y / 4) + x / 4))) (c.rectangle-samples.ensures.samples x y column row))

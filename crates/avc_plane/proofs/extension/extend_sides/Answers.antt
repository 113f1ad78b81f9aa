use Rattle.avc_plane.proofs.PlaneMaps.{◌≡◌, ℕ, ◌+◌, ◌*◌, slice_index, arith, ◌∙◌, row_fits, below_more, nearest}
use Rattle.avc_plane.proofs.extension.extend_sides.Goals as goal

pub loop-y-preserved : goal.loop-y-preserved
loop-y-preserved c =
    let pad = c.args.pad in
    let stride = c.args.stride in
    let row = c.loop-y.y in
    let near = λ (x : ℕ). nearest pad c.args.width x + pad in
    record {
      done = λ x y column below. below_more (λ y. slice_index c.extend_row.new.stored ((y + pad) * stride + x) ≡ slice_index c.args.stored.now ((y + pad) * stride + near x)) row
          (λ y less. c.extend_row.ensures.before ((y + pad) * stride + x) (omega (arith, row_fits (y + pad) stride (row + pad) stride (omega arith) (omega arith))) ∙ c.loop-y.invariant.done x y column less)
          (c.extend_row.ensures.here x column ∙ c.loop-y.invariant.left ((row + pad) * stride + near x) (omega arith)) y below;
      left = λ k from.
          let end = row_fits (row + pad) stride (row + 1 + pad) stride (omega arith) (omega arith) in
          c.extend_row.ensures.after k (omega (arith, end)) ∙ c.loop-y.invariant.left k (omega (arith, end));
    }

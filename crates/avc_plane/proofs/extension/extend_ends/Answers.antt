use Rattle.avc_plane.proofs.PlaneMaps.{◌≡◌, ℕ, ◌+◌, ◌-◌, ◌*◌, ◌<◌, slice_index, arith, ap, ◌∙◌, inl, inr, row_fits, mul-le, cases_lt, below_more}
use Rattle.avc_plane.proofs.extension.extend_ends.Goals as goal

pub loop-y-preserved : goal.loop-y-preserved
loop-y-preserved c =
    let pad = c.args.pad in
    let height = c.args.height in
    let stride = c.args.stride in
    let row = c.loop-y.y in
    let old = c.loop-y.invariant in
    let first = c.copy_before.ensures in
    let second = c.copy_behind.ensures in
    let fits = λ (a m : ℕ) (less : a < m). row_fits a stride m stride less (omega arith) in
    record {
      above = λ x y column below. second.before (y * stride + x) (omega (arith, fits y (pad + height + row) (omega arith)))
          ∙ below_more (λ y. slice_index c.copy_before.new.stored (y * stride + x) ≡ slice_index c.args.stored.now (pad * stride + x)) row
          (λ y less. first.before (y * stride + x) (omega (arith, fits y row less)) ∙ old.above x y column less)
          (first.here x column ∙ old.between (pad * stride + x) (omega arith) (omega (arith, fits pad (pad + height) (omega arith)))) y below;
      below = λ x y column below. below_more (λ y. slice_index c.copy_behind.new.stored ((pad + height + y) * stride + x) ≡ slice_index c.args.stored.now ((pad + height - 1) * stride + x)) row
          (λ y less. second.before ((pad + height + y) * stride + x) (omega (arith, fits (pad + height + y) (pad + height + row) (omega arith)))
          ∙ first.after ((pad + height + y) * stride + x) (omega (arith, fits row (pad + height + y) (omega arith)))
          ∙ old.below x y column less)
          (second.here x column
          ∙ first.after ((pad + height - 1) * stride + x) (omega (arith, fits row (pad + height - 1) (omega arith)))
          ∙ old.between ((pad + height - 1) * stride + x) (omega (arith, mul-le pad stride (pad + height - 1) stride (omega arith) (omega arith))) (omega (arith, fits (pad + height - 1) (pad + height) (omega arith)))) y below;
      between = λ k from below. second.before k (omega (arith, mul-le (pad + height) stride (pad + height + row) stride (omega arith) (omega arith)))
          ∙ first.after k (omega (arith, fits row pad (omega arith)))
          ∙ old.between k from below;
    }

pub returns : goal.returns
returns c x y column row =
    let pad = c.args.pad in
    let height = c.args.height in
    let stride = c.args.stride in
    let old = c.loop-y.invariant in
    let fits = λ (a m : ℕ) (less : a < m). row_fits a stride m stride less (omega arith) in
    elim (cases_lt y pad) [
      | inl above ↦ old.above x y column (omega arith) ∙ ap (λ v. slice_index c.args.stored.now (v * stride + x)) (omega arith)
      | inr from ↦ elim (cases_lt y (pad + height)) [
        | inl inside ↦ old.between (y * stride + x) (omega (arith, mul-le pad stride y stride from (omega arith))) (omega (arith, fits y (pad + height) inside))
            ∙ ap (λ v. slice_index c.args.stored.now (v * stride + x)) (omega arith)
        | inr after ↦ ap (λ v. slice_index c.loop-y.stored (v * stride + x)) (omega arith) ∙ old.below x (y - (pad + height)) column (omega arith)
            ∙ ap (λ v. slice_index c.args.stored.now (v * stride + x)) (omega arith)
      ]
    ]

use Rattle.avc_transform.proofs.Residuals.{ℕ, ℤ, ◌≡◌, ◌≤◌, ◌^◌, ◌*◌, ◌/◌, ◌%◌, ◌+ℤ◌, ◌*ℤ◌, ◌>>ℤ◌, ◌∙◌, ap, arith, pos, even_scale, luma_dc_scaled}
use Rattle.avc_transform.proofs.Residuals.{below_four, passed, small_cast, luma_scaled}
use Rattle.avc_transform.proofs.dc.luma_dc_scaled.Goals as goal

scaled_is : (qp scale : ℕ) (f r : ℤ) → qp ≤ 51 → scale ≡ even_scale (qp % 6) * 2 ^ (qp / 6) → r ≡ (f *ℤ pos scale +ℤ pos 2 >>ℤ 2) → r ≡ luma_dc_scaled qp f
scaled_is qp scale f r small is told = told ∙ ap (λ s. f *ℤ pos s +ℤ pos 2 >>ℤ 2) is ∙ luma_scaled qp f small

pub returns : goal.returns
returns c =
    let qp = c.args.qp in
    let is = λ (f r : ℤ). scaled_is qp c.dc_scale-scale.result f r c.requires.quantiser c.dc_scale-scale.ensures.value in
    let q0 = c.quarter_scaled.ensures in
    let q1 = c.quarter_scaled-2.ensures in
    let q2 = c.quarter_scaled-3.ensures in
    let q3 = c.quarter_scaled-4.ensures in
    let small = c.requires.small in
    record {
      values = below_four _
          (passed (luma_dc_scaled qp) (omega arith) (omega arith) (small 0 (omega arith)) q0.small (is _ _ q0.value))
          (passed (luma_dc_scaled qp) (omega arith) (omega arith) (small 1 (omega arith)) q1.small (is _ _ q1.value))
          (passed (luma_dc_scaled qp) (omega arith) (omega arith) (small 2 (omega arith)) q2.small (is _ _ q2.value))
          (passed (luma_dc_scaled qp) (omega arith) (omega arith) (small 3 (omega arith)) q3.small (is _ _ q3.value));
      small = below_four _
          (small_cast (omega arith) q0.small) (small_cast (omega arith) q1.small) (small_cast (omega arith) q2.small) (small_cast (omega arith) q3.small);
    }

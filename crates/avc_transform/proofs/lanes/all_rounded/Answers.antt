use Rattle.avc_transform.proofs.Residuals.{◌+ℤ◌, pos, arith, ◌>>ℤ◌, below_four, small_cast, passed}
use Rattle.avc_transform.proofs.lanes.all_rounded.Goals as goal

pub returns : goal.returns
returns c =
    let r0 = c.rounded.ensures in
    let r1 = c.rounded-2.ensures in
    let r2 = c.rounded-3.ensures in
    let r3 = c.rounded-4.ensures in
    record {
      values = below_four _
          (passed (λ d. d +ℤ pos 32 >>ℤ 6) (omega arith) (omega arith) (c.requires 0 (omega arith)) r0.small r0.value)
          (passed (λ d. d +ℤ pos 32 >>ℤ 6) (omega arith) (omega arith) (c.requires 1 (omega arith)) r1.small r1.value)
          (passed (λ d. d +ℤ pos 32 >>ℤ 6) (omega arith) (omega arith) (c.requires 2 (omega arith)) r2.small r2.value)
          (passed (λ d. d +ℤ pos 32 >>ℤ 6) (omega arith) (omega arith) (c.requires 3 (omega arith)) r3.small r3.value);
      small = below_four _
          (small_cast (omega arith) r0.small) (small_cast (omega arith) r1.small) (small_cast (omega arith) r2.small) (small_cast (omega arith) r3.small);
    }

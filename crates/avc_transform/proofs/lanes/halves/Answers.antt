use Rattle.avc_transform.proofs.Residuals.{ℕ, ℤ, ◌+◌, ◌*◌, ◌^◌, arith, to_z, of_z, w32, ◌>>ℤ◌, IsBelow, below_four, cast_small, passed}
use Rattle.avc_transform.proofs.lanes.halves.Goals as goal

below : (n : ℕ) {d r : ℤ} → IsBelow (2 ^ 29) d → IsBelow (2 ^ 28 + 1) r → ((n : ℕ) → IsBelow (2 * n) (to_z w32 (of_z w32 d)) → IsBelow (n + 1) r)
    → IsBelow (2 * n) d → IsBelow (n + 1) (to_z w32 (of_z w32 r))
below n p q half all = rw (cast_small (omega arith) q) (half n (rw (cast_small (omega arith) p) all))

pub returns : goal.returns
returns c =
    let r0 = c.half_of.ensures in
    let r1 = c.half_of-2.ensures in
    let r2 = c.half_of-3.ensures in
    let r3 = c.half_of-4.ensures in
    record {
      values = below_four _
          (passed (λ d. d >>ℤ 1) (omega arith) (omega arith) (c.requires 0 (omega arith)) r0.small r0.value)
          (passed (λ d. d >>ℤ 1) (omega arith) (omega arith) (c.requires 1 (omega arith)) r1.small r1.value)
          (passed (λ d. d >>ℤ 1) (omega arith) (omega arith) (c.requires 2 (omega arith)) r2.small r2.value)
          (passed (λ d. d >>ℤ 1) (omega arith) (omega arith) (c.requires 3 (omega arith)) r3.small r3.value);
      small = λ n all. below_four _
          (below n (c.requires 0 (omega arith)) r0.small r0.half (all 0 (omega arith)))
          (below n (c.requires 1 (omega arith)) r1.small r1.half (all 1 (omega arith)))
          (below n (c.requires 2 (omega arith)) r2.small r2.half (all 2 (omega arith)))
          (below n (c.requires 3 (omega arith)) r3.small r3.half (all 3 (omega arith)));
    }

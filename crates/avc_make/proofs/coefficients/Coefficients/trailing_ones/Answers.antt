use Rattle.avc_make.proofs.Slices.{◌≡◌, ◌≢◌, ◌-◌, nat_abs, to_z, of_z, w16, ap, arith, ints, drop_all, length-map}
use Rattle.avc_make.proofs.Slices.{values_of, ones_at, ones_end, eq-eqb, ne_eqb}
use Rattle.avc_make.proofs.coefficients.Coefficients.trailing_ones.Goals.{then-k-len-via-then-k-len, then-k-len-via-else-k-len+then-unsigned_abs-ne1}
use Rattle.avc_make.proofs.coefficients.Coefficients.trailing_ones.Goals as goal

pub returns-then-k-len-clause-value : goal.returns-then-k-len-clause-value
returns-then-k-len-clause-value c =
    let k = c.ones.k in
    elim c.then-k-len.branch [
      | then-k-len-via-then-k-len w ↦
          let none = drop_all k (values_of c.args.self.now) (omega (arith, length-map c.args.self.now (λ p. p.0), c.len.ensures.value)) in
          omega (arith, c.ones.invariant.all, ones_end (3 - k) _ none)
      | then-k-len-via-else-k-len+then-unsigned_abs-ne1 w ↦
          let same : to_z w16 (of_z w16 w.level.result) ≡ w.level.result = omega (arith, ints, w.level.type_inv) in
          let other : nat_abs w.level.result ≢ 1 = omega (arith, w.unsigned_abs.ensures.value, ap nat_abs same, w.if-unsigned_abs-ne1.true) in
          let here = ones_at c.args.self.now k w.level.result (omega arith) (omega (arith, c.len.ensures.value, w.if-k-len.false)) w.level.ensures in
          omega (arith, c.ones.invariant.all, rw (ne_eqb (nat_abs w.level.result) 1 other) at here)
    ]

pub ones-preserved : goal.ones-preserved
ones-preserved c =
    let same : to_z w16 (of_z w16 c.level.result) ≡ c.level.result = omega (arith, ints, c.level.type_inv) in
    let one : nat_abs c.level.result ≡ 1 = omega (arith, c.unsigned_abs.ensures.value, ap nat_abs same, c.if-unsigned_abs-ne1.false) in
    let here = ones_at c.args.self.now c.ones.k c.level.result (omega arith) (omega (arith, c.len.ensures.value)) c.level.ensures in
    record { all = omega (arith, c.ones.invariant.all, rw (eq-eqb (nat_abs c.level.result) 1 one) at here); within = omega (arith, c.len.ensures.value) }

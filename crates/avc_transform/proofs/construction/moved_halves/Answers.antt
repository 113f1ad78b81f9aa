use Rattle.avc_transform.proofs.Residuals.{ℕ, ◌+◌, arith, pos, ◌+ℤ◌, clip1, ap, ◌∙◌, in_four}
use Rattle.avc_transform.proofs.construction.moved_halves.Goals as goal

pub returns : goal.returns
returns c f a b d e =
    let m1 = c.move_sixteen.ensures in
    let m2 = c.move_sixteen-2.ensures in
    let m3 = c.move_sixteen-3.ensures in
    let m4 = c.move_sixteen-4.ensures in
    let sum = λ (z : ℕ) (n : ℕ). clip1 (pos n +ℤ f z) in
    in_four _
    (λ i low. m4.before (0 + i) (omega arith) ∙ m3.before (0 + i) (omega arith) ∙ m2.before (0 + i) (omega arith) ∙ m1.here (λ i. f (0 + i)) a i low)
    (λ i low. m4.before (16 + i) (omega arith) ∙ m3.before (16 + i) (omega arith) ∙ m2.here (λ i. f (16 + i)) b i low ∙ ap (sum (16 + i)) (m1.behind (16 + i) (omega arith)))
    (λ i low. m4.before (32 + i) (omega arith) ∙ m3.here (λ i. f (32 + i)) d i low ∙ ap (sum (32 + i)) (m2.behind (32 + i) (omega arith) ∙ m1.behind (32 + i) (omega arith)))
    (λ i low. m4.here (λ i. f (48 + i)) e i low
    ∙ ap (sum (48 + i)) (m3.behind (48 + i) (omega arith) ∙ m2.behind (48 + i) (omega arith) ∙ m1.behind (48 + i) (omega arith)))

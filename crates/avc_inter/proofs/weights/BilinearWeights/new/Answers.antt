use Rattle.avc_inter.proofs.SixRows.{ℕ, ◌≡◌, ◌+◌, ◌-◌, ◌*◌, ◌<◌, arith, ap, sym, ◌∙◌, add-mul}
use Rattle.avc_inter.proofs.weights.BilinearWeights.new.Goals as goal

all_shares : (r d : ℕ) → r < 8 → d < 8 → (8 - r) * (8 - d) + r * (8 - d) + (8 - r) * d + r * d ≡ 64
all_shares r d p q =
    let eight : 8 - r + r ≡ 8 = omega arith in
    let upper : (8 - r) * (8 - d) + r * (8 - d) ≡ 8 * (8 - d) = sym (add-mul (8 - r) r (8 - d)) ∙ ap (λ n. n * (8 - d)) eight in
    let lower : (8 - r) * d + r * d ≡ 8 * d = sym (add-mul (8 - r) r d) ∙ ap (λ n. n * d) eight in
    omega (arith, upper, lower)

pub invariant_of-result : goal.invariant_of-result
invariant_of-result c = record { whole = all_shares c.args.beyond.right c.args.beyond.down (omega arith) (omega arith) }

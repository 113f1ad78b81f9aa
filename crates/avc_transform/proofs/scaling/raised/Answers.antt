use Rattle.avc_transform.proofs.Residuals.{ℕ, ◌*◌, ◌≤◌, ◌<◌, ◌^◌, arith, slice_index, mul-lt, below_four}
use Rattle.avc_transform.proofs.scaling.raised.Goals as goal

small : (s p : ℕ) → s < 30 → p ≤ 2 ^ 8 → s * p < 2 ^ 13
small s p h k = omega (arith, mul-lt s p 30 257 h (omega arith))

pub returns-clause-small : goal.returns-clause-small
returns-clause-small c =
    let at = λ (k : ℕ) (h : k < 4). small (slice_index c.args.scales k) c.args.power (c.requires.scales k h) c.requires.power in
    below_four _ (at 0 (omega arith)) (at 1 (omega arith)) (at 2 (omega arith)) (at 3 (omega arith))

-- Each of four.
use Rattle.std.proofs.Common.{ℕ, zero, suc, ◌<◌, arith}
use Rattle.std.specs.Prelude.{[], ◌∷◌, slice_index, slice_index_or}

pub each_number : (P : ℕ → ℕ → Type 0) (a b c d : ℕ) → P 0 a → P 1 b → P 2 c → P 3 d → (k : ℕ) → k < 4 → P k (slice_index (a ∷ b ∷ c ∷ d ∷ []) k)
each_number P a b c d pa pb pc pd zero h = pa
each_number P a b c d pa pb pc pd (suc zero) h = pb
each_number P a b c d pa pb pc pd (suc (suc zero)) h = pc
each_number P a b c d pa pb pc pd (suc (suc (suc zero))) h = pd
each_number P a b c d pa pb pc pd (suc (suc (suc (suc k)))) h = absurd (omega (arith, h))

pub each : {A : Type 0} (P : ℕ → A → Type 0) (none a b c d : A) → P 0 a → P 1 b → P 2 c → P 3 d → (k : ℕ) → k < 4 → P k (slice_index_or (a ∷ b ∷ c ∷ d ∷ []) k none)
each P none a b c d pa pb pc pd zero h = pa
each P none a b c d pa pb pc pd (suc zero) h = pb
each P none a b c d pa pb pc pd (suc (suc zero)) h = pc
each P none a b c d pa pb pc pd (suc (suc (suc zero))) h = pd
each P none a b c d pa pb pc pd (suc (suc (suc (suc k)))) h = absurd (omega (arith, h))

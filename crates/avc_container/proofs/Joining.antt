-- Two texts, one behind the other.
use Rattle.std.proofs.Common.{◌≡◌, ℕ, List, ◌++◌, ◌∙◌, ap, append_assoc}

pub joined : (new mid old a b : List ℕ) → new ≡ mid ++ b → mid ≡ old ++ a → new ≡ old ++ (a ++ b)
joined new mid old a b second first = second ∙ ap (λ s. s ++ b) first ∙ append_assoc old a b

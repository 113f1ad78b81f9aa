-- Objects of JSON are made member by member.
use Rattle.std.proofs.Common.{◌≡◌, ℕ, List, ap, ◌∙◌}
use Rattle.serde_json.specs.Data.{Data, Members, put}

-- one member more
pub with_one : (k : List ℕ) (d d' : Data) (old old' new : Members) → new ≡ put k d old → d ≡ d' → old ≡ old' → new ≡ put k d' old'
with_one k d d' old old' new is value before = is ∙ ap (λ x. put k x old) value ∙ ap (put k d') before

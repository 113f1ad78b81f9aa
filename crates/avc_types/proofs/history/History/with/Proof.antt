-- `with` makes the empty struct, with the items that its clause names. Assumes `Logic`.
use Rattle.std.proofs.Common.{[], ◌∷◌, ◌++◌}
use Rattle.avc_types.proofs.Making.{one_item, made_with}
use Rattle.avc_types.proofs.history.History.with.Statement.{statement}
use Rattle.avc_types.proofs.history.History.with.Code.{unfolded}

pub with_spec : {M : Type 1} → statement M
with_spec 𝓤 𝓛 𝓜 𝓡 wired A LA =
    made_with A 𝓛 𝓜 𝓡 (one_item A _) (λ κs items item. items ++ item.now ∷ []) _ (unfolded 𝓤 𝓛.H 𝓜 𝓡 wired (A, tt))

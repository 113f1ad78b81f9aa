-- `with_newest` makes the empty struct, with the items that its clause names. Assumes `Logic`.
use Rattle.std.proofs.Common.{◌∷◌}
use Rattle.avc_types.proofs.Making.{one_item, made_with}
use Rattle.avc_types.proofs.history.History.with_newest.Statement.{statement}
use Rattle.avc_types.proofs.history.History.with_newest.Code.{unfolded}

pub with_newest_spec : {M : Type 1} → statement M
with_newest_spec 𝓤 𝓛 𝓜 𝓡 wired A LA =
    made_with A 𝓛 𝓜 𝓡 (one_item A _) (λ κs items item. item.now ∷ items) _ (unfolded 𝓤 𝓛.H 𝓜 𝓡 wired (A, tt))

-- `with_all` makes the empty struct, with the items that its clause names. Assumes `Logic`.
use Rattle.std.proofs.Common.{◌++◌}
use Rattle.avc_types.proofs.Making.{more_items, made_with}
use Rattle.avc_types.proofs.history.History.with_all.Statement.{statement}
use Rattle.avc_types.proofs.history.History.with_all.Code.{unfolded}

pub with_all_spec : {M : Type 1} → statement M
with_all_spec 𝓤 𝓛 𝓜 𝓡 wired A LA =
    made_with A 𝓛 𝓜 𝓡 (more_items A _) (λ κs items more. items ++ more.now) _ (unfolded 𝓤 𝓛.H 𝓜 𝓡 wired (A, tt))

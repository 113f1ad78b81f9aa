-- `new` makes the empty struct, with the items that its clause names. Assumes `Logic`.
use Rattle.avc_types.proofs.Making.{made}
use Rattle.avc_types.proofs.history.History.new.Statement.{statement}
use Rattle.avc_types.proofs.history.History.new.Code.{unfolded}

pub new_spec : {M : Type 1} → statement M
new_spec 𝓤 𝓛 𝓜 𝓡 wired A LA = made A 𝓛 𝓜 𝓡 (unfolded 𝓤 𝓛.H 𝓜 𝓡 wired (A, tt))

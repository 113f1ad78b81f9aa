use Rattle.avc_params.proofs.ParameterSets.{◌≡◌, ℕ, ◌+◌, ◌-◌, vec_len, stored}
use Rattle.avc_params.proofs.stored.make_room.Given as goal

abbrev pub invariant-loop-sets : goal.invariant-loop-sets
invariant-loop-sets g l = (k : ℕ) → stored l.sets.items k ≡ stored l.initial.sets.items k

abbrev pub decreases-loop-sets : goal.decreases-loop-sets
decreases-loop-sets g l = l.id + 1 - vec_len l.sets

-- What a parameter table keeps: by id, the sets in force after all units so far.
use Rattle.std.specs.Prelude.{◌≡◌, ℕ, List, Option, None, slice_index_or}
use Rattle.avc_params.specs.Tables.{pps_in_force, sps_in_force}
use Rattle.avc_params.specs.declared.pps.Pps.{Pps}
use Rattle.avc_params.specs.declared.set_unit.SetUnit.{SetUnit}
use Rattle.avc_params.specs.declared.sps.Sps.{Sps}

-- the set at an id, and none past the end
abbrev pub stored : {A : Type 0} → List (Option A) → ℕ → Option A
stored sets id = slice_index_or sets id None

-- The two tables say of each id which set is in force.
pub record Keeps (units : List SetUnit) (sps : List (Option Sps))
    (pps : List (Option Pps)) : Type 0 where
  pub sequence : (id : ℕ) → stored sps id ≡ sps_in_force units id
  pub picture : (id : ℕ) → stored pps id ≡ pps_in_force units id

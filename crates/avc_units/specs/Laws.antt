-- Parameter sets that are sent again (7.4.1.2.1).
use Rattle.std.specs.Prelude.{◌≡◌, ◌≤◌, ℕ, false, List, ◌++◌, length, Some, None, is_some}
use Rattle.std.specs.Prelude.{slice_get, IsTrue}
use Rattle.std.specs.List.{All}
use Rattle.avc_annexb.specs.declared.unit.Unit.{Unit}
use Rattle.avc_params.specs.Tables.{Sets, sets_after}
use Rattle.avc_params.specs.declared.set_unit.SetUnit.{SetUnit}
use Rattle.avc_units.specs.Grouping.{ends_picture, step, tables}
use Rattle.avc_units.specs.Resuming.{sets_in_force}
use Rattle.avc_units.specs.declared.step.Next.TheVariants.{Nothing}

-- The parameter sets in force after some units are in force after those units alone that brought
-- them (7.4.1.2.1).
abbrev pub SetsAreInForceAgain : Type 0
SetsAreInForceAgain = (before : List Unit) → tables (sets_in_force before) ≡ tables before

-- It is a unit of the stream, is not too long, and is taken without a fault where decoding waits.
pub record IsSetOf (before : List Unit) (u : Unit) : Type 0 where
  pub place : ℕ
  pub is_there : slice_get before place ≡ Some u
  pub short : IsTrue (is_some u.body)
  pub no_fault : (sets : Sets) → step sets false None u ≡ ends_picture Nothing

-- The units that brought the parameter sets in force are such units.
abbrev pub SetsInForceAreUnits : Type 0
SetsInForceAreUnits = (before : List Unit) → All (IsSetOf before) (sets_in_force before)

-- They are no more than the units of the stream.
abbrev pub SetsInForceAreFew : Type 0
SetsInForceAreFew = (before : List Unit) → length (sets_in_force before) ≤ length before

-- What more units bring into force does not depend on how the sets before came into force.
abbrev pub SetsComeAlike : Type 0
SetsComeAlike =
    (these those more : List SetUnit) →
    sets_after these ≡ sets_after those → sets_after (these ++ more) ≡ sets_after (those ++ more)

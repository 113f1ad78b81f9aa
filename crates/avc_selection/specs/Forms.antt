-- The forms in which macroblocks are told, a line for each.
use Rattle.std.specs.Prelude.{ℕ, List}
use Rattle.avc_types.specs.declared.fault.Fault.{Fault}
use Rattle.avc_types.specs.Macroblock.{Mb}
use Rattle.avc_selection.specs.declared.derived.Derived.{Derived}
use Rattle.avc_selection.specs.declared.place.MacroblockPlace.{MacroblockPlace}

-- What is told in a form.
pub record Form : Type 0 where
  -- of a macroblock at this place, for which this follows from its neighbours
  pub of_macroblock : MacroblockPlace → Mb → Derived → List ℕ
  -- of a fault in a slice, at the place where its next macroblock would stand
  pub of_fault : MacroblockPlace → Fault → List ℕ
  -- of a unit that should bring a slice, and is refused
  pub of_refusal : (unit : ℕ) → Fault → List ℕ

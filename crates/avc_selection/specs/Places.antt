-- Where macroblocks stand.
use Rattle.std.specs.Prelude.{ℕ, ◌+◌}
use Rattle.avc_selection.specs.declared.place.MacroblockPlace.{MacroblockPlace}

-- the place of the macroblock that comes so many behind this one in its slice
abbrev pub behind : MacroblockPlace → ℕ → MacroblockPlace
behind place count = record {
  unit = place.unit;
  slice = place.slice;
  address = place.address + count;
}

-- Showing headers while a stream comes: these words are the crate's own.
use Rattle.std.specs.Prelude.{◌≡◌, ℕ, List, [], ◌∷◌, ◌++◌}
use Rattle.avc_annexb.specs.Units.{units}
use Rattle.avc_annexb.specs.SplitterState.{SplitterState}
use Rattle.avc_annexb.specs.declared.unit.Unit.{Unit}
use Rattle.avc_params.specs.Tables.{Sets, sets_after}
use Rattle.avc_params.specs.declared.set_unit.SetUnit.{SetUnit}
use Rattle.avc_units.specs.Grouping.{set_units}
use Rattle.avc_tools.specs.Streams.{IsDrained}

-- the lines of these units, where these parameter sets came before
abbrev pub header_lines_under : (form : Sets → Unit → List ℕ) → List SetUnit → List Unit → List ℕ
header_lines_under form sets [] = []
header_lines_under form sets (u ∷ us) =
    form (sets_after sets) u ++ header_lines_under form (sets ++ set_units (u ∷ [])) us

-- All units whose end has been seen were taken, and these are the sets that they brought.
pub record AreShown (max : ℕ) (s : SplitterState) (sets : List SetUnit) : Type 0 where
  pub drained : IsDrained max s
  pub sets_are : sets ≡ set_units (units max s.bytes s.ended)

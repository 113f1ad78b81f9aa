-- What `info` writes.
use Rattle.std.specs.Prelude.{◌≡◌, ℕ, Bool, if◌then◌else◌, List, [], length}
use Rattle.avc_annexb.specs.SplitterState.{SplitterState}
use Rattle.avc_annexb.specs.Units.{saturated, units}
use Rattle.avc_params.specs.declared.set_unit.SetUnit.{SetUnit}
use Rattle.avc_units.specs.Grouping.{set_units}
use Rattle.avc_tools.specs.Streams.{IsDrained, max_unit}
use Rattle.avc_info.specs.Facts.{no_facts}
use Rattle.avc_info.specs.Noting.{facts_after, facts_of}
use Rattle.avc_info.specs.declared.stream_facts.StreamFacts.{StreamFacts}

-- the facts of the units whose end has been seen, where no unit is longer than memory
abbrev pub facts_so_far : List ℕ → (ended : Bool) → StreamFacts
facts_so_far bytes ended = facts_after [] (units max_unit bytes ended) no_facts

-- the facts of the whole stream, and its length, in a form, once it has ended
abbrev pub info_so_far : (form : StreamFacts → (bytes : ℕ) → List ℕ)
    → List ℕ → (ended : Bool) → List ℕ
info_so_far form bytes ended =
    if ended then form (facts_of bytes) (saturated (length bytes)) else []

-- ---- for private clauses

-- All units whose end has been seen were taken, and these are the sets that they brought and the
-- facts; so many bytes came.
pub record AreNoted (max : ℕ) (s : SplitterState) (ended : Bool) (sets : List SetUnit)
    (facts : StreamFacts) (bytes : ℕ) : Type 0 where
  pub drained : IsDrained max s
  pub end_is : ended ≡ s.ended
  pub sets_are : sets ≡ set_units (units max s.bytes s.ended)
  pub facts_are : facts ≡ facts_after [] (units max s.bytes s.ended) no_facts
  pub bytes_are : bytes ≡ saturated (length s.bytes)

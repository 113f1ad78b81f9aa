-- What the sequence parameter set of a stream's first slice says, looked for while the stream
-- comes.
use Rattle.std.specs.Prelude.{◌≡◌, ℕ, Bool, List, [], ◌∷◌, ◌++◌, Option, Some, None}
use Rattle.std.specs.Option.{option_map}
use Rattle.avc_annexb.specs.SplitterState.{SplitterState}
use Rattle.avc_annexb.specs.Units.{units}
use Rattle.avc_annexb.specs.declared.unit.Unit.{Unit}
use Rattle.avc_params.specs.Tables.{Sets, sets_after}
use Rattle.avc_params.specs.declared.set_unit.SetUnit.{SetUnit}
use Rattle.avc_units.specs.Bringing.{brought, sps_under}
use Rattle.avc_units.specs.Grouping.{set_units}
use Rattle.avc_units.specs.declared.header_reader.Brought.{Brought}
use Rattle.avc_units.specs.declared.header_reader.Brought.TheVariants.{Slice}
use Rattle.avc_tools.specs.Streams.{IsDrained, max_unit}
use Rattle.avc_sequence.specs.Sequences.{said_by}
use Rattle.avc_sequence.specs.declared.sequence_facts.SequenceFacts.{SequenceFacts}

-- the first of two that is there
abbrev pub first_of : {A : Type 0} → Option A → Option A → Option A
first_of (Some a) b = Some a
first_of None b = b

-- with a unit that brings this: a slice, whose header was read under these sets, says what its set
-- says
abbrev pub said_with : Sets → Brought → (said : Option SequenceFacts) → Option SequenceFacts
said_with sets (Slice header) said = first_of said (option_map said_by (sps_under sets header))
said_with sets _ said = said

-- with these units, where these parameter sets came before
abbrev pub said_after : List SetUnit → List Unit → (said : Option SequenceFacts) →
    Option SequenceFacts
said_after sets [] said = said
said_after sets (u ∷ us) said =
    said_after (sets ++ set_units (u ∷ [])) us
    (said_with (sets_after sets) (brought (sets_after sets) u) said)

-- what the set of the first slice says whose end has been seen, where no unit is longer than memory
abbrev pub first_sequence : List ℕ → (ended : Bool) → Option SequenceFacts
first_sequence bytes ended = said_after [] (units max_unit bytes ended) None

-- ---- for private clauses

-- All units whose end has been seen were taken, and these are the sets that they brought, and what
-- is said.
pub record AreTaken (max : ℕ) (s : SplitterState) (sets : List SetUnit)
    (said : Option SequenceFacts) : Type 0 where
  pub drained : IsDrained max s
  pub sets_are : sets ≡ set_units (units max s.bytes s.ended)
  pub said_is : said ≡ said_after [] (units max s.bytes s.ended) None

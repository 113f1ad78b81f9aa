-- What a stream's units say of it, one after another.
use Rattle.std.specs.Prelude.{ℕ, nat_lt, true, if◌then◌else◌, List, [], ◌∷◌, ◌++◌, length}
use Rattle.std.specs.Prelude.{slice_index, Option, Some, None, Result, Ok, Err, option_and_then}
use Rattle.avc_annexb.specs.Units.{units}
use Rattle.avc_annexb.specs.declared.unit.Unit.{Unit}
use Rattle.avc_params.specs.Tables.{Sets, sets_after}
use Rattle.avc_params.specs.declared.set_unit.SetFault.{SetFault}
use Rattle.avc_params.specs.declared.set_unit.SetUnit.{SetUnit}
use Rattle.avc_units.specs.Bringing.{brought}
use Rattle.avc_units.specs.Grouping.{rbsp_of, set_units}
use Rattle.avc_units.specs.declared.header_reader.Brought.{Brought}
use Rattle.avc_units.specs.declared.header_reader.Brought.TheVariants.{Nothing, Set, Slice, Refused}
use Rattle.avc_units.specs.declared.set_reading.ParameterSet.{ParameterSet}
use Rattle.avc_units.specs.declared.set_reading.ParameterSet.TheVariants.{OfSequence, OfPicture}
use Rattle.avc_info.specs.Facts.{after_refusal, after_slice, no_facts, with_set}
use Rattle.avc_info.specs.RefusedSet.{size_in}
use Rattle.avc_sequence.specs.Sequences.{said_by}
use Rattle.avc_sequence.specs.declared.sequence_facts.SequenceFacts.{SequenceFacts}
use Rattle.avc_info.specs.declared.stream_facts.SetHead.{SetHead}
use Rattle.avc_info.specs.declared.stream_facts.StreamFacts.{StreamFacts}

-- a parameter set that was read, or refused
abbrev pub after_read : {A : Type 0} → (unit : ℕ) → Result A SetFault → StreamFacts → StreamFacts
after_read unit (Ok set) f = f
after_read unit (Err refused) f = after_refusal unit refused.fault f

-- of either kind
abbrev pub after_set : (unit : ℕ) → ParameterSet → StreamFacts → StreamFacts
after_set unit (OfSequence read) f = after_read unit read f
after_set unit (OfPicture read) f = after_read unit read f

-- a unit that brings this
abbrev pub after_brought : Sets → (unit : ℕ) → Brought → StreamFacts → StreamFacts
after_brought sets unit Nothing f = f
after_brought sets unit (Set set) f = after_set unit set f
after_brought sets unit (Slice header) f = after_slice sets header f
after_brought sets unit (Refused fault) f = after_refusal unit fault f

-- what a sequence parameter set says that is not refused
abbrev pub said_in : Brought → Option SequenceFacts
said_in (Set (OfSequence (Ok s))) = Some (said_by s)
said_in _ = None

-- profile_idc and level_idc, between which are flags, and the size (7.3.2.1.1)
abbrev pub set_head : (rbsp : List ℕ) → Option SetHead
set_head rbsp =
    if nat_lt (length rbsp) 3 then None
    else Some (record {
      profile_idc = slice_index rbsp 0;
      level_idc = slice_index rbsp 2;
      coded = size_in rbsp;
    })

-- what a sequence parameter set begins with that is refused
abbrev pub refused_head : Unit → Brought → Option SetHead
refused_head u (Set (OfSequence (Err refused))) = option_and_then set_head (rbsp_of u)
refused_head u _ = None

-- a unit, under the parameter sets in force before it: what is refused is what `headers` tells as
-- refused
abbrev pub after_unit : Sets → Unit → StreamFacts → StreamFacts
after_unit sets u f =
    with_set (said_in (brought sets u)) (refused_head u (brought sets u))
    (after_brought sets u.index (brought sets u) f)

-- these units, where these parameter sets came before
abbrev pub facts_after : List SetUnit → List Unit → StreamFacts → StreamFacts
facts_after sets [] f = f
facts_after sets (u ∷ us) f =
    facts_after (sets ++ set_units (u ∷ [])) us (after_unit (sets_after sets) u f)

-- all units of a stream
abbrev pub facts_of : List ℕ → StreamFacts
facts_of bytes = facts_after [] (units (length bytes) bytes true) no_facts

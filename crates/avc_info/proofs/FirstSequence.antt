-- What a stream's facts say of its sequence, unit by unit.
use Rattle.std.proofs.Common.{◌≡◌, ℕ, List, [], ◌∷◌, ◌++◌, Result, Ok, Err, ap, ◌∙◌, refl}
use Rattle.avc_annexb.specs.Units.{units}
use Rattle.avc_annexb.specs.declared.unit.Unit.{Unit}
use Rattle.avc_params.specs.Tables.{Sets, sets_after}
use Rattle.avc_params.specs.declared.set_unit.SetFault.{SetFault}
use Rattle.avc_params.specs.declared.set_unit.SetUnit.{SetUnit}
use Rattle.avc_units.specs.Bringing.{brought}
use Rattle.avc_units.specs.Grouping.{set_units}
use Rattle.avc_units.specs.declared.header_reader.Brought.{Brought}
use Rattle.avc_units.specs.declared.header_reader.Brought.TheVariants.{Nothing, Set, Slice, Refused}
use Rattle.avc_units.specs.declared.set_reading.ParameterSet.{ParameterSet}
use Rattle.avc_units.specs.declared.set_reading.ParameterSet.TheVariants.{OfSequence, OfPicture}
use Rattle.avc_tools.specs.Streams.{max_unit}
use Rattle.avc_sequence.specs.Finding.{said_after, said_with}
use Rattle.avc_info.specs.Facts.{no_facts}
use Rattle.avc_info.specs.Laws.{SequenceIsFirst}
use Rattle.avc_info.specs.Noting.{after_brought, after_read, after_set, after_unit, facts_after}
use Rattle.avc_info.specs.declared.stream_facts.StreamFacts.{StreamFacts}

by_read : {A : Type 0} (unit : ℕ) (read : Result A SetFault) (f : StreamFacts) → (after_read unit read f).sequence ≡ f.sequence
by_read unit (Ok set) f = refl
by_read unit (Err refused) f = refl

by_set : (unit : ℕ) (set : ParameterSet) (f : StreamFacts) → (after_set unit set f).sequence ≡ f.sequence
by_set unit (OfSequence read) f = by_read unit read f
by_set unit (OfPicture read) f = by_read unit read f

by_brought : (sets : Sets) (unit : ℕ) (b : Brought) (f : StreamFacts) → (after_brought sets unit b f).sequence ≡ said_with sets b f.sequence
by_brought sets unit Nothing f = refl
by_brought sets unit (Set set) f = by_set unit set f
by_brought sets unit (Slice header) f = refl
by_brought sets unit (Refused fault) f = refl

said_by_units : (sets : List SetUnit) (us : List Unit) (f : StreamFacts) → (facts_after sets us f).sequence ≡ said_after sets us f.sequence
said_by_units sets [] f = refl
said_by_units sets (u ∷ us) f =
    let later = sets ++ set_units (u ∷ []) in
    said_by_units later us (after_unit (sets_after sets) u f)
    ∙ ap (said_after later us) (by_brought (sets_after sets) u.index (brought (sets_after sets) u) f)

pub sequence_is_first : SequenceIsFirst
sequence_is_first bytes ended = said_by_units [] (units max_unit bytes ended) no_facts

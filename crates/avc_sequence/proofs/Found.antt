-- Units are taken one after the other, and what they say of the sequence.
pub use Rattle.std.proofs.Common.{◌≡◌, ℕ, List, [], ◌∷◌, ◌++◌, Option, None, ap, sym, ◌∙◌, refl, append-nil}
pub use Rattle.avc_annexb.specs.SplitterState.{SplitterState, units_waiting}
pub use Rattle.avc_annexb.specs.Units.{units}
pub use Rattle.avc_annexb.specs.declared.unit.Unit.{Unit}
pub use Rattle.avc_params.specs.Tables.{sets_after}
pub use Rattle.avc_params.specs.declared.set_unit.SetUnit.{SetUnit}
pub use Rattle.avc_units.proofs.SetUnits.{set_units_more, sets_then}
pub use Rattle.avc_units.specs.Bringing.{brought}
pub use Rattle.avc_units.specs.Grouping.{set_units}
pub use Rattle.avc_tools.proofs.Taking.{IsDraining, all_taken, draining_begun, one_more, sets_again}
pub use Rattle.avc_tools.proofs.Taking.Stages.{drained, left_by_feed}
pub use Rattle.avc_tools.specs.Streams.{AreLeft, after_units_left, max_unit, units_left}
pub use Rattle.avc_sequence.specs.Finding.{said_after, said_with, AreTaken}
pub use Rattle.avc_sequence.specs.declared.sequence_facts.SequenceFacts.{SequenceFacts}

-- with one unit
abbrev pub with_unit : List SetUnit → Unit → Option SequenceFacts → Option SequenceFacts
with_unit sets u said = said_with (sets_after sets) (brought (sets_after sets) u) said

said-append : (sets : List SetUnit) (us vs : List Unit) (said : Option SequenceFacts) → said_after sets (us ++ vs) said ≡ said_after (sets ++ set_units us) vs (said_after sets us said)
said-append sets [] vs said = ap (λ l. said_after l vs said) (sym (append-nil sets))
said-append sets (u ∷ us) vs said =
    let first = with_unit sets u said in
    let later = said_after (sets ++ set_units (u ∷ [])) us first in
    said-append (sets ++ set_units (u ∷ [])) us vs first
    ∙ ap (λ l. said_after l vs later) (sets_then sets u us)

-- These units were taken, with the sets that they brought.
pub record IsNoted (before now : List SetUnit) (first said : Option SequenceFacts) (done : List Unit) : Type 0 where
  pub sets : now ≡ before ++ set_units done
  pub said_is : said ≡ said_after before done first

pub noted_none : (before : List SetUnit) (first : Option SequenceFacts) → IsNoted before before first first []
noted_none before first = record { sets = sym (append-nil before); said_is = refl }

pub noted_more : (before old new : List SetUnit) (first said more : Option SequenceFacts) (u : Unit) → new ≡ old ++ set_units (u ∷ []) → more ≡ with_unit old u said
    → (done : List Unit) → IsNoted before old first said done → IsNoted before new first more (done ++ u ∷ [])
noted_more before old new first said more u put added done h = record {
  sets = set_units_more before old new u done put h.sets;
  said_is =
      added ∙ ap (λ x. with_unit old u x) h.said_is
      ∙ ap (λ ss. with_unit ss u (said_after before done first)) h.sets
      ∙ sym (said-append before done (u ∷ []) first);
}

-- once more has come
pub taken_again : (max : ℕ) (old mid new : SplitterState) (sets now : List SetUnit) (said more : Option SequenceFacts) → AreTaken max old sets said → AreLeft max old mid
    → new ≡ after_units_left max mid → now ≡ sets ++ set_units (units_left max mid) → more ≡ said_after sets (units_left max mid) said → AreTaken max new now more
taken_again max old mid new sets now said more h left is put added = record {
  drained = drained max old mid new left is;
  sets_are = sets_again max old mid new sets now h.sets_are left is put;
  said_is =
      added ∙ ap (λ x. said_after sets (units_left max mid) x) h.said_is
      ∙ ap (λ ss. said_after ss (units_left max mid) (said_after [] (units max old.bytes old.ended) None)) h.sets_are
      ∙ sym (said-append [] (units max old.bytes old.ended) (units_left max mid) None)
      ∙ ap (λ us. said_after [] us None) (sym left.all)
      ∙ ap (λ (s : SplitterState). said_after [] (units max s.bytes s.ended) None) (sym is);
}

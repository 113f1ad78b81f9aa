-- Units are taken one after the other, and objects of JSON are made member by member.
pub mod Common
unfoldable pub use Common.*

-- ---- objects of JSON are made member by member

-- one member more
pub with_one : (k : List ℕ) (d d' : Data) (old old' new : Members) → new ≡ put k d old → d ≡ d' → old ≡ old' → new ≡ put k d' old'
with_one k d d' old old' new is value before = is ∙ ap (λ x. put k x old) value ∙ ap (put k d') before

-- ---- past the end of a stream nothing comes

pub stays_by_piece : (s : StreamSoFar) (piece : List ℕ) → s.ended ≡ true → s ≡ after_piece s piece
stays_by_piece s piece e = ap (λ x. if x then s else record s { bytes = s.bytes ++ piece }) (sym e)

pub stays_by_end : (s : StreamSoFar) → s.ended ≡ true → s ≡ after_end s
stays_by_end s e = ap (λ x. record s { ended = x }) e

-- ---- units are taken one after the other

facts-append : (sets : List SetUnit) (us vs : List Unit) (f : StreamFacts) → facts_after sets (us ++ vs) f ≡ facts_after (sets ++ set_units us) vs (facts_after sets us f)
facts-append sets [] vs f = ap (λ l. facts_after l vs f) (sym (append-nil sets))
facts-append sets (u ∷ us) vs f =
    let first = after_unit (sets_after sets) u f in
    let later = facts_after (sets ++ set_units (u ∷ [])) us first in
    facts-append (sets ++ set_units (u ∷ [])) us vs first
    ∙ ap (λ l. facts_after l vs later) (sets_then sets u us)

-- These units were taken, with the sets that they brought.
pub record IsNoted (before now : List SetUnit) (first facts : StreamFacts) (done : List Unit) : Type 0 where
  pub sets : now ≡ before ++ set_units done
  pub facts_are : facts ≡ facts_after before done first

pub noted_none : (before : List SetUnit) (first : StreamFacts) → IsNoted before before first first []
noted_none before first = record { sets = sym (append-nil before); facts_are = refl }

pub noted_more : (before old new : List SetUnit) (first f more : StreamFacts) (u : Unit) → new ≡ old ++ set_units (u ∷ []) → more ≡ after_unit (sets_after old) u f
    → (done : List Unit) → IsNoted before old first f done → IsNoted before new first more (done ++ u ∷ [])
noted_more before old new first f more u put added done h = record {
  sets = set_units_more before old new u done put h.sets;
  facts_are =
      added ∙ ap (λ x. after_unit (sets_after old) u x) h.facts_are
      ∙ ap (λ ss. after_unit (sets_after ss) u (facts_after before done first)) h.sets
      ∙ sym (facts-append before done (u ∷ []) first);
}

-- once more has come
pub noted_again : (max : ℕ) (old mid new : SplitterState) (ended ended' : Bool) (sets now : List SetUnit) (f more : StreamFacts) (n n' : ℕ) → AreNoted max old ended sets f n → AreLeft max old mid
    → new ≡ after_units_left max mid → now ≡ sets ++ set_units (units_left max mid) → more ≡ facts_after sets (units_left max mid) f → ended' ≡ mid.ended
    → n' ≡ saturated (length mid.bytes) → AreNoted max new ended' now more n'
noted_again max old mid new ended ended' sets now f more n n' h left is put added e counted = record {
  drained = drained max old mid new left is;
  end_is = e ∙ ap (λ (s : SplitterState). s.ended) (sym is);
  sets_are = sets_again max old mid new sets now h.sets_are left is put;
  facts_are =
      added ∙ ap (λ x. facts_after sets (units_left max mid) x) h.facts_are
      ∙ ap (λ ss. facts_after ss (units_left max mid) (facts_after [] (units max old.bytes old.ended) no_facts)) h.sets_are
      ∙ sym (facts-append [] (units max old.bytes old.ended) (units_left max mid) no_facts)
      ∙ ap (λ us. facts_after [] us no_facts) (sym left.all)
      ∙ ap (λ (s : SplitterState). facts_after [] (units max s.bytes s.ended) no_facts) (sym is);
  bytes_are = counted ∙ ap (λ (s : SplitterState). saturated (length s.bytes)) (sym is);
}

-- the bytes of a piece more
counted_more : (a b n m : ℕ) → n ≡ saturated a → m ≡ saturated (n + b) → m ≡ saturated (a + b)
counted_more a b n m is more = omega (arith, is, more)

pub counted_piece : (old mid : SplitterState) (piece : List ℕ) (n m : ℕ) → n ≡ saturated (length old.bytes) → mid ≡ after_feed old piece → old.ended ≡ false
    → m ≡ saturated (n + length piece) → m ≡ saturated (length mid.bytes)
counted_piece old mid piece n m is fed open_before more =
    let joined : mid.bytes ≡ old.bytes ++ piece =
    ap (λ (s : SplitterState). s.bytes) fed ∙ ap (λ (e : Bool). (if e then old else record old { bytes = old.bytes ++ piece }).bytes) open_before in
    counted_more (length old.bytes) (length piece) n m is more
    ∙ ap saturated (sym (length-append old.bytes piece))
    ∙ ap (λ bytes. saturated (length bytes)) (sym joined)

-- at the end
pub told_at_end : (form : StreamFacts → ℕ → List ℕ) (max : ℕ) (s : SplitterState) (ended : Bool) (sets : List SetUnit) (f : StreamFacts) (n : ℕ) (before : StreamSoFar) (added : List ℕ)
    → AreNoted max s ended sets f n → ended ≡ true → before.ended ≡ false → added ≡ form f n → length s.bytes ≤ max
    → info_so_far form s.bytes s.ended ≡ info_so_far form before.bytes before.ended ++ added
told_at_end form max s ended sets f n before added h is_ended open_before text short =
    let all : s.ended ≡ true = sym h.end_is ∙ is_ended in
    ap (λ e. info_so_far form s.bytes e) all
    ∙ ap (λ us. form (facts_after [] us no_facts) (saturated (length s.bytes))) (sym (whole_units max s.bytes true short))
    ∙ ap (λ e. form (facts_after [] (units max s.bytes e) no_facts) (saturated (length s.bytes))) (sym all)
    ∙ ap (λ x. form x (saturated (length s.bytes))) (sym h.facts_are)
    ∙ ap (form f) (sym h.bytes_are)
    ∙ sym text
    ∙ ap (λ e. info_so_far form before.bytes e ++ added) (sym open_before)

-- before it
pub nothing_yet : (form : StreamFacts → ℕ → List ℕ) (s : SplitterState) (before : StreamSoFar) (added : List ℕ) → s.ended ≡ false → before.ended ≡ false → added ≡ []
    → info_so_far form s.bytes s.ended ≡ info_so_far form before.bytes before.ended ++ added
nothing_yet form s before added now_open open_before none =
    ap (λ e. info_so_far form s.bytes e) now_open
    ∙ sym none
    ∙ ap (λ e. info_so_far form before.bytes e ++ added) (sym open_before)

-- ---- the end of what came

pub open_still : (max : ℕ) (old mid new : SplitterState) (piece : List ℕ) → old.ended ≡ false → mid ≡ after_feed old piece → new ≡ after_units_left max mid → new.ended ≡ false
open_still max old mid new piece open_before fed is = ap (λ (s : SplitterState). s.ended) is ∙ sym (feed_keeps_end old mid piece fed) ∙ open_before

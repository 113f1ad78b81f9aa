-- A decoder that is fed the units of a stream.
use Rattle.std.proofs.Common.{◌≡◌, ℕ, ◌+◌, ◌<◌, false, refl, sym, ap, subst, ◌∙◌, arith, append_assoc, append-nil, List, [], ◌∷◌, ◌++◌, length, take}
use Rattle.std.specs.Prelude.{Option, Some, None, slice_get, flat_map}
use Rattle.std.proofs.lemmas.Grind.{flat_map-append}
use Rattle.std.proofs.lemmas.List.{take_more}
use Rattle.std.proofs.lemmas.Option.{get_or_from_slice_get, slice_get_within}
use Rattle.avc_annexb.specs.SplitterState.{SplitterState, next_unit_of, after_next_unit}
use Rattle.avc_annexb.specs.Units.{units}
use Rattle.avc_annexb.specs.Written.{start_code, written}
use Rattle.avc_annexb.specs.declared.unit.Unit.{Unit}
use Rattle.avc_console.specs.Reading.{max_unit}
use Rattle.avc_decoder.specs.Machine.{Machine}
use Rattle.avc_replay.specs.Replaying.{body_of, IsFed, IsFedMore, IsFedTaken, IsMet, Meets}

pub fed_more : (bytes more : List ℕ) (old new : Machine) → IsFed bytes old → IsFedMore old more new → IsFed (bytes ++ more) new
fed_more bytes more old new fed on = record {
  bytes_are = on.bytes_are ∙ ap (λ l. l ++ more) fed.bytes_are;
  open_end = on.ended_is ∙ fed.open_end;
  mode = on.mode ∙ fed.mode;
}

pub fed_both : (x y : List ℕ) (a b c : Machine) → IsFedMore a x b → IsFedMore b y c → IsFedMore a (x ++ y) c
fed_both x y a b c p q = record {
  bytes_are = q.bytes_are ∙ ap (λ l. l ++ y) p.bytes_are ∙ append_assoc a.bytes x y;
  ended_is = q.ended_is ∙ p.ended_is;
  mode = q.mode ∙ p.mode;
}

pub fed_none : (a b : Machine) → b.bytes ≡ a.bytes → b.ended ≡ a.ended → b.output ≡ a.output → IsFedMore a [] b
fed_none a b bytes ended mode = record { bytes_are = bytes ∙ sym (append-nil a.bytes); ended_is = ended; mode = mode }

written_by : (h : ℕ) (b : Option (List ℕ)) → ((start_code ++ (h ∷ [])) ++ body_of b) ++ [] ≡ elim b [ Some body ↦ start_code ++ h ∷ body | None ↦ start_code ++ h ∷ [] ]
written_by h None = refl
written_by h (Some body) = append-nil ((start_code ++ (h ∷ [])) ++ body)

-- a unit that was fed behind a start code
pub unit_fed : (u : Unit) (a b c d e : Machine) → IsFedMore a start_code b → IsFedMore b (u.header ∷ []) c → IsFedMore c (body_of u.body) d → IsFedMore d [] e → IsFedMore a (written u) e
unit_fed u a b c d e p q r s =
    subst (λ l. IsFedMore a l e) (written_by u.header u.body)
    (fed_both ((start_code ++ (u.header ∷ [])) ++ body_of u.body) [] a d e (fed_both (start_code ++ (u.header ∷ [])) (body_of u.body) a c d (fed_both start_code (u.header ∷ []) a b c p q) r) s)

there_of : (s : SplitterState) (u : Unit) → s.failed ≡ false → next_unit_of max_unit s ≡ Some u → slice_get (units max_unit s.bytes s.ended) s.taken ≡ Some u
there_of s u going next = rw going at next

taken_more : (us : List Unit) (n : ℕ) (u : Unit) → slice_get us n ≡ Some u → flat_map written (take (n + 1) us) ≡ flat_map written (take n us) ++ written u
taken_more us n u there =
    let within : n < length us = slice_get_within us n u there in
    ap (λ l. flat_map written l) (take_more us n u within ∙ ap (λ x. take n us ++ x ∷ []) (get_or_from_slice_get us n u u there))
    ∙ flat_map-append written (take n us) (u ∷ []) ∙ ap (λ l. flat_map written (take n us) ++ l) (append-nil (written u))

-- one unit more was taken and fed
pub taken_fed : (s s' : SplitterState) (u : Unit) (o : Option Unit) (m m' : Machine) → IsFedTaken s m → o ≡ next_unit_of max_unit s → s' ≡ after_next_unit s o → o ≡ Some u → IsFedMore m (written u) m' → IsFedTaken s' m'
taken_fed s s' u o m m' fed next after is on =
    let there = there_of s u fed.going (sym next ∙ is) in
    let us = units max_unit s.bytes s.ended in
    let after_is : s' ≡ after_next_unit s (Some u) = after ∙ ap (λ o. after_next_unit s o) is in
    subst (λ t. IsFedTaken t m') (sym after_is) record {
      going = fed.going;
      few = let within : s.taken < length us = slice_get_within us s.taken u there in omega (arith, within);
      fed = subst (λ l. IsFed l m') (sym (taken_more us s.taken u there)) (fed_more (flat_map written (take s.taken us)) (written u) m m' fed.fed on);
    }

-- the unit was met
pub taken_met : (number : ℕ) (s s' : SplitterState) (u : Unit) (o : Option Unit) (m : Machine) → IsFedTaken s m → o ≡ next_unit_of max_unit s → s' ≡ after_next_unit s o → o ≡ Some u → u.index ≡ number → Meets number s' (Some u) m
taken_met number s s' u o m fed next after is number_is =
    let after_is : s' ≡ after_next_unit s (Some u) = after ∙ ap (λ o. after_next_unit s o) is in
    subst (λ t. IsMet number t u m) (sym after_is) record { place = s.taken; there = there_of s u fed.going (sym next ∙ is); number_is = number_is; fed = fed.fed }

-- none waits
pub none_waits : (s s' : SplitterState) (o : Option Unit) (m : Machine) → IsFedTaken s m → s' ≡ after_next_unit s o → o ≡ None → IsFedTaken s' m
none_waits s s' o m fed after is = subst (λ t. IsFedTaken t m) (sym (after ∙ ap (λ o. after_next_unit s o) is)) fed

-- its bytes and its end are as they were
pub same_bytes : (s s' : SplitterState) (o : Option Unit) → s' ≡ after_next_unit s o → (s'.bytes ≡ s.bytes) × (s'.ended ≡ s.ended)
same_bytes s s' None after = (ap (λ t. t.bytes) after, ap (λ t. t.ended) after)
same_bytes s s' (Some u) after = (ap (λ t. t.bytes) after, ap (λ t. t.ended) after)

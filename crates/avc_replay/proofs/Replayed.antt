-- A stream that is decoded again up to a macroblock.
use Rattle.std.proofs.Common.{◌≡◌, ℕ, ◌≤◌, Bool, false, refl, sym, ap, subst, ◌∙◌, arith, append_assoc, List, ◌++◌, length, take, drop}
use Rattle.std.specs.Prelude.{Option, Some, None, flat_map}
use Rattle.std.proofs.Math.Seq.{take-append_seam}
use Rattle.std.proofs.lemmas.List.{take-append-le, length-append}
use Rattle.std.proofs.KnownBytes.{Consumes-nil, Consumes-trans}
use Rattle.avc_annexb.specs.Laws.{UnitsStay}
use Rattle.avc_annexb.specs.SplitterState.{SplitterState, new_splitter}
use Rattle.avc_annexb.specs.Units.{units}
use Rattle.avc_annexb.specs.Written.{start_code, written}
use Rattle.avc_annexb.specs.declared.unit.Unit.{Unit}
use Rattle.avc_console.specs.Reading.{max_unit}
use Rattle.avc_decoder.specs.Machine.{Machine, new_machine}
use Rattle.avc_dpb.specs.declared.output.Output.TheVariants.{Full}
use Rattle.avc_reading.specs.declared.position.MacroblockPosition.{MacroblockPosition}
use Rattle.avc_replay.specs.Replaying.{prefix, CutsUnit, IsCutFrom, IsFed, IsFedTaken, IsMet, IsReplaying, Meets, ReadsOn}
use Rattle.avc_replay.proofs.Fed.{fed_more}

-- the units that were taken stay so
still_taken : UnitsStay → (bytes more : List ℕ) (ended : Bool) (n : ℕ) → n ≤ length (units max_unit bytes false) → take n (units max_unit (bytes ++ more) ended) ≡ take n (units max_unit bytes false)
still_taken stay bytes more ended n few =
    let on = stay max_unit bytes more ended in
    ap (λ l. take n l) on.1 ∙ take-append-le n (units max_unit bytes false) on.0 few

still_few : UnitsStay → (bytes more : List ℕ) (ended : Bool) (n : ℕ) → n ≤ length (units max_unit bytes false) → n ≤ length (units max_unit (bytes ++ more) ended)
still_few stay bytes more ended n few =
    let on = stay max_unit bytes more ended in
    let long = ap length on.1 ∙ length-append (units max_unit bytes false) on.0 in
    omega (arith, few, long)

fed_on : UnitsStay → (s : SplitterState) (m : Machine) (more : List ℕ) (ended : Bool) → IsFedTaken s m → s.ended ≡ false → IsFedTaken (record s { bytes = s.bytes ++ more; ended = ended }) m
fed_on stay s m more ended fed going =
    let few : s.taken ≤ length (units max_unit s.bytes false) = rw going at fed.few in
    record {
      going = fed.going;
      few = still_few stay s.bytes more ended s.taken few;
      fed = subst (λ us. IsFed (flat_map written us) m) (ap (λ e. take s.taken (units max_unit s.bytes e)) going ∙ sym (still_taken stay s.bytes more ended s.taken few)) fed.fed;
    }

-- more was read, and nothing was taken
pub read_more : UnitsStay → (unread left left' : Option (List ℕ)) (s s' : SplitterState) (m : Machine) (ended : Bool) → IsReplaying unread left false s m → ReadsOn left left' s ended s' → IsReplaying unread left' ended s' m
read_more stay unread left left' s s' m ended before on =
    subst (λ t. IsReplaying unread left' ended t m) (sym on.is) record {
      read = record { consumed = Consumes-trans unread left left' s.bytes on.more before.read.consumed on.consumed; whole = on.last };
      ended_is = refl;
      fed = fed_on stay s m on.more ended before.fed before.ended_is;
    }

-- the units that waited were fed
pub fed_all : (unread left : Option (List ℕ)) (ended : Bool) (number : ℕ) (s s' : SplitterState) (m m' : Machine) → IsReplaying unread left ended s m → Meets number s' None m' → s'.bytes ≡ s.bytes → s'.ended ≡ s.ended → IsReplaying unread left ended s' m'
fed_all unread left ended number s s' m m' before meets bytes ended_is = record {
  read = rw (bytes, ended_is) before.read;
  ended_is = ended_is ∙ before.ended_is;
  fed = meets;
}

-- the unit was met and fed as it is cut
pub cut_from : (unread left : Option (List ℕ)) (ended : Bool) (at : MacroblockPosition) (s s' : SplitterState) (m m' m'' : Machine) (unit : Unit) → IsReplaying unread left ended s m → IsMet at.unit s' unit m' → s'.bytes ≡ s.bytes → s'.ended ≡ s.ended
    → CutsUnit at unit m' m'' → IsCutFrom at unread left m''
cut_from unread left ended at s s' m m' m'' unit before met bytes ended_is cut = record {
  bytes = s'.bytes;
  all = s'.ended;
  read = rw (bytes, ended_is) before.read;
  cut = record {
    place = met.place;
    unit = unit;
    body = cut.body;
    cut = cut.cut;
    there = met.there;
    number_is = met.number_is;
    body_is = cut.body_is;
    is_cut = cut.is_cut;
    fed = subst (λ l. IsFed l m'') (sym (regrouped (flat_map written (take met.place (units max_unit s'.bytes s'.ended))) start_code cut.cut prefix))
        (fed_more (flat_map written (take met.place (units max_unit s'.bytes s'.ended))) (start_code ++ cut.cut ++ prefix) m' m'' met.fed cut.fed);
  };
}
  where
    regrouped : (a b c d : List ℕ) → a ++ b ++ c ++ d ≡ a ++ (b ++ c ++ d)
    regrouped a b c d = simp append_assoc

-- nothing was read
pub begins : (unread : Option (List ℕ)) (s : SplitterState) (m : Machine) → s ≡ new_splitter → m ≡ new_machine Full → IsReplaying unread unread false s m
begins unread s m of_s of_m =
    subst (λ t. IsReplaying unread unread false t m) (sym of_s) (subst (λ n. IsReplaying unread unread false new_splitter n) (sym of_m) record {
      read = record { consumed = Consumes-nil unread; whole = λ over. cc };
      ended_is = refl;
      fed = record { going = refl; few = omega arith; fed = record { bytes_are = refl; open_end = refl; mode = refl } };
    })

pub is_none : {A : Type 0} (o : Option A) → ((x : A) → o ≡ Some x → ⊥) → o ≡ None
is_none None none = refl
is_none (Some x) none = absurd (none x refl)

-- there is as much room after a read
pub room_kept : (n : ℕ) (new items : List ℕ) (room : ℕ) → length new ≡ n → length new ≡ room → length (take n (new ++ drop (length new) items)) ≡ room
room_kept n new items room is kept = ap (λ k. length (take k (new ++ drop (length new) items))) (sym is) ∙ ap length (take-append_seam new (drop (length new) items)) ∙ kept

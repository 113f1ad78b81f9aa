-- Units are taken into pieces, one after the other, and shown.
pub mod Stages
unfoldable pub use Stages.*
use Rattle.std.specs.Prelude.{IfOk, OnErr, OnOk}
use Rattle.avc_tools.specs.Stages.{waiting}
use Rattle.avc_tools.specs.declared.cutter.CutPhase.TheVariants as phases

-- ---- taking all units whose end has been seen, one after the other

no_more : (us : List Unit) (k : ℕ) → slice_get us k ≡ None → drop k us ≡ []
no_more us k e = drop_all k us (⊎_elim (λ at. absurd (none-some at.0 (sym e ∙ at.2))) (λ past. past.0) (slice_get_cases us k).1)

-- From this state some units were taken, of which this holds.
pub record IsDraining (max : ℕ) (old now : SplitterState) (holds : List Unit → Type 0) : Type 0 where
  pub done : List Unit
  pub rest : units_left max old ≡ done ++ units_left max now
  pub state : now ≡ record old { taken = old.taken + length done }
  pub so_far : holds done

pub draining_begun : (max : ℕ) (s : SplitterState) (holds : List Unit → Type 0) → holds [] → IsDraining max s s holds
draining_begun max s holds h = record {
  done = [];
  rest = refl;
  state = ap (λ n. record s { taken = n }) (omega arith);
  so_far = h;
}

next_unit_is : (max : ℕ) (old s : SplitterState) (n : ℕ) → s ≡ record old { taken = n } → old.failed ≡ false → next_unit_of max s ≡ slice_get (units max s.bytes s.ended) s.taken
next_unit_is max old s n is going =
    let on : s.failed ≡ false = ap (λ t. t.failed) is ∙ going in
    ap (λ x. if x then None else slice_get (units max s.bytes s.ended) s.taken) on

pub one_more : (max : ℕ) (old s new : SplitterState) (next : Option Unit) (u : Unit) (holds more : List Unit → Type 0) → IsDraining max old s holds → old.failed ≡ false
    → next ≡ next_unit_of max s → new ≡ after_next_unit s next → next ≡ Some u → ((done : List Unit) → holds done → more (done ++ u ∷ []))
    → IsDraining max old new more
one_more max old s new next u holds more i going gives takes is adds =
    let us = units max s.bytes s.ended in
    let at : slice_get us s.taken ≡ Some u = sym (next_unit_is max old s _ i.state going) ∙ sym gives ∙ is in
    let moved : new ≡ after_next_unit s (Some u) = takes ∙ ap (λ x. after_next_unit s x) is in
    let left : units_left max s ≡ u ∷ units_left max new =
    drop_more us s.taken u (slice_get_within us s.taken u at)
    ∙ ap (λ v. v ∷ drop (s.taken + 1) us) (get_or_from_slice_get us s.taken u u at)
    ∙ ap (λ t. u ∷ units_left max t) (sym moved) in
    let count : old.taken + length i.done + 1 ≡ old.taken + length (i.done ++ u ∷ []) = omega (arith, length-append i.done (u ∷ [])) in
    record {
      done = i.done ++ u ∷ [];
      rest = i.rest ∙ ap (λ l. i.done ++ l) left ∙ sym (append_assoc i.done (u ∷ []) (units_left max new));
      state = moved ∙ ap (λ t. after_next_unit t (Some u)) i.state ∙ ap (λ n. record old { taken = n }) count;
      so_far = adds i.done i.so_far;
    }

abbrev pub IsAllTaken : (max : ℕ) → (old new : SplitterState) → (holds : List Unit → Type 0) → Type 0
IsAllTaken max old new holds = holds (units_left max old) × (new ≡ after_units_left max old)

pub all_taken : (max : ℕ) (old s new : SplitterState) (next : Option Unit) (holds : List Unit → Type 0) → IsDraining max old s holds → old.failed ≡ false
    → next ≡ next_unit_of max s → new ≡ after_next_unit s next → next ≡ None → IsAllTaken max old new holds
all_taken max old s new next holds i going gives takes is =
    let none : slice_get (units max s.bytes s.ended) s.taken ≡ None = sym (next_unit_is max old s _ i.state going) ∙ sym gives ∙ is in
    let all : units_left max old ≡ i.done = i.rest ∙ ap (λ l. i.done ++ l) (no_more (units max s.bytes s.ended) s.taken none) ∙ append-nil i.done in (
      subst holds (sym all) i.so_far,
      takes ∙ ap (λ x. after_next_unit s x) is ∙ i.state ∙ ap (λ us. record old { taken = old.taken + length us }) (sym all),
    )

pub on_ok : {T E A B : Type 0} (r : Result T E) → (A → B) → OnOk r A → OnOk r B
on_ok (Ok x) f h = f h
on_ok (Err e) f h = h

-- past the end nothing is taken
none_taken : (max : ℕ) (s : SplitterState) → IsDrained max s → s ≡ after_units_left max s
none_taken max s d =
    let none : length (units_left max s) ≡ 0 = ap length (drop_all s.taken (units max s.bytes s.ended) (omega (arith, d.taken))) in
    ap (λ n. record s { taken = n }) (omega (arith, none))

pub taken_past_end : (max : ℕ) (s : SplitterState) (piece : List ℕ) (ends : Bool) → IsDrained max s → s.ended ≡ true → s ≡ after_units_left max (after_more s piece ends)
taken_past_end max s piece true d e = none_taken max s d ∙ ap (λ x. after_units_left max (record s { ended = x })) e
taken_past_end max s piece false d e =
    none_taken max s d ∙ ap (λ x. after_units_left max (if x then s else record s { bytes = s.bytes ++ piece })) (sym e)

-- where the end comes, or has come
pub ends_too : (ends ended : Bool) → ended ≡ true → ended ≡ (ends || ended)
ends_too ends ended e = grind arith

pub ends_alone : (ends ended : Bool) → ended ≡ false → (ends || ended) ≡ ends
ends_alone ends ended e = grind arith

pub feed_keeps_end : (s new : SplitterState) (piece : List ℕ) → new ≡ after_feed s piece → s.ended ≡ new.ended
feed_keeps_end s new piece is = rw is (grind arith)

pub more_ends : (s new : SplitterState) (piece : List ℕ) (ends ended : Bool) → new ≡ after_more s piece ends → ended ≡ s.ended → (ends || ended) ≡ new.ended
more_ends s new piece true ended is same = rw is refl
more_ends s new piece false ended is same = same ∙ feed_keeps_end s new piece is

pub nothing_added : (text added : List ℕ) → added ≡ [] → text ≡ text ++ added
nothing_added text added none = sym (append-nil text) ∙ ap (λ l. text ++ l) (sym none)

-- ---- one unit more is taken into a piece, and a piece whose stream comes is written as far as it is settled

pub stands_new : (number : ℕ) (c : Cutter) → c.phase ≡ phases.Waiting → c.left ≡ number → c.sets.sps.items ≡ replicate 32 None → c.sets.pps.items ≡ replicate 256 None → c.held.items ≡ []
    → StandsAt (waiting number []) c
stands_new number c phase left sps pps held = record { phase = phase; holds = record { left_is = left; sets = sets_none c.sets sps pps; held = held } }

-- ---- what is held

-- a unit where it passes
one_if : (p : Unit → Bool) (u : Unit) (b : Bool) → p u ≡ b → flat_map written (filter p (u ∷ [])) ≡ (if b then written u else [])
one_if p u b e = grind (arith, append-nil)

filtered_more : (p : Unit → Bool) (us : List Unit) (u : Unit) → flat_map written (filter p (us ++ u ∷ [])) ≡ flat_map written (filter p us) ++ (if p u then written u else [])
filtered_more p us u = rw (filter-append p us (u ∷ []), flat_map-append written (filter p us), one_if p u (p u) refl) refl

pub leading_more : (before : List Unit) (u : Unit) (old new : List ℕ) → is_slice u ≡ false → new ≡ old ++ (if leads u then written u else []) → old ≡ leading before → new ≡ leading (before ++ u ∷ [])
leading_more before u old new e is h = rw (is, h, after_other before u e) (sym (filtered_more leads (after_slices before) u))

-- ---- what is written of a list, element by element

front_more : {X : Type 0} (xs : List X) (k : ℕ) (x : X) → k < length xs → x ≡ get_or xs k x → take (k + 1) xs ≡ take k xs ++ x ∷ []
front_more xs k x lt is = take_more xs k x lt ∙ ap (λ y. take k xs ++ y ∷ []) (sym is)

added_to : (start front one old new : List ℕ) → old ≡ start ++ front → new ≡ old ++ one → new ≡ start ++ (front ++ one)
added_to start front one old new so_far added = added ∙ ap (λ l. l ++ one) so_far ∙ append_assoc start front one

pub told_more : {X Y : Type 0} (f : X → Y) (xs : List X) (k : ℕ) (x : X) (y : Y) (old new : List Y) → k < length xs → x ≡ get_or xs k x → y ≡ f x → old ≡ map f (take k xs) → new ≡ old ++ y ∷ []
    → new ≡ map f (take (k + 1) xs)
told_more f xs k x y old new lt is told so_far added =
    added ∙ ap (λ l. l ++ y ∷ []) so_far ∙ ap (λ z. map f (take k xs) ++ z ∷ []) told ∙ sym (map-append f (take k xs) (x ∷ [])) ∙ ap (map f) (sym (front_more xs k x lt is))

pub written_more : {X : Type 0} (f : X → List ℕ) (xs : List X) (k : ℕ) (x : X) (start old new : List ℕ) → k < length xs → x ≡ get_or xs k x → old ≡ start ++ flat_map f (take k xs) → new ≡ old ++ f x
    → new ≡ start ++ flat_map f (take (k + 1) xs)
written_more f xs k x start old new lt is so_far added =
    added_to start (flat_map f (take k xs)) (f x) old new so_far added
    ∙ ap (λ l. start ++ (flat_map f (take k xs) ++ l)) (sym (append-nil (f x)))
    ∙ ap (λ l. start ++ l) (sym (flat_map-append f (take k xs) (x ∷ [])))
    ∙ ap (λ l. start ++ flat_map f l) (sym (front_more xs k x lt is))

pub kept_on : (p : Unit → Bool) (us : List Unit) (k : ℕ) (u : Unit) (wanted : Bool) (start old new : List ℕ) → k < length us → u ≡ get_or us k u → wanted ≡ p u
    → old ≡ start ++ flat_map written (filter p (take k us)) → new ≡ old ++ (if wanted then written u else []) → new ≡ start ++ flat_map written (filter p (take (k + 1) us))
kept_on p us k u wanted start old new lt is by so_far added =
    added_to start (flat_map written (filter p (take k us))) (if wanted then written u else []) old new so_far added
    ∙ ap (λ b. start ++ (flat_map written (filter p (take k us)) ++ (if b then written u else []))) by
    ∙ ap (λ l. start ++ l) (sym (filtered_more p (take k us) u))
    ∙ ap (λ l. start ++ flat_map written (filter p l)) (sym (front_more us k u lt is))

-- ---- while the piece has not begun

abbrev pub Passed : (left now : ℕ) (starts : Bool) → Type 0
Passed left now true = left ≡ now + 1
Passed left now false = left ≡ now

next_passed : (left now : ℕ) (before : List Unit) (u : Unit) (b : Bool) → is_start u ≡ b → Passed left now b → next (waiting left before) u ≡ waiting now (before ++ u ∷ [])
next_passed left now before u true e h = let same : left ≡ suc now = omega (arith, h) in rw (e, same) refl
next_passed left now before u false e h = rw (e, h) refl

pub waits_on : (s : Stage) (u : Unit) (b : Bool) (old new : Cutter) (piece : List ℕ) → StandsAt s old → old.phase ≡ phases.Waiting → is_start u ≡ b → Passed old.left new.left b → new.phase ≡ phases.Waiting
    → AreReplaced is_sps sps_record (set_unit u) (written u) old.sets.sps.items new.sets.sps.items → AreReplaced is_pps pps_record (set_unit u) (written u) old.sets.pps.items new.sets.pps.items
    → ((us : List Unit) → old.held.items ≡ leading us → new.held.items ≡ leading (us ++ u ∷ [])) → IsCutOn s (next s u) new piece piece
waits_on (waiting left before) u b old new piece h is e passed phase sps pps held =
    subst (λ t. IsCutOn (waiting left before) t new piece piece) (sym (next_passed left new.left before u b e (subst (λ n. Passed n new.left b) h.holds.left_is passed)))
    (record {
      stands = record {
        phase = phase;
        holds = record { left_is = refl; sets = sets_more before u old.sets new.sets h.holds.sets sps pps; held = held before h.holds.held };
      };
      added = [];
      defined = refl;
      written_on = sym (append-nil piece);
    })
waits_on _ u b old new piece h is e passed phase sps pps held = cc

-- ---- the piece begins

pub made_first : (before : List Unit) (u : Unit) (c : Cutter) (p0 p1 p2 p3 p4 : List ℕ) → StandsAt (waiting 0 before) c → p1 ≡ p0 ++ flat_map kept_bytes c.sets.sps.items → p2 ≡ p1 ++ flat_map kept_bytes c.sets.pps.items
    → p3 ≡ p2 ++ c.held.items → p4 ≡ p3 ++ written u → p4 ≡ p0 ++ made before u []
made_first before u c p0 p1 p2 p3 p4 h e1 e2 e3 e4 =
    rw (
      e4,
      e3,
      e2,
      e1,
      append_assoc p0,
      sets_written before c.sets h.holds.sets,
      h.holds.held,
      flat_map-append written (sets_in_force before ++ filter leads (after_slices before)),
      flat_map-append written (sets_in_force before),
    ) (rw (append-nil (written u)) (simp append_assoc))

pub begins : (s : Stage) (u : Unit) (old new : Cutter) (piece more : List ℕ) → StandsAt s old → old.phase ≡ phases.Waiting → old.left ≡ 0 → is_start u ≡ true → new.phase ≡ phases.Writing → new.held.items ≡ []
    → new.staying.items ≡ [] → ((before : List Unit) → StandsAt (waiting 0 before) old → more ≡ piece ++ made before u []) → IsCutOn s (next s u) new piece more
begins (waiting left before) u old new piece more h is none e phase held stay made_is =
    let zero_left : left ≡ 0 = sym h.holds.left_is ∙ none in
    let here : StandsAt (waiting 0 before) old = subst (λ n. StandsAt (waiting n before) old) zero_left h in
    let begun_is : next (waiting left before) u ≡ writing before u [] =
    ap (λ x. if x then begun left before u else waiting left (before ++ u ∷ [])) e ∙ ap (λ n. begun n before u) zero_left in
    subst (λ t. IsCutOn (waiting left before) t new piece more) (sym begun_is) (record {
      stands = record { phase = phase; holds = record { all = held; stay = stay } };
      added = made before u [];
      defined = refl;
      written_on = made_is before here;
    })
begins _ u old new piece more h is none e phase held stay made_is = cc

-- ---- the piece goes on

abbrev after_it : (starts : Bool) (before : List Unit) (c : Unit) (after : List Unit) (u : Unit) → Stage
after_it starts before c after u = if starts then over before c after else writing before c (after ++ u ∷ [])

pub piece_ends_by : (s : Stage) (u : Unit) (old new : Cutter) (piece more : List ℕ) → StandsAt s old → old.phase ≡ phases.Writing → is_start u ≡ true → new.phase ≡ phases.Over → more ≡ piece ++ old.staying.items → IsCutOn s (next s u) new piece more
piece_ends_by (writing before c after) u old new piece more h is e phase added =
    subst (λ b. IsCutOn (writing before c after) (after_it b before c after u) new piece more) (sym e) (record {
      stands = record { phase = phase; holds = _ };
      added = flat_map written (staying after);
      defined = added_by_next before c after;
      written_on = added ∙ ap (λ t. piece ++ t) h.holds.stay;
    })
piece_ends_by _ u old new piece more h is e phase added = cc

pub goes_on_by_slice : (s : Stage) (u : Unit) (old new : Cutter) (piece one more : List ℕ) → StandsAt s old → old.phase ≡ phases.Writing → is_start u ≡ false → is_slice u ≡ true → new.phase ≡ phases.Writing
    → new.held.items ≡ [] → new.staying.items ≡ [] → one ≡ piece ++ old.held.items → more ≡ one ++ written u → IsCutOn s (next s u) new piece more
goes_on_by_slice (writing before c after) u old new piece one more h is e slice phase held stay first second =
    let none = after_slice after u slice in
    subst (λ b. IsCutOn (writing before c after) (after_it b before c after u) new piece more) (sym e) (record {
      stands = record { phase = phase; holds = record { all = rw (held, none) refl; stay = rw (stay, none) refl } };
      added = flat_map written (after_slices after) ++ flat_map written (u ∷ []);
      defined = added_by_slice before c after u slice;
      written_on = rw (second, first, h.holds.all) (simp (append_assoc, append-nil));
    })
goes_on_by_slice _ u old new piece one more h is e slice phase held stay first second = cc

pub piece_goes_on : (s : Stage) (u : Unit) (old new : Cutter) (piece : List ℕ) → StandsAt s old → old.phase ≡ phases.Writing → is_start u ≡ false → is_slice u ≡ false → new.phase ≡ phases.Writing
    → new.held.items ≡ old.held.items ++ written u → new.staying.items ≡ old.staying.items ++ (if not (is_left_out u) then written u else []) → IsCutOn s (next s u) new piece piece
piece_goes_on (writing before c after) u old new piece h is e slice phase held stay =
    let more = after_other after u slice in
    subst (λ b. IsCutOn (writing before c after) (after_it b before c after u) new piece piece) (sym e) (record {
      stands = record {
        phase = phase;
        holds = record {
          all = rw (held, more, h.holds.all) (simp (flat_map-append, append-nil));
          stay = rw (stay, more, h.holds.stay) (sym (filtered_more (λ v. not (is_left_out v)) (after_slices after) u));
        };
      };
      added = [];
      defined = ap (made before c) (through_other after u slice) ∙ sym (append-nil (made before c (through_slices after)));
      written_on = sym (append-nil piece);
    })
piece_goes_on _ u old new piece h is e slice phase held stay = cc

-- ---- after it

pub stays_as_it_is : (s : Stage) (u : Unit) (c : Cutter) (piece : List ℕ) → StandsAt s c → c.phase ≡ phases.Over → IsCutOn s (next s u) c piece piece
stays_as_it_is (over before cut after) u c piece h is = record { stands = h; added = []; defined = sym (append-nil (text_of (over before cut after) false)); written_on = sym (append-nil piece) }
stays_as_it_is _ u c piece h is = cc

-- ---- the end

no_writing : (x : CutPhase) → x ≡ phases.Writing → (x ≡ phases.Waiting) ⊎ (x ≡ phases.Over) → ⊥
no_writing x e h = grind arith

pub nothing_held : (s : Stage) (ends : Bool) (c : Cutter) (piece : List ℕ) → StandsAt s c → (c.phase ≡ phases.Waiting) ⊎ (c.phase ≡ phases.Over) → IsCutOff s ends piece piece
nothing_held (waiting left before) ends c piece h w = record { added = []; defined = refl; written_on = sym (append-nil piece) }
nothing_held (over before cut after) ends c piece h w = record { added = []; defined = sym (append-nil (text_of (over before cut after) false)); written_on = sym (append-nil piece) }
nothing_held (writing before cut after) ends c piece h w = absurd (no_writing c.phase h.phase w)

pub held_written : (s : Stage) (ends : Bool) (c : Cutter) (piece more : List ℕ) → StandsAt s c → c.phase ≡ phases.Writing → ends ≡ true → more ≡ piece ++ c.held.items → IsCutOff s ends piece more
held_written (writing before cut after) true c piece more h is e added = record {
  added = flat_map written (after_slices after);
  defined = added_at_end before cut after;
  written_on = added ∙ ap (λ t. piece ++ t) h.holds.all;
}
held_written _ ends c piece more h is e added = cc

-- ---- a piece whose stream comes is written as far as it is settled: unit by unit

-- These units were taken in, and this is what they brought.
abbrev pub IsCutFrom : (old now : Cutter) → (piece : List ℕ) → (done : List Unit) → Type 0
IsCutFrom old now piece done = (s : Stage) → StandsAt s old → IsCutOn s (stage_after s done) now [] piece

pub cut_none : (c : Cutter) (piece : List ℕ) → piece ≡ [] → IsCutFrom c c piece []
cut_none c piece none = λ s h. record { stands = h; added = []; defined = sym (append-nil (text_of s false)); written_on = none }

pub cut_more : (old mid now : Cutter) (piece more : List ℕ) (u : Unit) → ((s : Stage) → StandsAt s mid → IsCutOn s (next s u) now piece more)
    → (done : List Unit) → IsCutFrom old mid piece done → IsCutFrom old now more (done ++ u ∷ [])
cut_more old mid now piece more u step done i = λ s h.
    let first = i s h in
    let second = step (stage_after s done) first.stands in
    subst (λ t. IsCutOn s t now [] more) (sym (after-append s done (u ∷ []))) (record {
      stands = second.stands;
      added = first.added ++ second.added;
      defined = second.defined ∙ ap (λ l. l ++ second.added) first.defined ∙ append_assoc (text_of s false) first.added second.added;
      written_on = second.written_on ∙ ap (λ l. l ++ second.added) first.written_on;
    })

-- ---- once more has come

stage_is : (max number : ℕ) (old mid new : SplitterState) → AreLeft max old mid → new ≡ after_units_left max mid → stage_after (stage_of max number old) (units_left max mid) ≡ stage_of max number new
stage_is max number old mid new left is =
    sym (after-append (waiting number []) (units max old.bytes old.ended) (units_left max mid)) ∙ ap (stage_after (waiting number [])) (sym left.all) ∙ ap (stage_of max number) (sym is)

pub cutting_again : (max number : ℕ) (old mid new : SplitterState) (before ended : Bool) (c now : Cutter) (piece : List ℕ) → IsCutting max number old before c → AreLeft max old mid → new ≡ after_units_left max mid
    → ended ≡ mid.ended → IsCutFrom c now piece (units_left max mid) → IsCutting max number new ended now
cutting_again max number old mid new before ended c now piece h left is end_is cut = record {
  drained = drained max old mid new left is;
  end_is = end_is ∙ ap (λ s. s.ended) (sym is);
  stands = subst (λ t. StandsAt t now) (stage_is max number old mid new left is) (cut (stage_of max number old) h.stands).stands;
}

-- After some units that were left the text has what these bring, and then what is added there.
pub text_added : (max number : ℕ) (old mid new : SplitterState) (ended ends : Bool) (c now : Cutter) (part all : List ℕ) → IsCutting max number old ended c
    → ended ≡ false → AreLeft max old mid → new ≡ after_units_left max mid → (ends || ended) ≡ mid.ended → IsCutFrom c now part (units_left max mid)
    → ((s : Stage) → StandsAt s now → IsCutOff s ends part all) → length new.bytes ≤ max
    → piece_text number new.bytes new.ended ≡ piece_text number old.bytes old.ended ++ all
text_added max number old mid new ended ends c now part all h open_end left is end_is cut rest short =
    let before = stage_of max number old in
    let t = stage_after before (units_left max mid) in
    let on = cut before h.stands in
    let off = rest t on.stands in
    let at_end : mid.ended ≡ ends = sym end_is ∙ ends_alone ends ended open_end in
    let same : length new.bytes ≡ length mid.bytes = ap (λ (s : SplitterState). length s.bytes) is in
    ap (λ (s : SplitterState). piece_text number s.bytes s.ended) is
    ∙ text_behind max number mid.bytes old.bytes mid.ended old.ended (units_left max mid) (on.added ++ off.added) (omega (arith, short, same))
    (omega (arith, short, same, left.no_fewer)) (sym h.end_is ∙ open_end) left.all
    (ap (text_of t) at_end ∙ off.defined ∙ ap (λ l. l ++ off.added) on.defined ∙ append_assoc (text_of before false) on.added off.added)
    ∙ ap (λ l. piece_text number old.bytes old.ended ++ l) (sym (off.written_on ∙ ap (λ l. l ++ off.added) on.written_on))

-- ---- what the code tells

abbrev pub begun_in : CutPhase → Bool
begun_in phases.Waiting = false
begun_in _ = true

abbrev pub over_in : CutPhase → Bool
over_in phases.Over = true
over_in _ = false

begun_by : (s : Stage) (ended : Bool) → is_some (piece_of s ended) ≡ begun_in (phase_of s)
begun_by (waiting left before) ended = refl
begun_by _ ended = refl

over_by : (s : Stage) → is_over s ≡ over_in (phase_of s)
over_by s = grind arith

pub tells_begun : (max number : ℕ) (s : SplitterState) (ended : Bool) (c : Cutter) → IsCutting max number s ended c → length s.bytes ≤ max → begun_in c.phase ≡ is_some (numbered_piece number s.bytes s.ended)
tells_begun max number s ended c h short =
    ap begun_in h.stands.phase ∙ sym (begun_by (stage_of max number s) s.ended) ∙ ap is_some (sym (numbered_is max number s.bytes s.ended short))

pub tells_over : (max number : ℕ) (s : SplitterState) (ended : Bool) (c : Cutter) → IsCutting max number s ended c → length s.bytes ≤ max → over_in c.phase ≡ piece_is_over number s.bytes s.ended
tells_over max number s ended c h short =
    ap over_in h.stands.phase ∙ sym (over_by (stage_of max number s)) ∙ sym (over_is max number s.bytes s.ended short)

pub either_begun : (x : CutPhase) → (x ≡ phases.Writing) ⊎ (x ≡ phases.Over) → begun_in x ≡ true
either_begun x h = grind arith

pub either_not_over : (x : CutPhase) → (x ≡ phases.Waiting) ⊎ (x ≡ phases.Writing) → over_in x ≡ false
either_not_over x h = grind arith

-- ---- headers, one line after the other

-- a form of the lines of headers
abbrev pub HeaderForm : Type 0
HeaderForm = Sets → Unit → List ℕ

under-append : (form : HeaderForm) (sets : List SetUnit) (us vs : List Unit) → header_lines_under form sets (us ++ vs) ≡ header_lines_under form sets us ++ header_lines_under form (sets ++ set_units us) vs
under-append form sets [] vs = rw (append-nil sets) refl
under-append form sets (u ∷ us) vs = rw (under-append form (sets ++ set_units (u ∷ [])) us vs, sets_then sets u us) (simp append_assoc)

from_under : (form : HeaderForm) (before us : List Unit) → header_lines_under form (set_units before) us ≡ header_lines_from form before us
from_under form before [] = refl
from_under form before (u ∷ us) =
    ap (λ l. form (sets_after (set_units before)) u ++ l)
    (ap (λ l. header_lines_under form l us) (sym (set_units-append before (u ∷ []))) ∙ from_under form (before ++ u ∷ []) us)

-- The lines of these units are there, and the sets that these brought.
pub record IsShown (form : HeaderForm) (before now : List SetUnit) (text : List ℕ) (done : List Unit) : Type 0 where
  pub sets : now ≡ before ++ set_units done
  pub lines : text ≡ header_lines_under form before done

pub shown_more : (form : HeaderForm) (before old new : List SetUnit) (text more : List ℕ) (u : Unit) → new ≡ old ++ set_units (u ∷ []) → more ≡ text ++ form (sets_after old) u
    → (done : List Unit) → IsShown form before old text done → IsShown form before new more (done ++ u ∷ [])
shown_more form before old new text more u put added done h =
    let here : form (sets_after old) u ≡ header_lines_under form (before ++ set_units done) (u ∷ []) =
    ap (λ ss. form (sets_after ss) u) h.sets ∙ sym (append-nil (form (sets_after (before ++ set_units done)) u)) in
    record {
      sets = set_units_more before old new u done put h.sets;
      lines =
          added ∙ ap (λ l. l ++ form (sets_after old) u) h.lines ∙ ap (λ l. header_lines_under form before done ++ l) here
          ∙ sym (under-append form before done (u ∷ []));
    }

pub header_lines_are : (form : HeaderForm) (max : ℕ) (bytes : List ℕ) (ended : Bool) → length bytes ≤ max → header_lines_under form [] (units max bytes ended) ≡ header_lines_so_far form bytes ended
header_lines_are form max bytes ended short = ap (λ us. header_lines_under form [] us) (whole_units max bytes ended short) ∙ from_under form [] (units (length bytes) bytes ended)

-- once more has come
pub sets_again : (max : ℕ) (old mid new : SplitterState) (sets now : List SetUnit) → sets ≡ set_units (units max old.bytes old.ended) → AreLeft max old mid
    → new ≡ after_units_left max mid → now ≡ sets ++ set_units (units_left max mid) → now ≡ set_units (units max new.bytes new.ended)
sets_again max old mid new sets now are left is put =
    put ∙ ap (λ l. l ++ set_units (units_left max mid)) are
    ∙ sym (set_units-append (units max old.bytes old.ended) (units_left max mid))
    ∙ ap set_units (sym left.all)
    ∙ ap (λ s. set_units (units max s.bytes s.ended)) (sym is)

pub shown_again : (max : ℕ) (old mid new : SplitterState) (sets now : List SetUnit) → AreShown max old sets → AreLeft max old mid → new ≡ after_units_left max mid
    → now ≡ sets ++ set_units (units_left max mid) → AreShown max new now
shown_again max old mid new sets now h left is put = record {
  drained = drained max old mid new left is;
  sets_are = sets_again max old mid new sets now h.sets_are left is put;
}

-- The lines of units that come to others come behind theirs.
header_lines_behind : (form : HeaderForm) (max : ℕ) (bytes front : List ℕ) (ended front_ended : Bool) (others : List Unit) → length bytes ≤ max → length front ≤ max
    → units max bytes ended ≡ units max front front_ended ++ others
    → header_lines_so_far form bytes ended ≡ header_lines_so_far form front front_ended ++ header_lines_under form (set_units (units max front front_ended)) others
header_lines_behind form max bytes front ended front_ended others short front_short is =
    sym (header_lines_are form max bytes ended short) ∙ ap (header_lines_under form []) is ∙ under-append form [] (units max front front_ended) others
    ∙ ap (λ l. l ++ header_lines_under form (set_units (units max front front_ended)) others) (header_lines_are form max front front_ended front_short)

pub header_lines_added : (form : HeaderForm) (max : ℕ) (old mid new : SplitterState) (sets : List SetUnit) (added : List ℕ) → AreShown max old sets → AreLeft max old mid
    → new ≡ after_units_left max mid → added ≡ header_lines_under form sets (units_left max mid) → length new.bytes ≤ max
    → header_lines_so_far form new.bytes new.ended ≡ header_lines_so_far form old.bytes old.ended ++ added
header_lines_added form max old mid new sets added h left is lines short =
    let same : length new.bytes ≡ length mid.bytes = ap (λ (s : SplitterState). length s.bytes) is in
    ap (λ (s : SplitterState). header_lines_so_far form s.bytes s.ended) is
    ∙ header_lines_behind form max mid.bytes old.bytes mid.ended old.ended (units_left max mid) (omega (arith, short, same)) (omega (arith, short, same, left.no_fewer)) left.all
    ∙ ap (λ ss. header_lines_so_far form old.bytes old.ended ++ header_lines_under form ss (units_left max mid)) (sym h.sets_are)
    ∙ ap (λ l. header_lines_so_far form old.bytes old.ended ++ l) (sym lines)

pub header_lines_grow : (form : HeaderForm) → UnitsStay → OnlyGrows (header_lines_so_far form)
header_lines_grow form stay bytes more ended short =
    let later = stay (2 ^ 64) bytes more ended in
    (_, header_lines_behind form (2 ^ 64) (bytes ++ more) bytes ended false later.0 (omega (arith, short)) (omega (arith, short, length-append bytes more)) later.1)

-- ---- cut points, one line after the other

-- a form of the lines of pieces
abbrev pub PieceForm : Type 0
PieceForm = PieceFacts → List ℕ

cut_points-append : (form : PieceForm) (c : CountedPieces) (us vs : List Unit) → cut_point_lines form c (us ++ vs) ≡ cut_point_lines form c us ++ cut_point_lines form (counted_all c us) vs
cut_points-append form c [] vs = refl
cut_points-append form c (u ∷ us) vs = rw (cut_points-append form (counted c u) us vs) (simp append_assoc)

counted-append : (c : CountedPieces) (us vs : List Unit) → counted_all c (us ++ vs) ≡ counted_all (counted_all c us) vs
counted-append c [] vs = refl
counted-append c (u ∷ us) vs = counted-append (counted c u) us vs

-- The lines of these units are there, and their pieces are counted.
pub record IsCounted (form : PieceForm) (before now : CountedPieces) (text : List ℕ) (done : List Unit) : Type 0 where
  pub counts : now ≡ counted_all before done
  pub lines : text ≡ cut_point_lines form before done

pub counted_more : (form : PieceForm) (before old new : CountedPieces) (text more : List ℕ) (u : Unit) → new ≡ counted old u → more ≡ text ++ line_of_piece form (piece_over old u)
    → (done : List Unit) → IsCounted form before old text done → IsCounted form before new more (done ++ u ∷ [])
counted_more form before old new text more u is added done h =
    let here : line_of_piece form (piece_over old u) ≡ cut_point_lines form (counted_all before done) (u ∷ []) =
    ap (λ c. line_of_piece form (piece_over c u)) h.counts ∙ sym (append-nil (line_of_piece form (piece_over (counted_all before done) u))) in
    record {
      counts = is ∙ ap (λ c. counted c u) h.counts ∙ sym (counted-append before done (u ∷ []));
      lines =
          added ∙ ap (λ l. l ++ line_of_piece form (piece_over old u)) h.lines ∙ ap (λ l. cut_point_lines form before done ++ l) here
          ∙ sym (cut_points-append form before done (u ∷ []));
    }

cut_point_lines_are : (form : PieceForm) (max : ℕ) (bytes : List ℕ) (ended : Bool) → length bytes ≤ max → all_cut_point_lines form (units max bytes ended) ended ≡ cut_point_lines_so_far form bytes ended
cut_point_lines_are form max bytes ended short = ap (λ us. all_cut_point_lines form us ended) (whole_units max bytes ended short)

-- once more has come
counts_again : (max : ℕ) (old mid new : SplitterState) (c now : CountedPieces) → c ≡ counted_all none_counted (units max old.bytes old.ended) → AreLeft max old mid
    → new ≡ after_units_left max mid → now ≡ counted_all c (units_left max mid) → now ≡ counted_all none_counted (units max new.bytes new.ended)
counts_again max old mid new c now are left is counted_on =
    counted_on ∙ ap (λ k. counted_all k (units_left max mid)) are
    ∙ sym (counted-append none_counted (units max old.bytes old.ended) (units_left max mid))
    ∙ ap (counted_all none_counted) (sym left.all)
    ∙ ap (λ s. counted_all none_counted (units max s.bytes s.ended)) (sym is)

pub counted_again : (max : ℕ) (old mid new : SplitterState) (before ended : Bool) (c now : CountedPieces) → AreCounted max old before c → AreLeft max old mid
    → new ≡ after_units_left max mid → ended ≡ mid.ended → now ≡ counted_all c (units_left max mid) → AreCounted max new ended now
counted_again max old mid new before ended c now h left is end_is counted_on = record {
  drained = drained max old mid new left is;
  end_is = end_is ∙ ap (λ s. s.ended) (sym is);
  counts_are = counts_again max old mid new c now h.counts_are left is counted_on;
}

-- The lines of units that come to others, and that of the last piece, come behind theirs.
all_behind : (form : PieceForm) (us others : List Unit) (ended : Bool)
    → all_cut_point_lines form (us ++ others) ended
    ≡ all_cut_point_lines form us false ++ (cut_point_lines form (counted_all none_counted us) others ++ last_line form (counted_all none_counted (us ++ others)) ended)
all_behind form us others ended =
    rw (cut_points-append form none_counted us others, append-nil (cut_point_lines form none_counted us)) (simp append_assoc)

cut_point_lines_behind : (form : PieceForm) (max : ℕ) (bytes front : List ℕ) (ended : Bool) (others : List Unit) → length bytes ≤ max → length front ≤ max
    → units max bytes ended ≡ units max front false ++ others
    → cut_point_lines_so_far form bytes ended
    ≡ cut_point_lines_so_far form front false
    ++ (cut_point_lines form (counted_all none_counted (units max front false)) others ++ last_line form (counted_all none_counted (units max front false ++ others)) ended)
cut_point_lines_behind form max bytes front ended others short front_short is =
    let us = units max front false in
    sym (cut_point_lines_are form max bytes ended short) ∙ ap (λ vs. all_cut_point_lines form vs ended) is ∙ all_behind form us others ended
    ∙ ap (λ l. l ++ (cut_point_lines form (counted_all none_counted us) others ++ last_line form (counted_all none_counted (us ++ others)) ended))
    (cut_point_lines_are form max front false front_short)

added_behind : (form : PieceForm) (max : ℕ) (bytes front : List ℕ) (ended front_ended : Bool) (others : List Unit) (c now : CountedPieces) (lines : List ℕ) → front_ended ≡ false
    → length bytes ≤ max → length front ≤ max → units max bytes ended ≡ units max front front_ended ++ others → c ≡ counted_all none_counted (units max front front_ended)
    → lines ≡ cut_point_lines form c others → now ≡ counted_all c others
    → cut_point_lines_so_far form bytes ended ≡ cut_point_lines_so_far form front front_ended ++ (lines ++ last_line form now ended)
added_behind form max bytes front ended true others c now lines open_end short front_short is c_is lines_are now_is = cc
added_behind form max bytes front ended false others c now lines open_end short front_short is c_is lines_are now_is =
    let us = units max front false in
    let more : cut_point_lines form (counted_all none_counted us) others ++ last_line form (counted_all none_counted (us ++ others)) ended ≡ lines ++ last_line form now ended =
    rw (lines_are, now_is, c_is) (ap (λ k. cut_point_lines form (counted_all none_counted us) others ++ last_line form k ended) (counted-append none_counted us others)) in
    cut_point_lines_behind form max bytes front ended others short front_short is ∙ ap (λ l. cut_point_lines_so_far form front false ++ l) more

last_by : (form : PieceForm) (c : CountedPieces) (ends : Bool) → last_line form c ends ≡ line_of_piece form (if ends then c.piece else None)
last_by form c true = refl
last_by form c false = refl

pub cut_point_lines_added : (form : PieceForm) (max : ℕ) (old mid new : SplitterState) (ends before : Bool) (c now : CountedPieces) (lines all : List ℕ) (piece : Option PieceFacts)
    → AreCounted max old before c → before ≡ false → AreLeft max old mid → new ≡ after_units_left max mid → lines ≡ cut_point_lines form c (units_left max mid)
    → now ≡ counted_all c (units_left max mid) → (ends || before) ≡ mid.ended → piece ≡ (if ends then now.piece else None) → all ≡ lines ++ line_of_piece form piece
    → length new.bytes ≤ max → cut_point_lines_so_far form new.bytes new.ended ≡ cut_point_lines_so_far form old.bytes old.ended ++ all
cut_point_lines_added form max old mid new ends before c now lines all piece h open_end left is lines_are counted_on end_is piece_is all_is short =
    let fits : length mid.bytes ≤ max = (rw is at short) in
    let at_end : mid.ended ≡ ends = sym end_is ∙ ends_alone ends before open_end in
    rw is
    (added_behind form max mid.bytes old.bytes mid.ended old.ended (units_left max mid) c now lines (sym h.end_is ∙ open_end) fits (omega (arith, fits, left.no_fewer))
    left.all h.counts_are lines_are counted_on)
    ∙ ap (λ l. cut_point_lines_so_far form old.bytes old.ended ++ l)
    (ap (λ e. lines ++ last_line form now e) at_end ∙ ap (λ l. lines ++ l) (last_by form now ends ∙ ap (line_of_piece form) (sym piece_is)) ∙ sym all_is)

pub cut_point_lines_grow : (form : PieceForm) → UnitsStay → OnlyGrows (cut_point_lines_so_far form)
cut_point_lines_grow form stay bytes more ended short =
    let later = stay (2 ^ 64) bytes more ended in
    (_, cut_point_lines_behind form (2 ^ 64) (bytes ++ more) bytes ended later.0 (omega (arith, short)) (omega (arith, short, length-append bytes more)) later.1)

-- a line of three parts, with a number in front and its end
pub line_put : (old index a b c last s1 s2 s3 s4 s5 : List ℕ) → s1 ≡ old ++ index → s2 ≡ s1 ++ a → s3 ≡ s2 ++ b → s4 ≡ s3 ++ c → s5 ≡ s4 ++ last
    → s5 ≡ old ++ ((index ++ ((a ++ b) ++ c)) ++ last)
line_put old index a b c last s1 s2 s3 s4 s5 e1 e2 e3 e4 e5 = rw (e5, e4, e3, e2, e1) (simp append_assoc)

-- ---- worked examples of the tools

-- 16x16 luma samples, order count type 2, one reference frame
abbrev sps_small : List ℕ
sps_small = 0 ∷ 0 ∷ 0 ∷ 1 ∷ 103 ∷ 66 ∷ 192 ∷ 10 ∷ 218 ∷ 113 ∷ []

-- no deblocking fields in slices
abbrev pps_plain : List ℕ
pps_plain = 0 ∷ 0 ∷ 0 ∷ 1 ∷ 104 ∷ 206 ∷ 56 ∷ 128 ∷ []

-- an IDR picture of one Intra 16x16 macroblock without levels
abbrev idr : List ℕ
idr = 0 ∷ 0 ∷ 1 ∷ 101 ∷ 136 ∷ 132 ∷ 147 ∷ 192 ∷ []

-- as idr with idr_pic_id 1
abbrev second_idr : List ℕ
second_idr = 0 ∷ 0 ∷ 1 ∷ 101 ∷ 136 ∷ 130 ∷ 36 ∷ 240 ∷ []

abbrev stream : List ℕ
stream = sps_small ++ pps_plain ++ idr

units_text : unit_lines stream ≡ codes "0 4 6 7 3\n1 14 4 8 3\n2 21 5 5 3\n"
unfolding digits
units_text = refl

headers_text : header_lines stream ≡ codes "0 sps 0 profile 66 level 10 size 16x16 refs 1 poc 2 dpb 16\n1 pps 0 sps 0 qp 26 refs 1 control 0 constrained 0\n2 slice 0 type I pps 0 frame 0 qp 26 idr 1\n"
unfolding digits
headers_text = refl

-- 1055 by 132 macroblocks
widest_text : header_lines (0 ∷ 0 ∷ 0 ∷ 1 ∷ 0x67 ∷ 0x42 ∷ 0xC0 ∷ 0x3E ∷ 0xDA ∷ 0x00 ∷ 0x10 ∷ 0x7C ∷ 0x04 ∷ 0x24 ∷ 0x40 ∷ []) ≡ codes "0 sps 0 profile 66 level 62 size 16880x2112 refs 1 poc 2 dpb 5\n"
unfolding digits
widest_text = refl

two_pieces : pieces (stream ++ second_idr) ≡ (sps_small ++ pps_plain ++ 0 ∷ idr) ∷ (sps_small ++ pps_plain ++ 0 ∷ second_idr) ∷ []
two_pieces = refl

two_lengths : map length (pieces (stream ++ second_idr)) ≡ 27 ∷ 27 ∷ []
two_lengths = refl

two_cut_points : cut_point_lines_so_far cut_point_line (stream ++ second_idr) true ≡ codes "0 2 21 pictures 1\n1 3 29 pictures 1\n"
unfolding digits
two_cut_points = refl

-- a P picture of one P_Skip macroblock, frame_num 1
abbrev predicted : List ℕ
predicted = 0 ∷ 0 ∷ 1 ∷ 65 ∷ 226 ∷ 42 ∷ []

-- the pictures of a piece are all up to the next cut point; the line comes with that, or at the end
three_pictures : cut_point_lines_so_far cut_point_line (stream ++ predicted ++ second_idr) true ≡ codes "0 2 21 pictures 2\n1 4 35 pictures 1\n"
unfolding digits
three_pictures = refl

one_piece_over : cut_point_lines_so_far cut_point_line (stream ++ predicted ++ second_idr ++ predicted) false ≡ codes "0 2 21 pictures 2\n"
unfolding digits
one_piece_over = refl

-- a supplemental unit goes with the picture behind it
abbrev supplemental : List ℕ
supplemental = 0 ∷ 0 ∷ 1 ∷ 6 ∷ 5 ∷ 1 ∷ 0 ∷ 128 ∷ []

with_supplemental : pieces (stream ++ supplemental ++ second_idr) ≡ (sps_small ++ pps_plain ++ 0 ∷ idr) ∷ (sps_small ++ pps_plain ++ (0 ∷ supplemental) ++ 0 ∷ second_idr) ∷ []
with_supplemental = refl

-- a set that was refused or replaced is in no piece; 32x16 luma samples
abbrev sps_wide_then : List ℕ
sps_wide_then = 0 ∷ 0 ∷ 0 ∷ 1 ∷ 0x67 ∷ 0x42 ∷ 0xC0 ∷ 0x0A ∷ 0xDA ∷ 0x2C ∷ 0x40 ∷ []

with_other_set : pieces ((0 ∷ 0 ∷ 1 ∷ 0x68 ∷ 0xEE ∷ 0x38 ∷ 0x80 ∷ []) ++ sps_wide_then ++ stream) ≡ (sps_small ++ pps_plain ++ 0 ∷ idr) ∷ []
with_other_set = refl

-- A stream from a cut point on, unit by unit.
use Rattle.avc_tools.proofs.Taking.{◌≡◌, ◌≤◌, ◌^◌, ℕ, zero, suc, Bool, true, false, List, [], ◌∷◌, ◌++◌, length, Option, Some, None, Result, if◌then◌else◌}
use Rattle.avc_tools.proofs.Taking.{refl, ap, sym, ◌∙◌, subst, arith, append_assoc, append-nil, length-append, flat_map, flat_map-append, written, Unit, units, UnitsStay}
use Rattle.avc_tools.proofs.Taking.{SplitterState, is_start, OnlyGrows, units_left, after_units_left, AreLeft, drained, whole_units, Cutter, CutPhase, StandsAt, IsCutOn, on_ok}
use Rattle.avc_tools.proofs.Taking.{next, writing, Stage, ◌⊎◌, sets_in_force, filter, leads, after_slices}
use Rattle.std.specs.Prelude.{OnOk}
use Rattle.avc_tools.specs.Stages.{waiting}
use Rattle.avc_tools.specs.Tail.{units_from, tail_from, tail_text, still_left, left_by, brought_by, StandsInTail, IsTailOn, IsTailFrom, IsInTail}
use Rattle.avc_tools.specs.declared.cutter.CutPhase.TheVariants as phases

-- ---- one unit

-- where the tail has not begun
one_by : (left : ℕ) (before : List Unit) (u : Unit) (b : Bool) (now : Cutter) (piece more : List ℕ) → is_start u ≡ b → IsCutOn (waiting left before) (next (waiting left before) u) now piece more
    → IsTailOn (Some left) before (u ∷ []) now piece more
one_by zero before u true now piece more e on =
    let at : IsCutOn (waiting zero before) (writing before u []) now piece more =
    subst (λ b. IsCutOn (waiting zero before) (if b then writing before u [] else waiting zero (before ++ u ∷ [])) now piece more) e on in
    record {
      stands = subst (λ b. StandsInTail (if b then None else Some zero) (before ++ u ∷ []) now) (sym e) at.stands.phase;
      written_on = at.written_on ∙ ap (λ l. piece ++ l) (sym at.defined ∙ ap (λ b. flat_map written (if b then units_from before u [] else [])) (sym e));
    }
one_by zero before u false now piece more e on =
    let at : IsCutOn (waiting zero before) (waiting zero (before ++ u ∷ [])) now piece more =
    subst (λ b. IsCutOn (waiting zero before) (if b then writing before u [] else waiting zero (before ++ u ∷ [])) now piece more) e on in
    record {
      stands = subst (λ b. StandsInTail (if b then None else Some zero) (before ++ u ∷ []) now) (sym e) at.stands;
      written_on = at.written_on ∙ ap (λ l. piece ++ l) (sym at.defined ∙ ap (λ b. flat_map written (if b then units_from before u [] else [])) (sym e));
    }
one_by (suc left) before u true now piece more e on =
    let at : IsCutOn (waiting (suc left) before) (waiting left (before ++ u ∷ [])) now piece more =
    subst (λ b. IsCutOn (waiting (suc left) before) (if b then waiting left (before ++ u ∷ []) else waiting (suc left) (before ++ u ∷ [])) now piece more) e on in
    record {
      stands = subst (λ b. StandsInTail (Some (if b then left else suc left)) (before ++ u ∷ []) now) (sym e) at.stands;
      written_on = at.written_on ∙ ap (λ l. piece ++ l) (sym at.defined);
    }
one_by (suc left) before u false now piece more e on =
    let at : IsCutOn (waiting (suc left) before) (waiting (suc left) (before ++ u ∷ [])) now piece more =
    subst (λ b. IsCutOn (waiting (suc left) before) (if b then waiting left (before ++ u ∷ []) else waiting (suc left) (before ++ u ∷ [])) now piece more) e on in
    record {
      stands = subst (λ b. StandsInTail (Some (if b then left else suc left)) (before ++ u ∷ []) now) (sym e) at.stands;
      written_on = at.written_on ∙ ap (λ l. piece ++ l) (sym at.defined);
    }

no_both : (x : CutPhase) → x ≡ phases.Waiting → x ≡ phases.Writing → ⊥
no_both x a b = grind arith

waits_by : (left : Option ℕ) (before : List Unit) (c now : Cutter) (u : Unit) (piece more : List ℕ) → c.phase ≡ phases.Waiting → StandsInTail left before c
    → ((s : Stage) → StandsAt s c → IsCutOn s (next s u) now piece more) → IsTailOn left before (u ∷ []) now piece more
waits_by (Some left) before c now u piece more is h step = one_by left before u (is_start u) now piece more refl (step (waiting left before) h)
waits_by None before c now u piece more is h step = absurd (no_both c.phase is h)

pub waits_in_tail : {T E : Type 0} (c now : Cutter) (u : Unit) (piece more : List ℕ) (r : Result T E) → c.phase ≡ phases.Waiting
    → OnOk r ((s : Stage) → StandsAt s c → IsCutOn s (next s u) now piece more) → OnOk r (IsTailFrom c now piece more (u ∷ []))
waits_in_tail c now u piece more r is step = on_ok r (λ on left before h. waits_by left before c now u piece more is h on) step

no_waiting : (x : CutPhase) → x ≡ phases.Waiting → (x ≡ phases.Writing) ⊎ (x ≡ phases.Over) → ⊥
no_waiting x a b = grind arith

goes_by : (left : Option ℕ) (before : List Unit) (c : Cutter) (u : Unit) (piece more : List ℕ) → (c.phase ≡ phases.Writing) ⊎ (c.phase ≡ phases.Over) → StandsInTail left before c
    → more ≡ piece ++ written u → IsTailOn left before (u ∷ []) c piece more
goes_by (Some left) before c u piece more is h added = absurd (no_waiting c.phase h.phase is)
goes_by None before c u piece more is h added = record { stands = h; written_on = added ∙ ap (λ l. piece ++ l) (sym (append-nil (written u))) }

-- where it has
pub goes_on_in_tail : {T E : Type 0} (c : Cutter) (u : Unit) (piece more : List ℕ) (r : Result T E) → (c.phase ≡ phases.Writing) ⊎ (c.phase ≡ phases.Over)
    → OnOk r (more ≡ piece ++ written u) → OnOk r (IsTailFrom c c piece more (u ∷ []))
goes_on_in_tail c u piece more r is step = on_ok r (λ added left before h. goes_by left before c u piece more is h added) step

-- ---- unit by unit

still_left-append : (left : ℕ) (us vs : List Unit) → still_left left (us ++ vs) ≡ left_by (still_left left us) vs
still_left-append left [] vs = refl
still_left-append zero (u ∷ us) vs = by (is_start u) (still_left-append zero us vs)
  where
    by : (b : Bool) → still_left zero (us ++ vs) ≡ left_by (still_left zero us) vs
        → (if b then None else still_left zero (us ++ vs)) ≡ left_by (if b then None else still_left zero us) vs
    by true later = refl
    by false later = later
still_left-append (suc left) (u ∷ us) vs = still_left-append (if is_start u then left else suc left) us vs

left_by-append : (left : Option ℕ) (us vs : List Unit) → left_by left (us ++ vs) ≡ left_by (left_by left us) vs
left_by-append (Some left) us vs = still_left-append left us vs
left_by-append None us vs = refl

begun-append : (before : List Unit) (u : Unit) (us vs : List Unit) → units_from before u (us ++ vs) ≡ units_from before u us ++ vs
begun-append before u us vs = sym (append_assoc (sets_in_force before ++ filter leads (after_slices before)) (u ∷ us) vs)

tail-append : (left : ℕ) (before us vs : List Unit) → tail_from left before (us ++ vs) ≡ tail_from left before us ++ brought_by (still_left left us) (before ++ us) vs
tail-append left before [] vs = ap (λ l. tail_from left l vs) (sym (append-nil before))
tail-append zero before (u ∷ us) vs = by (is_start u) (tail-append zero (before ++ u ∷ []) us vs)
  where
    by : (b : Bool) → tail_from zero (before ++ u ∷ []) (us ++ vs) ≡ tail_from zero (before ++ u ∷ []) us ++ brought_by (still_left zero us) ((before ++ u ∷ []) ++ us) vs
        → (if b then units_from before u (us ++ vs) else tail_from zero (before ++ u ∷ []) (us ++ vs))
        ≡ (if b then units_from before u us else tail_from zero (before ++ u ∷ []) us) ++ brought_by (if b then None else still_left zero us) (before ++ u ∷ us) vs
    by true later = begun-append before u us vs
    by false later = later ∙ ap (λ l. tail_from zero (before ++ u ∷ []) us ++ brought_by (still_left zero us) l vs) (append_assoc before (u ∷ []) us)
tail-append (suc left) before (u ∷ us) vs =
    let then_left = if is_start u then left else suc left in
    tail-append then_left (before ++ u ∷ []) us vs
    ∙ ap (λ l. tail_from then_left (before ++ u ∷ []) us ++ brought_by (still_left then_left us) l vs) (append_assoc before (u ∷ []) us)

brought-append : (left : Option ℕ) (before us vs : List Unit) → brought_by left before (us ++ vs) ≡ brought_by left before us ++ brought_by (left_by left us) (before ++ us) vs
brought-append (Some left) before us vs = tail-append left before us vs
brought-append None before us vs = refl

written-append : (left : Option ℕ) (before us vs : List Unit) → flat_map written (brought_by left before (us ++ vs))
    ≡ flat_map written (brought_by left before us) ++ flat_map written (brought_by (left_by left us) (before ++ us) vs)
written-append left before us vs =
    ap (flat_map written) (brought-append left before us vs) ∙ flat_map-append written (brought_by left before us) (brought_by (left_by left us) (before ++ us) vs)

none_by : (left : Option ℕ) (before : List Unit) (c : Cutter) (text : List ℕ) → text ≡ [] → StandsInTail left before c → IsTailOn left before [] c [] text
none_by (Some left) before c text none h = record { stands = subst (λ l. StandsInTail (Some left) l c) (sym (append-nil before)) h; written_on = none }
none_by None before c text none h = record { stands = h; written_on = none }

pub tail_none : (c : Cutter) (text : List ℕ) → text ≡ [] → IsTailFrom c c [] text []
tail_none c text none = λ left before h. none_by left before c text none h

pub tail_more : (old mid now : Cutter) (text more : List ℕ) (u : Unit) → IsTailFrom mid now text more (u ∷ []) → (done : List Unit) → IsTailFrom old mid [] text done
    → IsTailFrom old now [] more (done ++ u ∷ [])
tail_more old mid now text more u step done i = λ left before h.
    let first = i left before h in
    let second = step (left_by left done) (before ++ done) first.stands in
    record {
      stands =
          subst (λ l. StandsInTail l (before ++ (done ++ u ∷ [])) now) (sym (left_by-append left done (u ∷ [])))
          (subst (λ l. StandsInTail (left_by (left_by left done) (u ∷ [])) l now) (append_assoc before done (u ∷ [])) second.stands);
      written_on = second.written_on ∙ ap (λ l. l ++ flat_map written (brought_by (left_by left done) (before ++ done) (u ∷ []))) first.written_on ∙ sym (written-append left before done (u ∷ []));
    }

-- ---- once more has come

pub in_tail_again : (max number : ℕ) (old mid new : SplitterState) (c now : Cutter) (added : List ℕ) → IsInTail max number old c → AreLeft max old mid → new ≡ after_units_left max mid
    → IsTailFrom c now [] added (units_left max mid) → IsInTail max number new now
in_tail_again max number old mid new c now added h left is from =
    let before = units max old.bytes old.ended in
    let on = from (still_left number before) before h.stands in
    let all : before ++ units_left max mid ≡ units max new.bytes new.ended = sym left.all ∙ ap (λ (s : SplitterState). units max s.bytes s.ended) (sym is) in
    record {
      drained = drained max old mid new left is;
      stands =
          subst (λ us. StandsInTail (still_left number us) us now) all
          (subst (λ l. StandsInTail l (before ++ units_left max mid) now) (sym (still_left-append number before (units_left max mid))) on.stands);
    }

-- What units that come to others bring comes behind theirs.
tail_text_behind : (max number : ℕ) (bytes front : List ℕ) (ended front_ended : Bool) (others : List Unit) → length bytes ≤ max → length front ≤ max
    → units max bytes ended ≡ units max front front_ended ++ others
    → tail_text number bytes ended ≡ tail_text number front front_ended
    ++ flat_map written (brought_by (still_left number (units max front front_ended)) (units max front front_ended) others)
tail_text_behind max number bytes front ended front_ended others short front_short is =
    let us = units max front front_ended in
    ap (λ vs. flat_map written (tail_from number [] vs)) (sym (whole_units max bytes ended short) ∙ is)
    ∙ written-append (Some number) [] us others
    ∙ ap (λ vs. flat_map written (tail_from number [] vs) ++ flat_map written (brought_by (still_left number us) us others)) (whole_units max front front_ended front_short)

pub tail_added : (max number : ℕ) (old mid new : SplitterState) (c now : Cutter) (added : List ℕ) → IsInTail max number old c → AreLeft max old mid → new ≡ after_units_left max mid
    → IsTailFrom c now [] added (units_left max mid) → length new.bytes ≤ max → tail_text number new.bytes new.ended ≡ tail_text number old.bytes old.ended ++ added
tail_added max number old mid new c now added h left is from short =
    let before = units max old.bytes old.ended in
    let on = from (still_left number before) before h.stands in
    let same : length new.bytes ≡ length mid.bytes = ap (λ (s : SplitterState). length s.bytes) is in
    ap (λ (s : SplitterState). tail_text number s.bytes s.ended) is
    ∙ tail_text_behind max number mid.bytes old.bytes mid.ended old.ended (units_left max mid) (omega (arith, short, same)) (omega (arith, short, same, left.no_fewer)) left.all
    ∙ ap (λ l. tail_text number old.bytes old.ended ++ l) (sym on.written_on)

pub tail_text_grows : UnitsStay → (number : ℕ) → OnlyGrows (tail_text number)
tail_text_grows stay number bytes more ended short =
    let later = stay (2 ^ 64) bytes more ended in
    (_, tail_text_behind (2 ^ 64) number (bytes ++ more) bytes ended false later.0 (omega (arith, short)) (omega (arith, short, length-append bytes more)) later.1)

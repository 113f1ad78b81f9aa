-- A stream whose events are taken one by one.
pub mod Common
unfoldable pub use Common.*

-- ---- the next event

-- the item right behind a list
at_seam : {A : Type 0} (front : List A) (x : A) (rest : List A) → slice_get (front ++ x ∷ rest) (length front) ≡ Some x
at_seam [] x rest = refl
at_seam (y ∷ front) x rest = at_seam front x rest

past_end : {A : Type 0} (xs : List A) → slice_get xs (length xs) ≡ None
past_end [] = refl
past_end (x ∷ xs) = past_end xs

-- what is left begins with the next event
begins_with : {A : Type 0} (front rest : List A) (e : A) → slice_get (front ++ rest) (length front) ≡ Some e → (others : List A) × (rest ≡ e ∷ others)
begins_with front [] e is =
    let none : Some e ≡ None = sym is ∙ ap (λ xs. slice_get xs (length front)) (append-nil front) ∙ past_end front in absurd (cc)
begins_with front (x ∷ rest) e is =
    let same : Some x ≡ Some e = sym (at_seam front x rest) ∙ is in
    let first : x ≡ e = cc in (rest, ap (λ y. y ∷ rest) first)

nothing_left : {A : Type 0} (front rest : List A) → slice_get (front ++ rest) (length front) ≡ None → rest ≡ []
nothing_left front [] is = refl
nothing_left front (x ∷ rest) is = let some : Some x ≡ None = sym (at_seam front x rest) ∙ is in absurd (cc)

-- where the next event stands
next_at : (output : Output) (unread left : Option (List ℕ)) (m : Machine) (a : Waiting) (done : List Event) (i : IsReading output unread left m a done) →
    slice_get (done ++ i.rest) (length done) ≡ next_event max_unit m
next_at output unread left m a done i = ap (λ es. slice_get es (length done)) (sym i.parts) ∙ ap (λ n. slice_get (events_defined m) n) (sym i.taken)

pub taken : (output : Output) (unread left : Option (List ℕ)) (m m' : Machine) (a : Waiting) (done : List Event) (e : Event) → Some e ≡ next_event max_unit m → m' ≡ after_take (Some e) m
    → IsReading output unread left m a done → IsReading output unread left m' a (done ++ e ∷ [])
taken output unread left m m' a done e next now i =
    let split = begins_with done i.rest e (next_at output unread left m a done i ∙ sym next) in
    subst (λ (n : Machine). IsReading output unread left n a (done ++ e ∷ [])) (sym now) (record {
      mode = i.mode;
      consumed = i.consumed;
      ended = i.ended;
      at_end = i.at_end;
      rest = split.0;
      parts = i.parts ∙ ap (λ es. done ++ es) split.1 ∙ sym (append_assoc done (e ∷ []) split.0);
      taken = ap (λ n. n + 1) i.taken ∙ sym (length-append done (e ∷ []));
    })

none_left : (output : Output) (unread left : Option (List ℕ)) (m : Machine) (a : Waiting) (done : List Event) → None ≡ next_event max_unit m → IsReading output unread left m a done
    → events_defined m ≡ done
none_left output unread left m a done none i =
    let no_more = nothing_left done i.rest (next_at output unread left m a done i ∙ sym none) in
    i.parts ∙ ap (λ es. done ++ es) no_more ∙ append-nil done

-- all were taken
pub all_taken : (output : Output) (unread left : Option (List ℕ)) (m m' : Machine) (a : Waiting) (done : List Event) → None ≡ next_event max_unit m → m' ≡ m → a.ended ≡ true
    → IsReading output unread left m a done → HasRead unread left m'.bytes true × (events output max_unit m'.bytes true ≡ done)
all_taken output unread left m m' a done none same over i =
    let last = i.at_end over in
    let fed : m.bytes ++ a.bytes ≡ m.bytes = ap (λ bs. m.bytes ++ bs) last.0 ∙ append-nil m.bytes in
    let all : events output max_unit m.bytes true ≡ done =
    ap (λ o. events o max_unit m.bytes true) (sym i.mode) ∙ ap (λ b. events m.output max_unit m.bytes b) (sym (i.ended ∙ over)) ∙ none_left output unread left m a done none i in
    subst (λ (n : Machine). HasRead unread left n.bytes true × (events output max_unit n.bytes true ≡ done)) (sym same)
    (record { consumed = subst (Consumes unread left) fed i.consumed; whole = λ is. last.1 }, all)

pub next_taken : (l : Option (List ℕ)) (m m' : Machine) (a : Waiting) (event : Option Event) → event ≡ next_event max_unit m → m' ≡ after_take event m → (event ≡ None → a.ended ≡ true)
    → TakesNext l l m m' a a event
next_taken l m m' a (Some e) next now over = record { on = λ output unread done i. taken output unread l m m' a done e next now i }
next_taken l m m' a None next now over = record { on = λ output unread done i. all_taken output unread l m m' a done next now (over refl) i }

-- a picture that was taken is whole
pub whole_if_any : PicturesAreWhole → (m : Machine) (event : Option Event) → event ≡ next_event max_unit m → IsWholeIfAny event
whole_if_any whole m None next = tt
whole_if_any whole m (Some (Picture p)) next = whole m.output max_unit m.bytes m.ended m.taken p (sym next)
whole_if_any whole m (Some (Refused unit f)) next = tt

-- ---- one after another

pub reads_then : (l0 l1 l2 : Option (List ℕ)) (m0 m1 m2 : Machine) (a0 a1 a2 : Waiting) → ReadsOn l0 l1 m0 m1 a0 a1 → ReadsOn l1 l2 m1 m2 a1 a2 → ReadsOn l0 l2 m0 m2 a0 a2
reads_then l0 l1 l2 m0 m1 m2 a0 a1 a2 first second = record { on = λ output unread done i. second.on output unread done (first.on output unread done i) }

pub reads_same : (l : Option (List ℕ)) (m m' : Machine) (a : Waiting) → m' ≡ m → ReadsOn l l m m' a a
reads_same l m m' a same = record { on = λ output unread done i. subst (λ (n : Machine). IsReading output unread l n a done) (sym same) i }

pub takes_then : (l0 l1 l2 : Option (List ℕ)) (m0 m1 m2 : Machine) (a0 a1 a2 : Waiting) (event : Option Event) → ReadsOn l0 l1 m0 m1 a0 a1 → TakesNext l1 l2 m1 m2 a1 a2 event → TakesNext l0 l2 m0 m2 a0 a2 event
takes_then l0 l1 l2 m0 m1 m2 a0 a1 a2 event first second = record { on = λ output unread done i. second.on output unread done (first.on output unread done i) }

pub breaks_then : (l0 l1 l2 : Option (List ℕ)) (m0 m1 : Machine) (a0 a1 : Waiting) (fault : RunFault) → ReadsOn l0 l1 m0 m1 a0 a1 → BreaksReading l1 l2 m1 a1 fault → BreaksReading l0 l2 m0 a0 fault
breaks_then l0 l1 l2 m0 m1 a0 a1 fault first second = record { on = λ output unread done i. second.on output unread done (first.on output unread done i) }

-- ---- reading on

-- more bytes wait
pub filled : (l l' : Option (List ℕ)) (m : Machine) (a a' : Waiting) → a.ended ≡ false → Fills l l' a a' → ReadsOn l l' m m a a'
filled l l' m a a' open_end f = record {
  on = λ output unread done i. record {
    mode = i.mode;
    consumed = subst (Consumes unread l') (append_assoc m.bytes a.bytes f.more ∙ ap (λ bs. m.bytes ++ bs) (sym f.bytes)) (Consumes-trans unread l l' (m.bytes ++ a.bytes) f.more i.consumed f.consumed);
    ended = i.ended ∙ sym f.ended;
    at_end = λ over. let not : true ≡ false = sym over ∙ f.ended ∙ open_end in absurd (cc);
    rest = i.rest;
    parts = i.parts;
    taken = i.taken;
  };
}

-- the events that come by more bytes, or by the end
more_come : EventsOnlyGrow → (m : Machine) (more : List ℕ) (ended : Bool) (done rest : List Event) → m.ended ≡ false → events_defined m ≡ done ++ rest
    → (others : List Event) × (events m.output max_unit (m.bytes ++ more) ended ≡ done ++ others)
more_come grow m more ended done rest open_end parts =
    let later = grow m.output max_unit m.bytes more ended in
    let before : events m.output max_unit m.bytes false ≡ done ++ rest = ap (λ b. events m.output max_unit m.bytes b) (sym open_end) ∙ parts in
    (rest ++ later.0, later.1 ∙ ap (λ es. es ++ later.0) before ∙ append_assoc done rest later.0)

-- a unit was fed
pub fed : EventsOnlyGrow → (l : Option (List ℕ)) (m m' : Machine) (a a' : Waiting) (used : ℕ) → a.ended ≡ false → m' ≡ after_feed (take used a.bytes) m → a' ≡ record a { bytes = drop used a.bytes }
    → ReadsOn l l m m' a a'
fed grow l m m' a a' used open_end now left = record {
  on = λ output unread done i.
      let more = more_come grow m (take used a.bytes) m.ended done i.rest (i.ended ∙ open_end) i.parts in
      subst (λ (n : Machine). IsReading output unread l n a' done) (sym now) (subst (λ (b : Waiting). IsReading output unread l (after_feed (take used a.bytes) m) b done) (sym left) (record {
        mode = i.mode;
        consumed = subst (Consumes unread l) (sym (append_assoc m.bytes (take used a.bytes) (drop used a.bytes) ∙ ap (λ bs. m.bytes ++ bs) (take-append-drop used a.bytes))) i.consumed;
        ended = i.ended;
        at_end = λ over. let not : true ≡ false = sym over ∙ open_end in absurd (cc);
        rest = more.0;
        parts = more.1;
        taken = i.taken;
      }));
}

-- the stream was ended
pub flushed : EventsOnlyGrow → (l : Option (List ℕ)) (m m' : Machine) (a a' : Waiting) → a.ended ≡ false → a.bytes ≡ [] → IsAtEnd l → m' ≡ after_flush m → a' ≡ record a { ended = true }
    → ReadsOn l l m m' a a'
flushed grow l m m' a a' open_end none last now over = record {
  on = λ output unread done i.
      let more = more_come grow m [] true done i.rest (i.ended ∙ open_end) i.parts in
      let same : events m.output max_unit m.bytes true ≡ events m.output max_unit (m.bytes ++ []) true = ap (λ bs. events m.output max_unit bs true) (sym (append-nil m.bytes)) in
      subst (λ (n : Machine). IsReading output unread l n a' done) (sym now) (subst (λ (b : Waiting). IsReading output unread l (after_flush m) b done) (sym over) (record {
        mode = i.mode;
        consumed = i.consumed;
        ended = refl;
        at_end = λ is. (none, last);
        rest = more.0;
        parts = same ∙ more.1;
        taken = i.taken;
      }));
}

-- ---- faults

-- all bytes that were read define events of which the first were taken
pub left_over : EventsOnlyGrow → (output : Output) (unread left : Option (List ℕ)) (m : Machine) (a : Waiting) (done : List Event) → IsReading output unread left m a done
    → (rest : List Event) × HasRead unread left (m.bytes ++ a.bytes) m.ended × (events output max_unit (m.bytes ++ a.bytes) m.ended ≡ done ++ rest)
left_over grow output unread left m a done i = by m.ended refl
  where
    here : HasRead unread left (m.bytes ++ a.bytes) m.ended
    here = record { consumed = i.consumed; whole = λ is. (i.at_end (sym i.ended ∙ is)).1 }

    by : (b : Bool) → m.ended ≡ b → (rest : List Event) × HasRead unread left (m.bytes ++ a.bytes) m.ended × (events output max_unit (m.bytes ++ a.bytes) m.ended ≡ done ++ rest)
    by true over =
        let fed : m.bytes ++ a.bytes ≡ m.bytes = ap (λ bs. m.bytes ++ bs) (i.at_end (sym i.ended ∙ over)).0 ∙ append-nil m.bytes in
        (i.rest, here, ap (λ bs. events output max_unit bs m.ended) fed ∙ ap (λ o. events o max_unit m.bytes m.ended) (sym i.mode) ∙ i.parts)
    by false over =
        let more = more_come grow m a.bytes m.ended done i.rest over i.parts in
        (more.0, here, ap (λ o. events o max_unit (m.bytes ++ a.bytes) m.ended) (sym i.mode) ∙ more.1)

-- memory was refused
pub no_memory : EventsOnlyGrow → (l : Option (List ℕ)) (m : Machine) (a : Waiting) (fault : RunFault) → fault ≡ Memory → BreaksReading l l m a fault
no_memory grow l m a fault is = record {
  on = λ output unread done i.
      let left = left_over grow output unread l m a done i in
      record { bytes = m.bytes ++ a.bytes; all = m.ended; rest = left.0; read = left.1; parts = left.2; why = subst (λ f. StopsFor f (m.bytes ++ a.bytes) left.0) (sym is) tt };
}

-- there were so many bytes
pub endless : EventsOnlyGrow → (l : Option (List ℕ)) (m : Machine) (a : Waiting) → 2 ^ 32 ≤ length m.bytes → BreaksReading l l m a Endless
endless grow l m a many = record {
  on = λ output unread done i.
      let left = left_over grow output unread l m a done i in
      record { bytes = m.bytes ++ a.bytes; all = m.ended; rest = left.0; read = left.1; parts = left.2; why = omega (arith, many, length-append m.bytes a.bytes) };
}

-- a read failed
pub not_read : (l l' : Option (List ℕ)) (m : Machine) (a : Waiting) (fault : RunFault) → fault ≡ Read → Keeps l l' → a.ended ≡ false → a.bytes ≡ [] → None ≡ next_event max_unit m
    → BreaksReading l l' m a fault
not_read l l' m a fault is kept open_end nothing none = record {
  on = λ output unread done i.
      let fed : m.bytes ++ a.bytes ≡ m.bytes = ap (λ bs. m.bytes ++ bs) nothing ∙ append-nil m.bytes in
      let all : events output max_unit m.bytes false ≡ done =
      ap (λ o. events o max_unit m.bytes false) (sym i.mode) ∙ ap (λ b. events m.output max_unit m.bytes b) (sym (i.ended ∙ open_end)) ∙ none_left output unread l m a done none i in
      record {
        bytes = m.bytes;
        all = false;
        rest = [];
        read = record { consumed = Consumes-kept unread l l' m.bytes (subst (Consumes unread l) fed i.consumed) kept; whole = λ over. cc };
        parts = all ∙ sym (append-nil done);
        why = subst (λ f. StopsFor f m.bytes []) (sym is) refl;
      };
}

-- the last event, or none, once the stream has ended
pub last_taken : (l0 l : Option (List ℕ)) (m0 m m' : Machine) (a0 a : Waiting) (r : Result (Option Event) RunFault) → IfOk r (λ event. event ≡ next_event max_unit m) → IfOk r (λ event. m' ≡ after_take event m)
    → a.ended ≡ true → ReadsOn l0 l m0 m a0 a → IfOk r (λ event. TakesNext l0 l m0 m' a0 a event)
last_taken l0 l m0 m m' a0 a (Ok event) next now over on = takes_then l0 l l m0 m m' a0 a a event on (next_taken l m m' a event next now (λ none. over))
last_taken l0 l m0 m m' a0 a (Err fault) next now over on = tt

pub last_broken : EventsOnlyGrow → (l0 l : Option (List ℕ)) (m0 m : Machine) (a0 a : Waiting) (r : Result (Option Event) RunFault) → IfErr r (λ fault. fault ≡ Memory) → ReadsOn l0 l m0 m a0 a
    → IfErr r (λ fault. BreaksReading l0 l m0 a0 fault)
last_broken grow l0 l m0 m a0 a (Ok event) memory on = tt
last_broken grow l0 l m0 m a0 a (Err fault) memory on = breaks_then l0 l l m0 m a0 a fault on (no_memory grow l m a fault memory)

-- ---- what waits

abbrev waiting : List ℕ → Bool → Waiting
waiting bytes ended = record { bytes = bytes; ended = ended }

-- without its first bytes
pub dropped : (xs : List ℕ) (start stop used : ℕ) (ended : Bool) (w : Waiting) → waiting (slice_range xs start stop) ended ≡ w → used ≤ length w.bytes
    → waiting (slice_range xs (start + used) stop) ended ≡ waiting (drop used w.bytes) w.ended
dropped xs start stop used ended w is some =
    let long : length w.bytes ≡ min (stop - start) (length (drop start xs)) = ap (λ (v : Waiting). length v.bytes) (sym is) ∙ length-take (stop - start) (drop start xs) in
    let fits : used ≡ min used (stop - start) = omega (arith, some, long) in
    let fewer : stop - (start + used) ≡ stop - start - used = omega arith in
    let bytes : slice_range xs (start + used) stop ≡ drop used (slice_range xs start stop) =
    ap (λ n. take n (drop (start + used) xs)) fewer ∙ ap (λ l. take (stop - start - used) l) (sym (drop-drop used start xs ∙ ap (λ n. drop n xs) (omega arith)))
    ∙ sym (drop-take_min (drop start xs) (stop - start) used used fits) in
    ap (λ bs. waiting bs ended) bytes ∙ ap (λ (v : Waiting). waiting (drop used v.bytes) v.ended) is

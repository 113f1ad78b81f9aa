-- Events that are taken one after another.
pub mod Common
unfoldable pub use Common.*

-- ---- lists of events

pub written-append : (f : Format) (n : ℕ) (a b : List Event) → written_from f n (a ++ b) ≡ written_from f n a ++ written_from f (pictures_after n a) b
written-append f n [] b = refl
written-append f n (Picture p ∷ a) b =
    let k = saturated (n + 1) in
    ap (λ bs. f.text n p ++ bs) (written-append f k a b) ∙ sym (append_assoc (f.text n p) (written_from f k a) (written_from f (pictures_after k a) b))
written-append f n (Refused unit x ∷ a) b = written-append f n a b

after-append : (n : ℕ) (a b : List Event) → pictures_after n (a ++ b) ≡ pictures_after (pictures_after n a) b
after-append n [] b = refl
after-append n (Picture p ∷ a) b = after-append (saturated (n + 1)) a b
after-append n (Refused unit x ∷ a) b = after-append n a b

-- the number of pictures that a report has
pub pictures_now : (r : Report) (a : List Event) → (report_with r a).pictures ≡ pictures_after r.pictures a
pictures_now r [] = refl
pictures_now r (Picture p ∷ a) = pictures_now (record r { pictures = saturated (r.pictures + 1) }) a
pictures_now r (Refused unit f ∷ a) = pictures_now (record r { refused = r.refused ++ (unit, f) ∷ [] }) a

pub number_after : (r r' : Report) (a : List Event) → r' ≡ report_with r a → r'.pictures ≡ pictures_after r.pictures a
number_after r r' a is = ap (λ q. q.pictures) is ∙ pictures_now r a

-- what was written behind other events
fit-append : (f : Format) (n : ℕ) (a b : List Event) → AllFit f n a → AllFit f (pictures_after n a) b → AllFit f n (a ++ b)
fit-append f n [] b first later = later
fit-append f n (Picture p ∷ a) b first later = (first.0, fit-append f (saturated (n + 1)) a b first.1 later)
fit-append f n (Refused unit x ∷ a) b first later = fit-append f n a b first later

pub behind : (f : Format) (r r' : Report) (w0 w w' : Option (List ℕ)) (a b : List Event) → r' ≡ report_with r a → IsWritten f r.pictures w0 w a
    → IsWritten f r'.pictures w w' b → IsWritten f r.pictures w0 w' (a ++ b)
behind f r r' w0 w w' a b told before more =
    let here = subst (λ n. IsWritten f n w w' b) (number_after r r' a told) more in
    record {
      fit = fit-append f r.pictures a b before.fit here.fit;
      text =
          subst (Appends w0 w') (sym (written-append f r.pictures a b))
          (Appends-trans w0 w w' (written_from f r.pictures a) (written_from f (pictures_after r.pictures a) b) before.text here.text);
    }

-- ---- the next one

drop_none : {A : Type 0} (xs : List A) (k : ℕ) → slice_get xs k ≡ None → drop k xs ≡ []
drop_none [] k e = drop-nil k
drop_none (x ∷ xs) zero e = cc
drop_none (x ∷ xs) (suc k) e = drop_none xs k e

-- ---- one event more

-- where an event is taken
due_next : (d : Machine) (e : Event) → Some e ≡ next_event max_unit d → events_left d ≡ e ∷ events_left (after_take (Some e) d)
due_next d e is =
    let all = events_defined d in
    drop_more all d.taken e (slice_get_within all d.taken e (sym is)) ∙ ap (λ y. y ∷ drop (d.taken + 1) all) (get_or_from_slice_get all d.taken e e (sym is))

pub begun : (f : Format) (d : Machine) (r : Report) (held : Option (List ℕ)) → Appends held held [] → IsDraining f d d r r held held
begun f d r holds nothing = record { done = []; rest = refl; machine = ap (λ k. record d { taken = k }) (omega arith); report = refl; written = record { fit = tt; text = nothing } }

pub one_more : (f : Format) (d0 d d' : Machine) (r0 r r' : Report) (w0 w w' : Option (List ℕ)) (e : Event)
    → Some e ≡ next_event max_unit d → d' ≡ after_take (Some e) d → r' ≡ report_with r (e ∷ []) → IsWritten f r.pictures w w' (e ∷ [])
    → IsDraining f d0 d r0 r w0 w → IsDraining f d0 d' r0 r' w0 w'
one_more f d0 d d' r0 r r' w0 w w' e next taken told wrote i =
    let after = i.done ++ e ∷ [] in
    let count : length after ≡ length i.done + 1 = length-append i.done (e ∷ []) in
    let more : (d0.taken + length i.done) + 1 ≡ d0.taken + length after = omega (arith, count) in
    record {
      done = after;
      rest = i.rest ∙ ap (λ es. i.done ++ es) (due_next d e next ∙ ap (λ m. e ∷ events_left m) (sym taken)) ∙ sym (append_assoc i.done (e ∷ []) (events_left d'));
      machine = taken ∙ ap (λ m. after_take (Some e) m) i.machine ∙ ap (λ k. record d0 { taken = k }) more;
      report = told ∙ ap (λ q. report_with q (e ∷ [])) i.report ∙ sym (report_with-append r0 i.done (e ∷ []));
      written = behind f r0 r w0 w w' i.done (e ∷ []) i.report i.written wrote;
    }

-- ---- the end

-- all that were due are done
all_done : (f : Format) (d0 d : Machine) (r0 r : Report) (w0 w : Option (List ℕ)) → None ≡ next_event max_unit d → (i : IsDraining f d0 d r0 r w0 w) → i.done ≡ events_left d0
all_done f d0 d r0 r w0 w none i = sym (i.rest ∙ ap (λ es. i.done ++ es) (drop_none (events_defined d) d.taken (sym none)) ∙ append-nil i.done)

pub handled : (f : Format) (d0 d d' : Machine) (r0 r : Report) (w0 w : Option (List ℕ)) → None ≡ next_event max_unit d → d' ≡ d → IsDraining f d0 d r0 r w0 w → IsHandled f d0 d' r0 r w0 w
handled f d0 d d' r0 r w0 w none same i =
    let all = all_done f d0 d r0 r w0 w none i in
    record {
      machine = same ∙ i.machine ∙ ap (λ es. record d0 { taken = d0.taken + length es }) all;
      report = i.report ∙ ap (λ es. report_with r0 es) all;
      written = subst (λ es. IsWritten f r0.pictures w0 w es) all i.written;
    }

-- ---- a fault

-- behind what was written before, and before what would have followed
stops_on : (f : Format) (n : ℕ) (fault : RunFault) (w0 w w' : Option (List ℕ)) (x text : List ℕ) (rest c : List Event) → Appends w0 w x
    → StopsAt f n fault w w' text rest → StopsAt f n fault w0 w' (x ++ text) (rest ++ c)
stops_on f n Memory w0 w w' x text rest c all some = Appends-trans w0 w w' x text all some
stops_on f n Write w0 w w' x text [] c all some = absurd some
stops_on f n Write w0 w w' x text (Refused unit e ∷ rest) c all some = absurd some
stops_on f n Write w0 w w' x text (Picture p ∷ rest) c all (fits, some) =
    let more = take some.count (f.text n p) in (
      fits,
      record {
        count = some.count;
        fewer = some.fewer;
        written = subst (Appends w0 w') (sym (append_assoc x text more)) (Appends-trans w0 w w' x (text ++ more) all some.written);
      },
    )
stops_on f n Size w0 w w' x text [] c all some = absurd some
stops_on f n Size w0 w w' x text (Refused unit e ∷ rest) c all some = absurd some
stops_on f n Size w0 w w' x text (Picture p ∷ rest) c all some = (some.0, Appends-trans w0 w w' x text all some.1)
stops_on f n Read w0 w w' x text rest c all some = absurd some
stops_on f n Endless w0 w w' x text rest c all some = absurd some

-- a fault in b, after all of a and before c
pub breaks_behind : (f : Format) (r r' r'' : Report) (fault : RunFault) (w0 w w' : Option (List ℕ)) (a b c : List Event) → r' ≡ report_with r a
    → IsWritten f r.pictures w0 w a → BreaksOffFrom f r' r'' fault w w' b → BreaksOffFrom f r r'' fault w0 w' (a ++ (b ++ c))
breaks_behind f r r' r'' fault w0 w w' a b c told all some =
    let n = r.pictures in
    let m = pictures_after n a in
    let text = written_from f n a ++ written_from f m some.front in
    let here = subst (λ k. StopsAt f (pictures_after k some.front) fault w w' (written_from f k some.front) some.rest) (number_after r r' a told) some.stops in
    let later = stops_on f (pictures_after m some.front) fault w0 w w' (written_from f n a) (written_from f m some.front) some.rest c all.text here in
    let number = subst (λ k. StopsAt f k fault w0 w' text (some.rest ++ c)) (sym (after-append n a some.front)) later in
    record {
      front = a ++ some.front;
      rest = some.rest ++ c;
      parts = ap (λ es. a ++ es) (ap (λ es. es ++ c) some.parts ∙ append_assoc some.front some.rest c) ∙ sym (append_assoc a some.front (some.rest ++ c));
      fit = fit-append f n a some.front all.fit (subst (λ k. AllFit f k some.front) (number_after r r' a told) some.fit);
      report = some.report ∙ ap (λ q. report_with q some.front) told ∙ sym (report_with-append r a some.front);
      stops = subst (λ t. StopsAt f (pictures_after n (a ++ some.front)) fault w0 w' t (some.rest ++ c)) (sym (written-append f n a some.front)) number;
    }

-- before an event was taken
pub stopped : (f : Format) (fault : RunFault) (d0 d : Machine) (r0 r : Report) (w0 w : Option (List ℕ)) → fault ≡ Memory → IsDraining f d0 d r0 r w0 w
    → BreaksOffFrom f r0 r fault w0 w (events_left d0)
stopped f fault d0 d r0 r w0 w memory i =
    record {
      front = i.done;
      rest = events_left d;
      parts = i.rest;
      fit = i.written.fit;
      report = i.report;
      stops = subst (λ e. StopsAt f (pictures_after r0.pictures i.done) e w0 w (written_from f r0.pictures i.done) (events_left d)) (sym memory) i.written.text;
    }

-- in the midst of one
pub stopped_in : (f : Format) (fault : RunFault) (d0 d : Machine) (r0 r r' : Report) (w0 w w' : Option (List ℕ)) (e : Event)
    → Some e ≡ next_event max_unit d → BreaksOffFrom f r r' fault w w' (e ∷ []) → IsDraining f d0 d r0 r w0 w → BreaksOffFrom f r0 r' fault w0 w' (events_left d0)
stopped_in f fault d0 d r0 r r' w0 w w' e next some i =
    let c = events_left (after_take (Some e) d) in
    let all : events_left d0 ≡ i.done ++ ((e ∷ []) ++ c) = i.rest ∙ ap (λ es. i.done ++ es) (due_next d e next) in
    subst (BreaksOffFrom f r0 r' fault w0 w') (sym all) (breaks_behind f r0 r r' fault w0 w w' i.done (e ∷ []) c i.report i.written some)

-- in the writing of one picture, which fits, or else nothing of it is written
fits_at_write : (fits : Bool) → (fits ≡ false → Write ≡ Size) → fits ≡ true
fits_at_write true other = refl
fits_at_write false other = let same : Write ≡ Size = other refl in cc

in_picture : (f : Format) (n : ℕ) (fault : RunFault) (w w' : Option (List ℕ)) (p : Decoded) → (f.fits n p ≡ false → fault ≡ Size) → StopsPicture fault (f.fits n p) w w' (f.text n p)
    → StopsAt f n fault w w' [] (Picture p ∷ [])
in_picture f n Write w w' p other some = (fits_at_write (f.fits n p) other, record { count = some.count; fewer = some.fewer; written = some.written })
in_picture f n Memory w w' p other some = some
in_picture f n Size w w' p other some = some
in_picture f n _ w w' p other some = absurd some

pub picture_broken : (f : Format) (r r' : Report) (fault : RunFault) (w w' : Option (List ℕ)) (e : Event) (p : Decoded) → e ≡ Picture p → r' ≡ r
    → (f.fits r.pictures p ≡ false → fault ≡ Size) → StopsPicture fault (f.fits r.pictures p) w w' (f.text r.pictures p) → BreaksOffFrom f r r' fault w w' (e ∷ [])
picture_broken f r r' fault w w' e p is same other some = record {
  front = [];
  rest = e ∷ [];
  parts = refl;
  fit = tt;
  report = same;
  stops = subst (λ x. StopsAt f r.pictures fault w w' [] (x ∷ [])) (sym is) (in_picture f r.pictures fault w w' p other some);
}

-- one picture that was written
fits_at_ok : (fits : Bool) (r : Result (Unit {0}) RunFault) → (fits ≡ false → r ≡ Err Size) → IsOk r → fits ≡ true
fits_at_ok true r other ok = refl
fits_at_ok false (Ok done) other ok = let is : Ok done ≡ Err Size = other refl in cc
fits_at_ok false (Err fault) other ok = let not_so : false ≡ true = ok in cc

pub picture_written : (f : Format) (n : ℕ) (w w' : Option (List ℕ)) (e : Event) (p : Decoded) (r : Result (Unit {0}) RunFault) → e ≡ Picture p
    → (f.fits n p ≡ false → r ≡ Err Size) → IsOk r → Appends w w' (f.text n p) → IsWritten f n w w' (e ∷ [])
picture_written f n w w' e p r is other ok text =
    subst (λ x. IsWritten f n w w' (x ∷ [])) (sym is)
    (record { fit = (fits_at_ok (f.fits n p) r other ok, tt); text = subst (Appends w w') (sym (append-nil (f.text n p))) text })

-- nothing was handled, for want of memory
pub none_handled : (f : Format) (r r' : Report) (fault : RunFault) (w : Option (List ℕ)) (events : List Event) → fault ≡ Memory → r' ≡ r → BreaksOffFrom f r r' fault w w events
none_handled f r r' fault w events memory same = record {
  front = [];
  rest = events;
  parts = refl;
  fit = tt;
  report = same;
  stops = subst (λ e. StopsAt f r.pictures e w w [] events) (sym memory) (Appends-nil w);
}

-- ---- what is told meanwhile

-- of a run from its start on, by a tally that was lent to it, and then of its end
pub lent_run_told : (names : Names) (explained : Bool) (t0 t1 t2 : Tallied) (run : Result (Unit {0}) RunFault) (b0 b1 b2 : Option (List ℕ)) (ending : Ending) → t0 ≡ new_tally explained
    → TellsOn (reported_by t0) (reported_by t1) b0 b1
    → ((start : Option (List ℕ)) → IsTold start b1 (reported_by t2) → TellsRun names t2.explained (report_in t2) run start b2 ending)
    → t2 ≡ t1 → TellsRun names explained (report_in t1) run b0 b2 ending
lent_run_told names explained t0 t1 t2 run b0 b1 b2 ending new on tells back =
    let on_tally = subst (λ t. TellsOn (reported_by t0) (reported_by t) b0 b1) (sym back) on in
    subst (λ t. TellsRun names explained (report_in t) run b0 b2 ending) back (run_told names explained t0 t2 run b0 b1 b2 ending new on_tally tells)

-- of a digest that was compared, behind a run
pub verified : (names : Names) (explained : Bool) (format : Format) (output : Output) (expected digest : List ℕ) (unread left : Option (List ℕ)) (report : Report) (run : Result (Unit {0}) RunFault)
    (b0 b2 b3 : Option (List ℕ)) (decoded ending : Ending) → Sums format output unread left report run digest → TellsRun names explained report run b0 b2 decoded
    → (digest ≡ expected → (ending ≡ decoded) × (b3 ≡ b2)) → ((digest ≡ expected → ⊥) → ending.status ≡ other_status decoded.status)
    → ((digest ≡ expected → ⊥) → TellsMore decoded.told b2 b3 (other_text run digest) ending.told)
    → EndsVerifying names explained format output expected unread left b0 b3 ending
verified names explained format output expected digest unread left report run b0 b2 b3 decoded ending sums tells same status told = record {
  report = report;
  run = run;
  digest = digest;
  sums = sums;
  same = λ e. subst (λ x. TellsRun names explained report run b0 b3 x) (sym (same e).0) (subst (λ b. TellsRun names explained report run b0 b decoded) (sym (same e).1) tells);
  other = λ differs. record {
    status_is = status differs ∙ ap other_status tells.status_is;
    told = (told differs).on b0 (run_text names explained report run) tells.told;
  };
}

-- of a picture
pub picture_told : (r r' : Reported) (w : Option (List ℕ)) → r' ≡ with_picture r → TellsOn r r' w w
picture_told r r' w is = subst (λ q. TellsOn r q w w) (sym is) (record { line_is = refl; told = λ start so_far. so_far })

-- ---- as the loop says it

pub smaller : (d d' : Machine) (e : Event) → Some e ≡ next_event max_unit d → d' ≡ after_take (Some e) d → count_left d' < count_left d
smaller d d' e next taken =
    let within = slice_get_within (events_defined d) d.taken e (sym next) in
    let less : length (events_defined d) - (d.taken + 1) < length (events_defined d) - d.taken = omega (arith, within) in
    subst (λ m. count_left m < count_left d) (sym taken) less

-- ---- a piece that is fed in parts

abbrev given : Machine → (bytes : List ℕ) (taken : ℕ) → Machine
given m bytes taken = record m { bytes = bytes; taken = taken }

-- what comes by a part
pub record Comes (d : Machine) (part : List ℕ) : Type 0 where
  pub others : List Event
  pub defined : events_defined (after_feed part d) ≡ events_defined d ++ others
  pub left : events_left (after_feed part d) ≡ others

comes : EventsOnlyGrow → (d : Machine) (part : List ℕ) → IsDrained d → Comes d part
comes grow d part i =
    let later = grow d.output max_unit d.bytes part d.ended in
    let same : events d.output max_unit d.bytes false ≡ events_defined d = ap (λ b. events d.output max_unit d.bytes b) (sym i.goes_on) in
    let all = later.1 ∙ ap (λ es. es ++ later.0) same in
    record {
      others = later.0;
      defined = all;
      left = ap (λ n. drop n (events_defined (after_feed part d))) i.taken ∙ ap (λ es. drop (length (events_defined d)) es) all ∙ drop-append_seam (events_defined d) later.0;
    }

-- after a part all that came is taken
pub drained_after : (f : Format) → EventsOnlyGrow → (d0 d : Machine) (part : List ℕ) (r0 r : Report) (w0 w : Option (List ℕ)) → IsDrained d0 → IsHandled f (after_feed part d0) d r0 r w0 w → IsDrained d
drained_after f grow d0 d part r0 r w0 w i h =
    let x = comes grow d0 part i in
    let m = after_feed part d0 in
    let count : d0.taken + length (events_left m) ≡ length (events_defined m) =
    ap (λ n. n + length (events_left m)) i.taken ∙ ap (λ es. length (events_defined d0) + length es) x.left ∙ sym (length-append (events_defined d0) x.others) ∙ sym (ap (λ es. length es) x.defined) in
    record {
      goes_on = ap (λ n. n.ended) h.machine ∙ i.goes_on;
      taken = ap (λ n. n.taken) h.machine ∙ count ∙ ap (λ n. length (events_defined n)) (sym h.machine);
    }

-- two parts
both : (f : Format) → EventsOnlyGrow → (d0 d : Machine) (a b : List ℕ) (r0 r : Report) (w0 w : Option (List ℕ)) → IsDrained d0 → IsHandled f (after_feed a d0) d r0 r w0 w
    → events_left (after_feed (a ++ b) d0) ≡ events_left (after_feed a d0) ++ events_left (after_feed b d)
both f grow d0 d a b r0 r w0 w i h =
    let x = comes grow d0 a i in
    let y = comes grow d b (drained_after f grow d0 d a r0 r w0 w i h) in
    let z = comes grow d0 (a ++ b) i in
    let joined : events_defined (after_feed (a ++ b) d0) ≡ events_defined (after_feed b d) =
    ap (λ bs. events d0.output max_unit bs d0.ended) (sym (append_assoc d0.bytes a b)) ∙ ap (λ n. events_defined (after_feed b n)) (sym h.machine) in
    let front : events_defined d ≡ events_defined d0 ++ x.others = ap (λ n. events_defined n) h.machine ∙ x.defined in
    let all : events_defined (after_feed (a ++ b) d0) ≡ events_defined d0 ++ (x.others ++ y.others) =
    joined ∙ y.defined ∙ ap (λ es. es ++ y.others) front ∙ append_assoc (events_defined d0) x.others y.others in
    ap (λ n. drop n (events_defined (after_feed (a ++ b) d0))) i.taken ∙ ap (λ es. drop (length (events_defined d0)) es) all
    ∙ drop-append_seam (events_defined d0) (x.others ++ y.others) ∙ ap (λ es. es ++ y.others) (sym x.left) ∙ ap (λ es. events_left (after_feed a d0) ++ es) (sym y.left)

-- what comes by more bytes
later_events : EventsOnlyGrow → (d : Machine) (front rest : List ℕ) → IsDrained d → (others : List Event) × (events_left (after_feed (front ++ rest) d) ≡ events_left (after_feed front d) ++ others)
later_events grow d front rest i =
    let x = comes grow d front i in
    let later = grow d.output max_unit (d.bytes ++ front) rest d.ended in
    let same : events d.output max_unit (d.bytes ++ front) false ≡ events_defined (after_feed front d) = ap (λ b. events d.output max_unit (d.bytes ++ front) b) (sym i.goes_on) in
    let all : events_defined (after_feed (front ++ rest) d) ≡ events_defined d ++ (x.others ++ later.0) =
    ap (λ bs. events d.output max_unit bs d.ended) (sym (append_assoc d.bytes front rest)) ∙ later.1 ∙ ap (λ es. es ++ later.0) (same ∙ x.defined) ∙ append_assoc (events_defined d) x.others later.0 in (
      later.0,
      ap (λ n. drop n (events_defined (after_feed (front ++ rest) d))) i.taken ∙ ap (λ es. drop (length (events_defined d)) es) all
          ∙ drop-append_seam (events_defined d) (x.others ++ later.0) ∙ ap (λ es. es ++ later.0) (sym x.left),
    )

handled_both : (f : Format) → EventsOnlyGrow → (d0 d d' : Machine) (a b : List ℕ) (r0 r r' : Report) (w0 w w' : Option (List ℕ)) → IsDrained d0
    → IsHandled f (after_feed a d0) d r0 r w0 w → IsHandled f (after_feed b d) d' r r' w w' → IsHandled f (after_feed (a ++ b) d0) d' r0 r' w0 w'
handled_both f grow d0 d d' a b r0 r r' w0 w w' i h more =
    let x = events_left (after_feed a d0) in
    let y = events_left (after_feed b d) in
    let all = both f grow d0 d a b r0 r w0 w i h in
    let bytes : d.bytes ++ b ≡ d0.bytes ++ (a ++ b) = ap (λ n. n.bytes ++ b) h.machine ∙ append_assoc d0.bytes a b in
    let count : d.taken + length y ≡ d0.taken + length (events_left (after_feed (a ++ b) d0)) =
    omega (arith, ap (λ n. n.taken) h.machine, ap (λ es. length es) all, length-append x y) in
    record {
      machine = more.machine ∙ ap (λ n. given n (d.bytes ++ b) (d.taken + length y)) h.machine
          ∙ ap (λ bs. given d0 bs (d.taken + length y)) bytes ∙ ap (given d0 (d0.bytes ++ (a ++ b))) count;
      report = more.report ∙ ap (λ q. report_with q y) h.report ∙ sym (report_with-append r0 x y) ∙ ap (λ es. report_with r0 es) (sym all);
      written = subst (λ es. IsWritten f r0.pictures w0 w' es) (sym all) (behind f r0 r w0 w w' x y h.report h.written more.written);
    }

-- ---- as the loop says it

-- before the first part
pub none_fed : (f : Format) → EventsOnlyGrow → (d : Machine) (r : Report) (w : Option (List ℕ)) (piece : List ℕ) → IsDrained d → IsHandled f (after_feed (take 0 piece) d) d r r w w
none_fed f grow d r w piece i =
    let nothing : events_left (after_feed [] d) ≡ [] =
    ap (λ bs. drop d.taken (events d.output max_unit bs d.ended)) (append-nil d.bytes) ∙ ap (λ n. drop n (events_defined d)) i.taken
    ∙ ap (λ es. drop (length (events_defined d)) es) (sym (append-nil (events_defined d))) ∙ drop-append_seam (events_defined d) [] in
    let count : d.taken ≡ d.taken + length (events_left (after_feed [] d)) = omega (arith, ap (λ es. length es) nothing) in
    record {
      machine = ap (λ bs. given d bs d.taken) (sym (append-nil d.bytes)) ∙ ap (given d (d.bytes ++ [])) count;
      report = ap (λ es. report_with r es) (sym nothing);
      written = subst (λ es. IsWritten f r.pictures w w es) (sym nothing) (record { fit = tt; text = Appends-nil w });
    }

-- n bytes, and then so many more
first_more : (piece : List ℕ) (n len : ℕ) (part : List ℕ) → part ≡ take (n + len - n) (drop n piece) → take n piece ++ part ≡ take (n + len) piece
first_more piece n len part is =
    let few : n + len - n ≡ len = omega arith in
    ap (λ p. take n piece ++ p) (is ∙ ap (λ k. take k (drop n piece)) few) ∙ sym (take-add n len piece)

pub one_part : (f : Format) → EventsOnlyGrow → (d0 d d' : Machine) (piece part : List ℕ) (n len : ℕ) (r0 r r' : Report) (w0 w w' : Option (List ℕ)) → IsDrained d0 → part ≡ take (n + len - n) (drop n piece)
    → IsHandled f (after_feed (take n piece) d0) d r0 r w0 w → IsHandled f (after_feed part d) d' r r' w w' → IsHandled f (after_feed (take (n + len) piece) d0) d' r0 r' w0 w'
one_part f grow d0 d d' piece part n len r0 r r' w0 w w' i is h more =
    subst (λ bs. IsHandled f (after_feed bs d0) d' r0 r' w0 w') (first_more piece n len part is) (handled_both f grow d0 d d' (take n piece) part r0 r r' w0 w w' i h more)

-- all parts
pub all_fed : (f : Format) (d0 d : Machine) (piece : List ℕ) (n : ℕ) (r0 r : Report) (w0 w : Option (List ℕ)) → n ≡ length piece → IsHandled f (after_feed (take n piece) d0) d r0 r w0 w → IsHandled f (after_feed piece d0) d r0 r w0 w
all_fed f d0 d piece n r0 r w0 w all h = subst (λ bs. IsHandled f (after_feed bs d0) d r0 r w0 w) (ap (λ k. take k piece) all ∙ take-length piece) h

-- a fault in a part
pub part_broken : (f : Format) → EventsOnlyGrow → (d0 d : Machine) (piece part : List ℕ) (n len : ℕ) (r0 r r' : Report) (w0 w w' : Option (List ℕ)) (fault : RunFault) → IsDrained d0
    → part ≡ take (n + len - n) (drop n piece) → IsHandled f (after_feed (take n piece) d0) d r0 r w0 w → BreaksOffFrom f r r' fault w w' (events_left (after_feed part d))
    → BreaksOffFrom f r0 r' fault w0 w' (events_left (after_feed piece d0))
part_broken f grow d0 d piece part n len r0 r r' w0 w w' fault i is h off =
    let front = take (n + len) piece in
    let rest = drop (n + len) piece in
    let a = events_left (after_feed (take n piece) d0) in
    let b = events_left (after_feed part d) in
    let so_far : events_left (after_feed front d0) ≡ a ++ b =
    ap (λ bs. events_left (after_feed bs d0)) (sym (first_more piece n len part is)) ∙ both f grow d0 d (take n piece) part r0 r w0 w i h in
    let c = later_events grow d0 front rest i in
    let whole : events_left (after_feed piece d0) ≡ a ++ (b ++ c.0) =
    ap (λ bs. events_left (after_feed bs d0)) (sym (take-append-drop (n + len) piece)) ∙ c.1 ∙ ap (λ es. es ++ c.0) so_far ∙ append_assoc a b c.0 in
    subst (BreaksOffFrom f r0 r' fault w0 w') (sym whole) (breaks_behind f r0 r r' fault w0 w w' a b c.0 h.report h.written off)

-- a fault at the events of the first of these bytes
pub front_broken : (f : Format) → EventsOnlyGrow → (d : Machine) (bytes : List ℕ) (used : ℕ) (r r' : Report) (w w' : Option (List ℕ)) (fault : RunFault) → IsDrained d
    → BreaksOffFrom f r r' fault w w' (events_left (after_feed (take used bytes) d)) → BreaksOffFrom f r r' fault w w' (events_left (after_feed bytes d))
front_broken f grow d bytes used r r' w w' fault i off =
    part_broken f grow d d bytes (take used bytes) 0 used r r r' w w w' fault i (ap (λ k. take k bytes) (omega arith)) (none_fed f grow d r w bytes i) off

-- of what is left behind n bytes the first, and all of it
pub first_left : (piece : List ℕ) (n used : ℕ) → take used (take (length piece - n) (drop n piece)) ≡ take (n + used - n) (drop n piece)
first_left piece n used = search (rules, take_rest)

-- how many they are
pub length_left : (piece : List ℕ) (n : ℕ) → n ≤ length piece → length (take (length piece - n) (drop n piece)) ≡ length piece - n
length_left piece n within = ap length (take_rest piece n) ∙ length-drop n piece

-- all of them
pub all_left : (piece : List ℕ) (n : ℕ) → n ≤ length piece → take (length piece - n) (drop n piece) ≡ take (n + (length piece - n) - n) (drop n piece)
all_left piece n within = ap (λ k. take k (drop n piece)) (omega arith)

-- ---- where every picture is written as I420, and all are wanted

-- it is what is shown
written_plain : (n : ℕ) (es : List Event) → written_from plain n es ≡ shown es
written_plain n [] = refl
written_plain n (Picture p ∷ es) = ap (λ bs. i420 p ++ bs) (written_plain (saturated (n + 1)) es)
written_plain n (Refused unit f ∷ es) = written_plain n es

plainly : (output : Output) (unread left held holds : Option (List ℕ)) (report : Report) → DecodesAs plain output [] unread left held holds report (Ok tt)
    → Decodes output unread left held holds (Ok report)
plainly output unread left held holds report (bytes, true, read, wrote, told, enough, asked) =
    (bytes, read, subst (Appends held holds) (written_plain 0 (events output max_unit bytes true)) wrote.text, told)
plainly output unread left held holds report (bytes, false, read, wrote, told, enough, asked) = cc (enough refl)

-- where a picture was not written whole
within_shown : (held holds : Option (List ℕ)) (k : ℕ) (es front rest : List Event) → es ≡ front ++ rest → StopsAt plain k Write held holds (written_from plain 0 front) rest
    → WritesFirst held holds (shown es)
within_shown held holds k es front [] parts some = absurd some
within_shown held holds k es front (Refused unit f ∷ rest) parts some = absurd some
within_shown held holds k es front (Picture p ∷ rest) parts (fits, some) =
    let t = written_from plain 0 front in
    let s = written_from plain (saturated (pictures_after 0 front + 1)) rest in
    let all : shown es ≡ t ++ (i420 p ++ s) =
    sym (written_plain 0 es) ∙ ap (λ xs. written_from plain 0 xs) parts ∙ written-append plain 0 front (Picture p ∷ rest) in
    let first : take (length t + some.count) (t ++ (i420 p ++ s)) ≡ t ++ take some.count (i420 p) =
    take-append-add t (i420 p ++ s) some.count ∙ ap (λ xs. t ++ xs) (take-append-le some.count (i420 p) s (omega (arith, some.fewer))) in
    record {
      count = length t + some.count;
      fewer = omega (arith, ap length all, length-append t (i420 p ++ s), length-append (i420 p) s, some.fewer);
      written = subst (Appends held holds) (sym (ap (λ xs. take (length t + some.count) xs) all ∙ first)) some.written;
    }

-- none has another size
no_other_size : (held holds : Option (List ℕ)) (k : ℕ) (text : List ℕ) (rest : List Event) → StopsAt plain k Size held holds text rest → ⊥
no_other_size held holds k text [] some = some
no_other_size held holds k text (Refused unit f ∷ rest) some = some
no_other_size held holds k text (Picture p ∷ rest) some = let another : true ≡ false = some.0 in cc

plainly_off : (output : Output) (unread left held holds : Option (List ℕ)) (report : Report) (fault : RunFault) → DecodesAs plain output [] unread left held holds report (Err fault)
    → Decodes output unread left held holds (Err fault)
plainly_off output unread left held holds report Read (bytes, read, wrote, told, asked) =
    (bytes, read, subst (Appends held holds) (written_plain 0 (events output max_unit bytes false)) wrote.text)
plainly_off output unread left held holds report Endless (bytes, read, wrote, told, asked, many) =
    (bytes, read, subst (Appends held holds) (written_plain 0 (events output max_unit bytes false)) wrote.text, many)
plainly_off output unread left held holds report Write (bytes, all, read, off, asked) =
    (bytes, all, read, within_shown held holds (pictures_after 0 off.front) (events output max_unit bytes all) off.front off.rest off.parts off.stops)
plainly_off output unread left held holds report Memory (bytes, all, read, off, asked) =
    let es = events output max_unit bytes all in
    let is : take (length off.front) es ≡ off.front = ap (λ xs. take (length off.front) xs) off.parts ∙ take-append_seam off.front off.rest in (
      bytes,
      all,
      read,
      record {
        count = length off.front;
        within = omega (arith, ap length off.parts, length-append off.front off.rest);
        written = subst (Appends held holds) (written_plain 0 off.front ∙ ap shown (sym is)) off.stops;
      },
    )
plainly_off output unread left held holds report Size (bytes, all, read, off, asked) =
    absurd (no_other_size held holds (pictures_after 0 off.front) (written_from plain 0 off.front) off.rest off.stops)

-- by how it ended
pub plainly_ok : (output : Output) (unread left held holds : Option (List ℕ)) (report now : Report) (run : Result (Unit {0}) RunFault) (done : Unit {0}) → run ≡ Ok done
    → DecodesAs plain output [] unread left held holds now run → report ≡ now → Decodes output unread left held holds (Ok report)
plainly_ok output unread left held holds report now run done is d back =
    let decodes = subst (DecodesAs plain output [] unread left held holds now) is d in
    subst (λ r. Decodes output unread left held holds (Ok r)) (sym back) (plainly output unread left held holds now decodes)

pub plainly_err : (output : Output) (unread left held holds : Option (List ℕ)) (report : Report) (run : Result (Unit {0}) RunFault) (fault : RunFault) → run ≡ Err fault
    → DecodesAs plain output [] unread left held holds report run → Decodes output unread left held holds (Err fault)
plainly_err output unread left held holds report run fault is d =
    plainly_off output unread left held holds report fault (subst (DecodesAs plain output [] unread left held holds report) is d)

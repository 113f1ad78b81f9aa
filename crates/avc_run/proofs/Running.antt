-- A run, piece after piece.
pub mod Events
unfoldable pub use Events.*

-- ---- what is lent

pub still_lent : {T E V : Type 0} → (r : Reporting T E V) → LendsTheSame r r
still_lent r = (refl, refl, refl)

pub lent_then : {T E V : Type 0} → (a b c : Reporting T E V) → LendsTheSame a b → LendsTheSame b c → LendsTheSame a c
lent_then a b c before more = (more.0 ∙ before.0, more.1 ∙ before.1, more.2 ∙ before.2)

-- ---- reports

-- a report's number of pictures, as they are counted from 0
counted : (es : List Event) → (report_of es).pictures ≡ pictures_after 0 es
counted es = ap (λ r. r.pictures) (sym (told es)) ∙ pictures_now no_report es

-- what was written from the start on, and then behind it
joined : (f : Format) (r : Report) (w0 w w' : Option (List ℕ)) (a b : List Event) → r ≡ report_of a → IsWritten f 0 w0 w a → IsWritten f r.pictures w w' b
    → IsWritten f 0 w0 w' (a ++ b)
joined f r w0 w w' a b is before more = behind f no_report r w0 w w' a b (is ∙ sym (told a)) before more

-- ---- what is due

abbrev taken_so_far : Output → (bytes : List ℕ) → Machine
taken_so_far output bytes = record { output = output; bytes = bytes; ended = false; taken = length (events output max_unit bytes false); failed = false }

-- the events that come with more bytes, or with the end
due_then : EventsOnlyGrow → (output : Output) (bytes more : List ℕ) (ended : Bool) →
    (others : List Event)
    × (events output max_unit (bytes ++ more) ended ≡ events output max_unit bytes false ++ others)
    × (drop (length (events output max_unit bytes false)) (events output max_unit (bytes ++ more) ended) ≡ others)
due_then grow output bytes more ended =
    let later = grow output max_unit bytes more ended in
    let front = events output max_unit bytes false in
    (later.0, later.1, ap (λ es. drop (length front) es) later.1 ∙ drop-append_seam front later.0)

drained_then : (m : Machine) (front others : List Event) → m.taken ≡ length front → events_defined m ≡ front ++ others → events_left m ≡ others →
    after_draining m ≡ record m { taken = length (events_defined m) }
drained_then m front others taken all due' =
    let long = ap (λ es. length es) all in
    let rest = ap (λ es. length es) due' in
    ap (λ n. record m { taken = n }) (omega (arith, taken, long, rest, length-append front others))

-- ---- the states of a run

pub one_piece : (f : Format) → EventsOnlyGrow → (output : Output) (unread left left' w0 w w' : Option (List ℕ)) (d d' : Machine) (r r' : Report) (piece : List ℕ) →
    IsRunning f output unread left w0 w d r → Consumes left left' piece → IsHandled f (after_feed piece d) d' r r' w w' → IsRunning f output unread left' w0 w' d' r'
one_piece f grow output unread left left' w0 w w' d d' r r' piece i more h =
    let m = after_feed piece (taken_so_far output i.bytes) in
    let front = events output max_unit i.bytes false in
    let then' = due_then grow output i.bytes piece false in
    let same : after_feed piece d ≡ m = ap (λ n. after_feed piece n) i.machine in
    let due_is : events_left (after_feed piece d) ≡ then'.0 = ap (λ n. events_left n) same ∙ then'.2 in
    record {
      bytes = i.bytes ++ piece;
      consumed = Consumes-trans unread left left' i.bytes piece i.consumed more;
      machine = h.machine ∙ ap (λ n. after_draining n) same ∙ drained_then m front then'.0 refl then'.1 then'.2;
      report = h.report ∙ ap (λ q. report_with q (events_left (after_feed piece d))) i.report ∙ ap (λ es. report_with (report_of front) es) due_is ∙ report_more front then'.0 ∙ ap (λ es. report_of es) (sym then'.1);
      written = subst (IsWritten f 0 w0 w') (ap (λ es. front ++ es) due_is ∙ sym then'.1) (joined f r w0 w w' front (events_left (after_feed piece d)) i.report i.written h.written);
    }

-- ---- the reads

-- A front was read, and then so much by so many reads, each of some bytes. A further one is wanted.
pub record IsReading (format : Format) (front : List ℕ) (reads : ℕ) (output : Output) (unread left held holds : Option (List ℕ)) (m : Machine) (r : Report) : Type 0 where
  pub runs : IsRunning format output unread left held holds m r
  pub behind : List ℕ
  pub parts : runs.bytes ≡ front ++ behind
  pub wanted : (behind ≡ [] → ⊥) → format.enough r.pictures ≡ false
  pub many : reads ≤ length runs.bytes

-- as it is said of the bytes
wanted_by : (f : Format) (front : List ℕ) (reads : ℕ) (output : Output) (unread left w0 w : Option (List ℕ)) (d : Machine) (r : Report) → (i : IsReading f front reads output unread left w0 w d r)
    → (i.behind ≡ [] → ⊥) → f.enough (report_of (events output max_unit (front ++ i.behind) false)).pictures ≡ false
wanted_by f front reads output unread left w0 w d r i some =
    let told : r ≡ report_of (events output max_unit (front ++ i.behind) false) = i.runs.report ∙ ap (λ bs. report_of (events output max_unit bs false)) i.parts in
    ap (λ (q : Report). f.enough q.pictures) (sym told) ∙ i.wanted some

-- a read that gives nothing
asked : (f : Format) (front : List ℕ) (reads : ℕ) (output : Output) (unread left w0 w : Option (List ℕ)) (d : Machine) (r : Report) (empty : Bool) → (i : IsReading f front reads output unread left w0 w d r)
    → ReadsWanted f output front i.runs.bytes empty
asked f front reads output unread left w0 w d r empty i = record {
  before = i.behind;
  last = [];
  parts = i.parts ∙ sym (append-nil (front ++ i.behind));
  short = omega arith;
  none = λ is. refl;
  wanted = wanted_by f front reads output unread left w0 w d r i;
}

-- one that gives these bytes
asked_more : (f : Format) (front : List ℕ) (reads : ℕ) (output : Output) (unread left w0 w : Option (List ℕ)) (d : Machine) (r : Report) (piece : List ℕ) → length piece ≤ 65536
    → (i : IsReading f front reads output unread left w0 w d r) → ReadsWanted f output front (i.runs.bytes ++ piece) false
asked_more f front reads output unread left w0 w d r piece short i = record {
  before = i.behind;
  last = piece;
  parts = ap (λ bs. bs ++ piece) i.parts;
  short = short;
  none = λ is. cc;
  wanted = wanted_by f front reads output unread left w0 w d r i;
}

-- none
not_asked : (f : Format) (output : Output) (front : List ℕ) → ReadsWanted f output front front false
not_asked f output front = record {
  before = [];
  last = [];
  parts = sym (append-nil front) ∙ sym (append-nil (front ++ []));
  short = omega arith;
  none = λ is. refl;
  wanted = λ some. absurd (some refl);
}

running_begins : (f : Format) (output : Output) (unread holds : Option (List ℕ)) (m : Machine) (r : Report) → m ≡ new_machine output → r ≡ no_report → IsRunning f output unread unread holds holds m r
running_begins f output unread holds m r new none =
    record { bytes = []; consumed = Consumes-nil unread; machine = new; report = none; written = record { fit = tt; text = Appends-nil holds } }

-- what is due at the end
due_at_end : EventsOnlyGrow → (output : Output) (bytes : List ℕ) → (others : List Event) × (defined output bytes ≡ events output max_unit bytes false ++ others) × (drop (length (events output max_unit bytes false)) (defined output bytes) ≡ others)
due_at_end grow output bytes =
    let then' = due_then grow output bytes [] true in
    let same : defined output bytes ≡ events output max_unit (bytes ++ []) true = ap (λ bs. events output max_unit bs true) (sym (append-nil bytes)) in
    (then'.0, same ∙ then'.1, ap (λ es. drop (length (events output max_unit bytes false)) es) same ∙ then'.2)

ended : (f : Format) (front : List ℕ) → EventsOnlyGrow → (reads : ℕ) (output : Output) (unread left left' w0 w w' : Option (List ℕ)) (d d' : Machine) (r r' : Report) (len : ℕ) (piece : List ℕ) →
    IsReading f front reads output unread left w0 w d r → len ≡ 0 → Consumes left left' (take len piece) → IsAtEnd left' → IsHandled f (after_flush d) d' r r' w w'
    → DecodesAs f output front unread left' w0 w' r' (Ok tt)
ended f before grow reads output unread left left' w0 w w' d d' r r' len piece reading none more at_end h =
    let i = reading.runs in
    let front = events output max_unit i.bytes false in
    let then' = due_at_end grow output i.bytes in
    let same : after_flush d ≡ after_flush (taken_so_far output i.bytes) = ap (λ n. after_flush n) i.machine in
    let due_is : events_left (after_flush d) ≡ then'.0 = ap (λ n. events_left n) same ∙ then'.2 in
    let consumed = nothing_more unread left left' i.bytes piece len i.consumed none more in (
      i.bytes,
      true,
      record { consumed = consumed; whole = λ all. at_end },
      subst (IsWritten f 0 w0 w') (ap (λ es. front ++ es) due_is ∙ sym then'.1) (joined f r w0 w w' front (events_left (after_flush d)) i.report i.written h.written),
      h.report ∙ ap (λ q. report_with q (events_left (after_flush d))) i.report ∙ ap (λ es. report_with (report_of front) es) due_is ∙ report_more front then'.0 ∙ ap (λ es. report_of es) (sym then'.1),
      λ other. cc,
      asked f before reads output unread left w0 w d r true reading,
    )

-- as many pictures as are wanted
pub enough : (f : Format) (front : List ℕ) → EventsOnlyGrow → (reads : ℕ) (output : Output) (unread left left' w0 w w' : Option (List ℕ)) (d d' : Machine) (r r' : Report) (piece : List ℕ) →
    length piece ≤ 65536 → IsReading f front reads output unread left w0 w d r → Consumes left left' piece → IsHandled f (after_feed piece d) d' r r' w w' → f.enough r'.pictures ≡ true
    → DecodesAs f output front unread left' w0 w' r' (Ok tt)
unfolding one_piece
enough f front grow reads output unread left left' w0 w w' d d' r r' piece short i more h all =
    let now = one_piece f grow output unread left left' w0 w w' d d' r r' piece i.runs more h in (
      now.bytes,
      false,
      record { consumed = now.consumed; whole = λ is. cc },
      now.written,
      now.report,
      λ other. all,
      asked_more f front reads output unread left w0 w d r piece short i,
    )

-- ---- faults

-- one of reading
pub unread_on : (f : Format) (front : List ℕ) (reads : ℕ) (output : Output) (unread left left' w0 w : Option (List ℕ)) (d : Machine) (r : Report) (fault : RunFault) →
    IsReading f front reads output unread left w0 w d r → Keeps left left' → fault ≡ Read → DecodesAs f output front unread left' w0 w r (Err fault)
unread_on f front reads output unread left left' w0 w d r fault reading kept is =
    let i = reading.runs in
    rw is (
      i.bytes,
      record { consumed = Consumes-kept unread left left' i.bytes i.consumed kept; whole = λ all. cc },
      i.written,
      i.report,
      asked f front reads output unread left w0 w d r true reading,
    )

-- the front of a stream, which was read before
pub front_is : (left : Option (List ℕ)) (front : List ℕ) → Consumes (prepend_known front left) left front
front_is left front = grind arith

pub front_taken : (f : Format) → EventsOnlyGrow → (output : Output) (left w0 w : Option (List ℕ)) (d d' : Machine) (r0 r : Report) (front : List ℕ) → d ≡ new_machine output → r0 ≡ no_report
    → IsHandled f (after_feed front d) d' r0 r w0 w → IsReading f front 0 output (prepend_known front left) left w0 w d' r
unfolding one_piece running_begins
front_taken f grow output left w0 w d d' r0 r front new none h =
    let all = prepend_known front left in
    record {
      runs = one_piece f grow output all all left w0 w0 w d d' r0 r front (running_begins f output all w0 d r0 new none) (front_is left front) h;
      behind = [];
      parts = sym (append-nil front);
      wanted = λ some. absurd (some refl);
      many = omega arith;
    }

pub one_read : (f : Format) (front : List ℕ) → EventsOnlyGrow → (reads : ℕ) (output : Output) (unread left left' w0 w w' : Option (List ℕ)) (d d' : Machine) (r r' : Report) (piece : List ℕ) → 0 < length piece →
    IsReading f front reads output unread left w0 w d r → Consumes left left' piece → IsHandled f (after_feed piece d) d' r r' w w' → f.enough r'.pictures ≡ false
    → IsReading f front (reads + 1) output unread left' w0 w' d' r'
unfolding one_piece
one_read f front grow reads output unread left left' w0 w w' d d' r r' piece some i more h not_yet = record {
  runs = one_piece f grow output unread left left' w0 w w' d d' r r' piece i.runs more h;
  behind = i.behind ++ piece;
  parts = ap (λ bs. bs ++ piece) i.parts ∙ append_assoc front i.behind piece;
  wanted = λ some. not_yet;
  many = let more' : reads + 1 ≤ length (i.runs.bytes ++ piece) = omega (arith, i.many, some, length-append i.runs.bytes piece) in more';
}

-- more reads than a run may take
pub endless : (f : Format) (front : List ℕ) (output : Output) (unread left w0 w : Option (List ℕ)) (d : Machine) (r : Report) (reads : ℕ) → IsReading f front reads output unread left w0 w d r → 2 ^ 32 ≤ reads
    → DecodesAs f output front unread left w0 w r (Err Endless)
endless f front output unread left w0 w d r reads i all = (
  i.runs.bytes,
  record { consumed = i.runs.consumed; whole = λ all. cc },
  i.runs.written,
  i.runs.report,
  asked f front reads output unread left w0 w d r true i,
  omega (arith, i.many, all),
)

-- from the start on
off_from_start : (f : Format) (r : Report) (fault : RunFault) (w0 w' : Option (List ℕ)) (es : List Event) → BreaksOffFrom f no_report r fault w0 w' es → BreaksOff f r fault w0 w' es
off_from_start f r fault w0 w' es off = record { front = off.front; rest = off.rest; parts = off.parts; fit = off.fit; reported = off.report ∙ told off.front; stops = off.stops }

-- a fault at the events of all bytes so far
broken : (f : Format) (front : List ℕ) (output : Output) (fault : RunFault) (unread left w0 w' : Option (List ℕ)) (r : Report) (bytes : List ℕ) (all : Bool) → HasRead unread left bytes all
    → ReadsWanted f output front bytes all → BreaksOffFrom f no_report r fault w0 w' (events output max_unit bytes all) → DecodesAs f output front unread left w0 w' r (Err fault)
broken f front output Read unread left w0 w' r bytes all read wanted off = absurd off.stops
broken f front output Endless unread left w0 w' r bytes all read wanted off = absurd off.stops
broken f front output Write unread left w0 w' r bytes all read wanted off = (bytes, all, read, off_from_start f r Write w0 w' (events output max_unit bytes all) off, wanted)
broken f front output Memory unread left w0 w' r bytes all read wanted off = (bytes, all, read, off_from_start f r Memory w0 w' (events output max_unit bytes all) off, wanted)
broken f front output Size unread left w0 w' r bytes all read wanted off = (bytes, all, read, off_from_start f r Size w0 w' (events output max_unit bytes all) off, wanted)

-- the front, what broke off, and nothing after it
nothing_after : (front due all : List Event) → all ≡ front ++ due → all ≡ front ++ (due ++ [])
nothing_after front due all is = is ∙ ap (λ es. front ++ es) (sym (append-nil due))

-- at the events of a piece
broken_by : (f : Format) (before : List ℕ) → EventsOnlyGrow → (output : Output) (unread left left' w0 w w' : Option (List ℕ)) (d : Machine) (r r' : Report) (piece : List ℕ) (fault : RunFault) →
    (i : IsRunning f output unread left w0 w d r) → ReadsWanted f output before (i.bytes ++ piece) false → Consumes left left' piece → BreaksOffFrom f r r' fault w w' (events_left (after_feed piece d))
    → DecodesAs f output before unread left' w0 w' r' (Err fault)
broken_by f before grow output unread left left' w0 w w' d r r' piece fault i wanted more off =
    let front = events output max_unit i.bytes false in
    let due = events_left (after_feed piece d) in
    let then' = due_then grow output i.bytes piece false in
    let due_is : due ≡ then'.0 = ap (λ n. events_left (after_feed piece n)) i.machine ∙ then'.2 in
    let all = nothing_after front due (events output max_unit (i.bytes ++ piece) false) (then'.1 ∙ ap (λ es. front ++ es) (sym due_is)) in
    broken f before output fault unread left' w0 w' r' (i.bytes ++ piece) false
    (record { consumed = Consumes-trans unread left left' i.bytes piece i.consumed more; whole = λ all. cc }) wanted
    (subst (BreaksOffFrom f no_report r' fault w0 w') (sym all) (breaks_behind f no_report r r' fault w0 w w' front due [] (i.report ∙ sym (told front)) i.written off))

pub broken_in : (f : Format) (front : List ℕ) → EventsOnlyGrow → (reads : ℕ) (output : Output) (unread left left' w0 w w' : Option (List ℕ)) (d : Machine) (r r' : Report) (piece : List ℕ) (fault : RunFault) →
    length piece ≤ 65536 → IsReading f front reads output unread left w0 w d r → Consumes left left' piece → BreaksOffFrom f r r' fault w w' (events_left (after_feed piece d))
    → DecodesAs f output front unread left' w0 w' r' (Err fault)
broken_in f front grow reads output unread left left' w0 w w' d r r' piece fault short i more off =
    broken_by f front grow output unread left left' w0 w w' d r r' piece fault i.runs (asked_more f front reads output unread left w0 w d r piece short i) more off

-- at the events of the end
broken_at_end : (f : Format) (front : List ℕ) → EventsOnlyGrow → (reads : ℕ) (output : Output) (unread left left' w0 w w' : Option (List ℕ)) (d : Machine) (r r' : Report) (len : ℕ) (piece : List ℕ) (fault : RunFault) →
    IsReading f front reads output unread left w0 w d r → len ≡ 0 → Consumes left left' (take len piece) → IsAtEnd left' → BreaksOffFrom f r r' fault w w' (events_left (after_flush d))
    → DecodesAs f output front unread left' w0 w' r' (Err fault)
broken_at_end f before grow reads output unread left left' w0 w w' d r r' len piece fault reading none more at_end off =
    let i = reading.runs in
    let front = events output max_unit i.bytes false in
    let due = events_left (after_flush d) in
    let then' = due_at_end grow output i.bytes in
    let due_is : due ≡ then'.0 = ap (λ n. events_left (after_flush n)) i.machine ∙ then'.2 in
    let all = nothing_after front due (defined output i.bytes) (then'.1 ∙ ap (λ es. front ++ es) (sym due_is)) in
    broken f before output fault unread left' w0 w' r' i.bytes true
    (record { consumed = nothing_more unread left left' i.bytes piece len i.consumed none more; whole = λ is. at_end })
    (asked f before reads output unread left w0 w d r true reading)
    (subst (BreaksOffFrom f no_report r' fault w0 w') (sym all) (breaks_behind f no_report r r' fault w0 w w' front due [] (i.report ∙ sym (told front)) i.written off))

-- the end
pub at_end : (f : Format) (front : List ℕ) → EventsOnlyGrow → (reads : ℕ) (output : Output) (unread left left' w0 w w' : Option (List ℕ)) (d d' : Machine) (r r' : Report) (len : ℕ) (piece : List ℕ) (result : Result (Unit {0}) RunFault) →
    IsReading f front reads output unread left w0 w d r → len ≡ 0 → Consumes left left' (take len piece) → IsAtEnd left' → OnOk result (IsHandled f (after_flush d) d' r r' w w')
    → IfErr result (λ fault. BreaksOffFrom f r r' fault w w' (events_left (after_flush d))) → DecodesAs f output front unread left' w0 w' r' result
at_end f front grow reads output unread left left' w0 w w' d d' r r' len piece (Ok done) i none more last ok err =
    ended f front grow reads output unread left left' w0 w w' d d' r r' len piece i none more last ok
at_end f front grow reads output unread left left' w0 w w' d d' r r' len piece (Err fault) i none more last ok err =
    broken_at_end f front grow reads output unread left left' w0 w w' d r r' len piece fault i none more last err

pub decodes_err : (format : Format) (output : Output) (front : List ℕ) (unread left old new : Option (List ℕ)) (report : Report) (r : Result (Unit {0}) RunFault) (f : RunFault) → IsErrAnd r (λ e. e ≡ f)
    → DecodesAs format output front unread left old new report (Err f) → DecodesAs format output front unread left old new report r
decodes_err format output front unread left old new report r f is d = subst (DecodesAs format output front unread left old new report) (sym (err_is r f is)) d

-- all events that had come were taken
pub drained : (f : Format) (output : Output) (unread left w0 w : Option (List ℕ)) (d : Machine) (r : Report) → IsRunning f output unread left w0 w d r → IsDrained d
drained f output unread left w0 w d r i = record {
  goes_on = ap (λ n. n.ended) i.machine;
  taken = ap (λ n. n.taken) i.machine ∙ ap (λ n. length (events_defined n)) (sym i.machine);
}

-- at the events of the front
pub broken_in_front : (f : Format) → EventsOnlyGrow → (output : Output) (left w0 w : Option (List ℕ)) (d : Machine) (r0 r : Report) (front : List ℕ) (fault : RunFault) → d ≡ new_machine output → r0 ≡ no_report
    → BreaksOffFrom f r0 r fault w0 w (events_left (after_feed front d)) → DecodesAs f output front (prepend_known front left) left w0 w r (Err fault)
unfolding running_begins
broken_in_front f grow output left w0 w d r0 r front fault new none off =
    let all = prepend_known front left in
    broken_by f front grow output all all left w0 w0 w d r0 r front fault (running_begins f output all w0 d r0 new none) (not_asked f output front) (front_is left front) off

pub new_is_drained : (d : Machine) (output : Output) → d ≡ new_machine output → IsDrained d
new_is_drained d output new = drained plain output None None None None d no_report (running_begins plain output None None d no_report new refl)

-- nothing was read before
pub without_front : (f : Format) (output : Output) (unread left w0 w : Option (List ℕ)) (report : Report) (r : Result (Unit {0}) RunFault)
    → DecodesAs f output [] (prepend_known [] unread) left w0 w report r → DecodesAs f output [] unread left w0 w report r
without_front f output unread left w0 w report r d = subst (λ u. DecodesAs f output [] u left w0 w report r) (prepend_known-nil unread) d

-- by a new decoder
pub by_new : (f : Format) (output : Output) (front : List ℕ) (unread left w0 w : Option (List ℕ)) (report : Report) (r : Result (Unit {0}) RunFault) (m : Machine) → m ≡ new_machine output
    → DecodesAs f m.output front unread left w0 w report r → DecodesAs f output front unread left w0 w report r
by_new f output front unread left w0 w report r m e d = subst (λ (n : Machine). DecodesAs f n.output front unread left w0 w report r) e d

-- ---- what is decoded behind a front

-- what is read behind a front, of a reader from which the front was read
read_behind : (unread middle left : Option (List ℕ)) (front bytes : List ℕ) (all : Bool) → Consumes unread middle front → HasRead (prepend_known front middle) left bytes all
    → HasRead unread left bytes all
read_behind None middle left front bytes all c h = record { consumed = tt; whole = h.whole }
read_behind (Some xs) None left front bytes all c h = absurd c
read_behind (Some xs) (Some ys) left front bytes all c h = subst (λ l. HasRead (Some l) left bytes all) (sym c) h

decoded_behind : (f : Format) (output : Output) (unread middle left w0 w : Option (List ℕ)) (front : List ℕ) (report : Report) (r : Result (Unit {0}) RunFault) → Consumes unread middle front
    → DecodesAs f output front (prepend_known front middle) left w0 w report r → DecodesAs f output front unread left w0 w report r
decoded_behind f output unread middle left w0 w front report (Ok done) c d = (d.0, d.1, read_behind unread middle left front d.0 d.1 c d.2, d.3, d.4, d.5, d.6)
decoded_behind f output unread middle left w0 w front report (Err Read) c d = (d.0, read_behind unread middle left front d.0 false c d.1, d.2, d.3, d.4)
decoded_behind f output unread middle left w0 w front report (Err Endless) c d = (d.0, read_behind unread middle left front d.0 false c d.1, d.2, d.3, d.4, d.5)
decoded_behind f output unread middle left w0 w front report (Err Write) c d = (d.0, d.1, read_behind unread middle left front d.0 d.1 c d.2, d.3, d.4)
decoded_behind f output unread middle left w0 w front report (Err Memory) c d = (d.0, d.1, read_behind unread middle left front d.0 d.1 c d.2, d.3, d.4)
decoded_behind f output unread middle left w0 w front report (Err Size) c d = (d.0, d.1, read_behind unread middle left front d.0 d.1 c d.2, d.3, d.4)

-- by the set that was found in the front
pub decodes_behind : (format : Presentation → Format) (output : Output) (unread middle left w0 w : Option (List ℕ)) (front bytes : List ℕ) (said : Presentation) (report : Report)
    (r : Result (Unit {0}) RunFault) → bytes ≡ front → IsFront unread middle bytes said → DecodesAs (format said) output front (prepend_known front middle) left w0 w report r
    → DecodesBySetOrNot format output unread left w0 w report r
decodes_behind format output unread middle left w0 w front bytes said report r same found d = by_set (record {
  bytes = front;
  middle = middle;
  said = said;
  front = subst (λ bs. IsFront unread middle bs said) same found;
  decodes = decoded_behind (format said) output unread middle left w0 w front report r (subst (Consumes unread middle) same found.has_read.consumed) d;
})

-- where there is none
pub decodes_not : (format : Presentation → Format) (output : Output) (unread left holds : Option (List ℕ)) (report : Report) (r : Result (Unit {0}) RunFault) (fault : RunFault)
    → IsErrAnd r (λ e. e ≡ fault) → report ≡ no_report → NoFront fault unread left → DecodesBySetOrNot format output unread left holds holds report r
decodes_not format output unread left holds report r fault is same none = in_front fault (err_is r fault is) none (Appends-nil holds) same

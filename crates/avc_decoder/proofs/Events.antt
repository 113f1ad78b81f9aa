-- The events of a stream unit by unit, and what a decoder's calls handle of it.
pub mod Steps
unfoldable pub use Steps.*
use Rattle.avc_annexb.specs.SplitterState.{unit_count, TakesUnit}
use Rattle.avc_decoder.specs.Machine.{IsRefused}
use Rattle.avc_decoder.specs.Machine as machine
use Rattle.avc_decoder.specs.Events.{picture_of_phase}
use Rattle.avc_decoder.specs.OpenPictures.{IsDecodedBy, IsLent, LendsCurrent, LendsCurrentIn}
use Rattle.avc_decoder.specs.declared.open_picture.OpenPicture.{OpenPicture as LentPicture}

-- ---- the events

-- of some units and then others
pub events-append : (s : State) (us vs : List Unit) (ended : Bool) → events_from s (us ++ vs) ended ≡ events_from s us false ++ events_from (state_through s us) vs ended
events-append s [] vs ended = refl
events-append s (u ∷ us) vs ended =
    let o = after_unit s u in
    cc (events-append (state_after s u o) us vs ended, append_assoc o.events (events_from (state_after s u o) us false) (events_from (state_through (state_after s u o) us) vs ended))

-- how many macroblocks of some units and then others are read
pub read-append : (s : State) (us vs : List Unit) → read_from s (us ++ vs) ≡ read_from s us + read_from (state_through s us) vs
read-append s [] vs = omega arith
read-append s (u ∷ us) vs =
    let o = after_unit s u in
    ap (λ n. o.read + n) (read-append (state_after s u o) us vs) ∙ sym (add_assoc o.read (read_from (state_after s u o) us) (read_from (state_through (state_after s u o) us) vs))

-- no fewer are read of more bytes, or of all
pub turns_grow : (output : Output) (max : ℕ) (bytes more : List ℕ) (ended : Bool) → turns output max bytes false ≤ turns output max (bytes ++ more) ended
turns_grow output max bytes more ended =
    let units_more = units_stay_first max bytes more ended in
    let us = units max bytes false in
    let all : read_from (first_state output) (units max (bytes ++ more) ended) ≡ read_from (first_state output) us + read_from (state_through (first_state output) us) units_more.0 =
    ap (read_from (first_state output)) units_more.1 ∙ read-append (first_state output) us units_more.0 in
    omega (arith, all)

pub events_grow : UnitsStay → EventsOnlyGrow
events_grow stay output max bytes more ended =
    let units_more = stay max bytes more ended in (
      events_from (state_through (first_state output) (units max bytes false)) units_more.0 ended,
      ap (λ us. events_from (first_state output) us ended) units_more.1 ∙ events-append (first_state output) (units max bytes false) units_more.0 ended,
    )

-- ---- the units that were not taken are handled, and with them all

pub drop_some : {A : Type 0} (xs : List A) (n : ℕ) (x : A) → Some x ≡ slice_get xs n → drop n xs ≡ x ∷ drop (suc n) xs
drop_some (y ∷ ys) (suc n) x e = drop_some ys n x e
drop_some _ _ x e = cc e

pub drop_none : {A : Type 0} (xs : List A) (n : ℕ) → ◌≡◌ {A = Option A} None (slice_get xs n) → drop n xs ≡ []
drop_none [] zero e = refl
drop_none (y ∷ ys) (suc n) e = drop_none ys n e
drop_none _ _ e = cc e

-- ---- want of memory

-- more bytes change the machine
pub some_bytes : (m : Machine) (piece : List ℕ) → (length piece == 0) ≡ false → machine.after_feed piece m ≡ m → ⊥
some_bytes m piece some same =
    let positive : 0 < length piece = grind (arith, nat_tests) in
    omega (arith, ap (λ (x : Machine). length x.bytes) same, length-append m.bytes piece, positive)

pub refused_to : (m after new : Machine) (result : Result (Prim.Unit {0}) DecodeError) → m.failed ≡ false → m.ended ≡ false → (after ≡ m → ⊥) → after.output ≡ m.output → result ≡ Err NoMemory
    → new ≡ record after { failed = true } → IsFeedAnswer m after result new
refused_to m after new result going unended changes output e is =
    subst (λ r. IsFeedAnswer m after r new) (sym e) (record {
      refused = is ∙ sym (ap (λ b. elim b [ true ↦ m | false ↦ record after { failed = true } ]) going);
      before_end = λ _. unended;
      changes = λ _. changes;
      output = ap (λ (x : Machine). x.output) is ∙ output;
    })

-- ---- the units that wait, one after another

-- from the first state on, some units were handled
pub record Left (max : ℕ) (first : SplitterState) (flow : StreamState) (s : SplitterState) (t : StreamState) : Type 0 where
  pub splitter : s ≡ record first { taken = s.taken }
  pub going : first.failed ≡ false
  pub handles : after_units_in_stream (drop s.taken (units max first.bytes first.ended)) t ≡ after_units_in_stream (drop first.taken (units max first.bytes first.ended)) flow
  pub counts : s.taken + length (drop s.taken (units max first.bytes first.ended)) ≡ first.taken + length (drop first.taken (units max first.bytes first.ended))

next_at : (max : ℕ) (first s : SplitterState) → s ≡ record first { taken = s.taken } → first.failed ≡ false → next_unit_of max s ≡ slice_get (units max first.bytes first.ended) s.taken
next_at max first s e on = ap (next_unit_of max) e ∙ rw on refl

pub one_more : {max : ℕ} {first : SplitterState} {flow : StreamState} {s s1 : SplitterState} {t t1 : StreamState} {u : Piece}
    → Left max first flow s t → Some u ≡ next_unit_of max s → s1 ≡ after_next_unit s (Some u) → t1 ≡ after_unit_in_stream u t
    → Left max first flow s1 t1
one_more {max} {first} {s = s} {t = t} {u = u} l e es et =
    let all = units max first.bytes first.ended in
    let next = drop_some all s.taken u (e ∙ next_at max first s l.splitter l.going) in
    rw (es, et, add-one) (record {
      splitter = ap (λ (x : SplitterState). record x { taken = suc s.taken }) l.splitter;
      going = l.going;
      handles = sym (ap (λ us. after_units_in_stream us t) next) ∙ l.handles;
      counts = omega (arith, l.counts, ap length next);
    })

-- with no further unit, all were handled
pub no_more : {max : ℕ} {first : SplitterState} {flow : StreamState} {s s1 : SplitterState} {t : StreamState} → Left max first flow s t
    → None ≡ next_unit_of max s → s1 ≡ after_next_unit s None → HandlesAll max first s1 flow t
no_more {max} {first} {s = s} {t = t} l e es =
    let all = units max first.bytes first.ended in
    let none : drop s.taken all ≡ [] = drop_none all s.taken (e ∙ next_at max first s l.splitter l.going) in
    let counted : s.taken ≡ first.taken + length (drop first.taken all) = omega (arith, l.counts, ap length none) in
    record {
      splitter = es ∙ l.splitter ∙ ap (λ n. record first { taken = n }) counted;
      stream = sym (ap (λ us. after_units_in_stream us t) none) ∙ l.handles;
    }

-- ---- what the handled units come to

pub state_through-append : (s : State) (us vs : List Piece) → state_through s (us ++ vs) ≡ state_through (state_through s us) vs
state_through-append s [] vs = refl
state_through-append s (u ∷ us) vs = state_through-append (state_after s u (after_unit s u)) us vs

-- Units were handled.
pub record Handled (us : List Piece) (f f' : StreamState) : Type 0 where
  pub state : f'.state ≡ state_through f.state us
  pub events : f'.events ≡ f.events ++ events_from f.state us false
  pub taken : f'.taken ≡ f.taken
  pub read : (n : ℕ) → f.read ≡ saturated n → f'.read ≡ saturated (n + read_from f.state us)

-- a count that was held counts on as the whole does
held_more : (n more : ℕ) → more_read (saturated n) more ≡ saturated (n + more)
held_more n zero = ap saturated (sym (add-zero n))
held_more n (suc more) = omega arith

handled_all : (us : List Piece) (f : StreamState) → Handled us f (after_units_in_stream us f)
handled_all [] f = record {
  state = refl;
  events = sym (append-nil f.events);
  taken = refl;
  read = λ n e. e
      ∙ ap saturated (sym (add-zero n));
}
handled_all (u ∷ us) f =
    let h = handled_all us (after_unit_in_stream u f) in
    let o = after_unit f.state u in
    let rest = read_from (state_after f.state u o) us in
    record {
      state = h.state;
      events = h.events ∙ append_assoc f.events _ _;
      taken = h.taken;
      read = λ n e. h.read (n + o.read) (ap (λ m. more_read m o.read) e ∙ held_more n o.read) ∙ ap saturated (add_assoc n o.read rest);
    }

-- of all units, so many had been handled, and then the others
record AllHandled (output : Output) (all : List Piece) (n : ℕ) (t2 : StreamState) : Type 0 where
  counted : n + length (drop n all) ≡ length all
  state : t2.state ≡ state_through (first_state output) all
  events : t2.events ≡ events_from (first_state output) all false
  read : t2.read ≡ saturated (read_from (first_state output) all)

rest_handled : (output : Output) (us more all : List Piece) (n : ℕ) (t t2 : StreamState) → all ≡ us ++ more
    → n ≡ length us → t.state ≡ state_through (first_state output) us
    → t.events ≡ events_from (first_state output) us false
    → t.read ≡ saturated (read_from (first_state output) us) → t2 ≡ after_units_in_stream (drop n all) t → AllHandled output all n t2
rest_handled output us more all n t t2 e len at es er et =
    let first = first_state output in
    let d : drop n all ≡ more = ap₂ drop len e ∙ drop-append_seam us more in
    let h = handled_all more t in
    let is : t2 ≡ after_units_in_stream more t = et ∙ ap (λ ps. after_units_in_stream ps t) d in
    record {
      counted = omega (arith, len, ap length d, ap length e, length-append us more);
      state = cc (is, h.state, at, state_through-append first us more, e);
      events = cc (is, h.events, es, at, events-append first us more false, e);
      read = cc (is, h.read (read_from first us) er, at, read-append first us more, e);
    }

-- what comes behind the units, where they have ended
record ClosesTo (ended : Bool) (t2 t3 : StreamState) : Type 0 where
  state : ended ≡ false → t3.state ≡ t2.state
  events : t3.events ≡ t2.events ++ events_from t2.state [] ended
  read : t3.read ≡ t2.read

-- the units of these bytes are those before, and more
decoded_at : (output : Output) (max : ℕ) (s s2 : SplitterState) (t t2 t3 : StreamState) (bytes : List ℕ) (ended : Bool) (more : List Piece)
    → IsDecoded output max s false t → units max bytes ended ≡ units max s.bytes false ++ more
    → HandlesAll max (record s { bytes = bytes; ended = ended }) s2 t t2 → ClosesTo ended t2 t3
    → IsDecoded output max s2 ended t3
decoded_at output max s s2 t t2 t3 bytes ended more d all h closes =
    let r = rest_handled output (units max s.bytes false) more (units max bytes ended) s.taken t t2 all d.counted
    (d.state refl) d.events d.read h.stream in
    let events_are = events-append (first_state output) (units max bytes ended) [] ended in
    rw h.splitter (record {
      going = d.going;
      ends = refl;
      counted = r.counted;
      state = λ off. closes.state off ∙ r.state ∙ ap (λ b. state_through (first_state output) (units max bytes b)) off;
      events =
          closes.events ∙ ap₂ (λ es x. es ++ events_from x [] ended) r.events r.state ∙ sym events_are
          ∙ ap (λ us. events_from (first_state output) us ended) (append-nil (units max bytes ended));
      read = closes.read ∙ r.read;
    })

decoded_fed : (output : Output) (max : ℕ) (s s2 : SplitterState) (t t2 : StreamState) (piece : List ℕ) → IsDecoded output max s false t
    → HandlesAll max (record s { bytes = s.bytes ++ piece; ended = false }) s2 t t2
    → IsDecoded output max s2 false t2
decoded_fed output max s s2 t t2 piece d h =
    let stay = units_stay_first max s.bytes piece false in
    decoded_at output max s s2 t t2 t2 (s.bytes ++ piece) false stay.0 d stay.1 h
    (record { state = λ _. refl; events = sym (append-nil t2.events); read = refl })

decoded_finished : (output : Output) (max : ℕ) (s s2 : SplitterState) (t t2 t3 : StreamState) → IsDecoded output max s false t
    → HandlesAll max (after_finish s) s2 t t2 → t3 ≡ after_stream_end t2
    → IsDecoded output max s2 true t3
decoded_finished output max s s2 t t2 t3 d h f =
    let stay = units_stay_first max s.bytes [] true in
    let all = ap (λ b. units max b true) (sym (append-nil s.bytes)) ∙ stay.1 in
    decoded_at output max s s2 t t2 t3 s.bytes true stay.0 d all h
    (rw f (record { state = λ off. absurd (false≢true (sym off)); events = refl; read = refl }))

-- how many of its events were passed on counts for nothing
of_stream : {output : Output} {max : ℕ} {s : SplitterState} {ended : Bool} (t : Stream) → IsDecoded output max s ended (stream_state t)
    → IsDecoded output max s ended (stream_state (record t { queue = passed_on t.queue }))
of_stream t d = record { going = d.going; ends = d.ends; counted = d.counted; state = d.state; events = d.events; read = d.read }

-- ---- the same of the parts

-- what waits behind the events that were passed on before
behind : {max : ℕ} {s s2 : SplitterState} {t t2 : StreamState} (t3 : StreamState) (out : QueueState) (more : List Event) → ArePassedOn (queue_in t) out
    → HandlesAll max s s2 t t2 → t3.events ≡ t2.events ++ more → t3.taken ≡ t2.taken → IsBehind out (queue_in t3)
behind {max} {s} {s2} {t} {t2} t3 out more p h events_are taken =
    let us = drop s.taken (units max s.bytes s.ended) in
    let a = handled_all us t in
    record {
      more = events_from t.state us false ++ more;
      events = events_are ∙ ap (λ (x : StreamState). x.events ++ more) h.stream ∙ ap (λ es. es ++ more) a.events
          ∙ append_assoc t.events (events_from t.state us false) more ∙ ap (λ es. es ++ (events_from t.state us false ++ more)) (sym p.events);
      taken = taken ∙ ap (λ (x : StreamState). x.taken) h.stream ∙ a.taken ∙ p.taken ∙ ap length (sym p.events);
    }

-- after some units
pub behind_units : {max : ℕ} {s s2 : SplitterState} (t t2 : Stream) (out : QueueState) → ArePassedOn t.queue out
    → HandlesAll max s s2 (stream_state t) (stream_state t2) → IsBehind out t2.queue
behind_units t t2 out p h = behind (stream_state t2) out [] p h (sym (append-nil t2.queue.events)) refl

-- after the last ones, and the end
pub behind_end : {max : ℕ} {s s2 : SplitterState} (t t2 t3 : Stream) (out : QueueState) → ArePassedOn t.queue out
    → HandlesAll max s s2 (stream_state t) (stream_state t2) → stream_state t3 ≡ after_stream_end (stream_state t2) → IsBehind out t3.queue
behind_end t t2 t3 out p h ends =
    let x = stream_state t2 in
    behind (stream_state t3) out (at_end x.state.output x.state.phase) p h (ap (λ (y : StreamState). y.events) ends) (ap (λ (y : StreamState). y.taken) ends)

-- what stands behind others comes first of what is left
get_seam : {A : Type 0} (xs ys : List A) → slice_get (xs ++ ys) (length xs) ≡ slice_get ys 0
get_seam [] ys = refl
get_seam (x ∷ xs) ys = get_seam xs ys

-- the first of the events that wait, as it is seen
pub first_seen : {A B : Type 0} (f : A → B) (given left rest : List A) (e : A) → left ≡ e ∷ rest
    → Some (f e) ≡ slice_get (map f (given ++ left)) (length given)
first_seen {A} f given left rest e is = rw is (by given)
  where
    by : (given : List A) → Some (f e) ≡ slice_get (map f (given ++ e ∷ rest)) (length given)
    by [] = refl
    by (x ∷ given) = by given

first_behind : {out q : QueueState} (b : IsBehind out q) → slice_get q.events q.taken ≡ slice_get b.more 0
first_behind {out} b = ap₂ (λ es n. slice_get es n) b.events b.taken ∙ get_seam out.events b.more

-- the first of those that wait is passed on
pub one_passed : {out q q1 out1 : QueueState} {e : Event} → IsBehind out q → Some e ≡ slice_get q.events q.taken
    → q1 ≡ after_queue_take (Some e) q → out1 ≡ with_events (e ∷ []) out → IsBehind out1 q1
one_passed {out} {q} {q1} {out1} {e} b is eq eo = rw (eq, eo) (by b.more b.events (is ∙ first_behind b))
  where
    by : (more : List Event) → q.events ≡ out.events ++ more → Some e ≡ slice_get more 0
        → IsBehind (with_events (e ∷ []) out) (after_queue_take (Some e) q)
    by [] events wrong = cc wrong
    by (x ∷ more) events first =
        let same : e ≡ x = cc first in
        record {
          more = more;
          events = events ∙ ap (λ y. out.events ++ y ∷ more) (sym same) ∙ sym (append_assoc out.events (e ∷ []) more);
          taken = ap (λ n. n + 1) b.taken ∙ sym (length_push out.events e);
        }

-- none is left
none_waits : {out q : QueueState} → IsBehind out q → None ≡ slice_get q.events q.taken → (out.events ≡ q.events) × (q.taken ≡ length q.events)
none_waits {out} {q} b is = by b.more b.events (is ∙ first_behind b)
  where
    by : (more : List Event) → q.events ≡ out.events ++ more → None ≡ slice_get more 0 → (out.events ≡ q.events) × (q.taken ≡ length q.events)
    by [] events none =
        let same = events ∙ append-nil out.events in
        (sym same, b.taken ∙ ap length (sym same))
    by (x ∷ more) events wrong = cc wrong

-- all were passed on
pub all_passed : (out0 q0 : QueueState) {out q q1 : QueueState} → IsBehind out q → q.events ≡ q0.events → out.taken ≡ out0.taken → None ≡ slice_get q.events q.taken
    → q1 ≡ q → (out ≡ record out0 { events = q0.events }) × (q1 ≡ passed_on q0)
all_passed out0 q0 b same taken none is =
    let all = none_waits b none in (
      ap₂ (λ es n. record { events = es; taken = n }) (all.0 ∙ same) taken,
      is ∙ ap₂ (λ es n. record { events = es; taken = n }) same (all.1 ∙ ap length same),
    )

-- what the splitter's contract says of bytes up to a unit, where the stream goes on
up_to_unit : {max : ℕ} {s s1 : SplitterState} {bytes : List ℕ} {used : ℕ} → TakesUnit max s bytes used s1 → s.ended ≡ false
    → IsUpToUnit max s.bytes bytes used
up_to_unit {max} {s} {s1} {bytes} {used} t on =
    let more = s.bytes ++ take used bytes in
    let is : s1 ≡ record s { bytes = more } = t.is ∙ rw on refl in
    let now : unit_count max s1 ≡ length (units max more false) = ap (unit_count max) is ∙ ap (λ e. length (units max more e)) on in
    let before : unit_count max s ≡ length (units max s.bytes false) = ap (λ e. length (units max s.bytes e)) on in
    record {
      within = t.within;
      some = t.some;
      one = omega (arith, now, before, t.one);
      all = λ less. omega (arith, now, before, t.all less);
    }

-- the sequence goes on
pub goes_on : (s : SequenceState) (phase : PhaseHere) → IsPhase s phase → s.failed ≡ false
goes_on s Waiting is = is.0.on
goes_on s (Running None) is = is.on
goes_on s (Running (Some c)) is = is.on

one_at_most : {A : Type 0} (it : Option A) → one_if_any it ≤ 1
one_at_most None = omega arith
one_at_most (Some it) = omega arith

-- the frames that there is memory of
pub few_in : (t : Stream) → length (t.sequence).frames ≤ 16 → length ((t.memory).planes).closed ≤ most_closed → frames_in t ≤ most_frames
few_in t stored closed = omega (arith, stored, closed, one_at_most (current_in t.phase), one_at_most ((t.memory).planes).open_planes)

-- bytes up to a unit were taken, and the unit handled
pub fed_on : {max : ℕ} {P : Type 0} (old : Parts max P) (bytes : List ℕ) (used : ℕ) (s1 s2 : SplitterState) (t2 : Stream) → IsWorking max old
    → TakesUnit max old.splitter bytes used s1 → IsStream t2 → frames_in t2 ≤ most_frames → HandlesAll max s1 s2 (stream_state old.stream) (stream_state t2)
    → FeedsUnit max old bytes (record { used = used; read = t2.read })
    (record { splitter = s2; stream = record t2 { queue = passed_on t2.queue }; outgoing = record old.outgoing { events = t2.queue.events } })
fed_on {max} old bytes used s1 s2 t2 w t works few h =
    let s = old.splitter in
    let more = s.bytes ++ take used bytes in
    let is : s1 ≡ record s { bytes = more; ended = false } = t.is ∙ rw w.unended refl in
    let now = h.splitter ∙ ap (λ (x : SplitterState). record x { taken = x.taken + length (drop x.taken (units max x.bytes x.ended)) }) is in
    record {
      used = up_to_unit t w.unended;
      feeds = record {
        now = record {
          works = works;
          few = few;
          passed = record { events = refl; taken = refl };
          taken = refl;
          going = ap (λ (x : SplitterState). x.failed) now ∙ w.going;
          ends = ap (λ (x : SplitterState). x.ended) now;
          bytes_are = ap (λ (x : SplitterState). x.bytes) now;
          decoded = λ output d. of_stream t2 (decoded_fed output max s s2 (stream_state old.stream) (stream_state t2) (take used bytes) d
              (subst (λ x. HandlesAll max x s2 (stream_state old.stream) (stream_state t2)) is h));
        };
        count = refl;
      };
    }

-- the end was taken, and the last units handled
pub ended_on : {max : ℕ} {P : Type 0} (old : Parts max P) (s1 s2 : SplitterState) (t2 t3 : Stream) → IsWorking max old
    → s1 ≡ after_finish old.splitter → IsStream t3 → frames_in t3 ≤ most_frames → HandlesAll max s1 s2 (stream_state old.stream) (stream_state t2)
    → stream_state t3 ≡ after_stream_end (stream_state t2)
    → Ends max old t3.read
    (record { splitter = s2; stream = record t3 { queue = passed_on t3.queue }; outgoing = record old.outgoing { events = t3.queue.events } })
ended_on {max} old s1 s2 t2 t3 w is works few h ends =
    let s = old.splitter in
    let now = h.splitter ∙ ap (λ (x : SplitterState). record x { taken = x.taken + length (drop x.taken (units max x.bytes x.ended)) }) is in
    record {
      now = record {
        works = works;
        few = few;
        passed = record { events = refl; taken = refl };
        taken = refl;
        going = ap (λ (x : SplitterState). x.failed) now ∙ w.going;
        ends = ap (λ (x : SplitterState). x.ended) now;
        bytes_are = ap (λ (x : SplitterState). x.bytes) now;
        decoded = λ output d. of_stream t3 (decoded_finished output max s s2 (stream_state old.stream) (stream_state t2) (stream_state t3) d
            (subst (λ x. HandlesAll max x s2 (stream_state old.stream) (stream_state t2)) is h) ends);
      };
      count = refl;
    }

-- before the first piece
pub none_fed : {max : ℕ} {P : Type 0} (old : Parts max P) → IsWorking max old → HaveDecoded max old (old.splitter.bytes ++ []) false old
none_fed old w = record {
  works = w.stream;
  few = w.few;
  passed = w.passed;
  taken = refl;
  going = w.going;
  ends = w.unended;
  bytes_are = sym (append-nil old.splitter.bytes);
  decoded = λ output d. d;
}

-- the stream goes on
pub works_on : {max : ℕ} {P : Type 0} {old new : Parts max P} {bytes : List ℕ} → HaveDecoded max old bytes false new → IsWorking max new
works_on d = record { going = d.going; unended = d.ends; stream = d.works; few = d.few; passed = d.passed }

-- one piece after another
pub fed_more : {max : ℕ} {P : Type 0} {old mid new : Parts max P} (piece : List ℕ) (place used : ℕ) {read : ℕ}
    → HaveDecoded max old (old.splitter.bytes ++ take place piece) false mid → Feeds max mid (take used (drop place piece)) read new
    → HaveDecoded max old (old.splitter.bytes ++ take (place + used) piece) false new
fed_more {old = old} piece place used a f =
    let b = f.now in
    record {
      works = b.works;
      few = b.few;
      passed = b.passed;
      taken = b.taken ∙ a.taken;
      going = b.going;
      ends = b.ends;
      bytes_are = b.bytes_are ∙ ap (λ bs. bs ++ take used (drop place piece)) a.bytes_are ∙ append_assoc old.splitter.bytes _ _
          ∙ ap (λ bs. old.splitter.bytes ++ bs) (sym (take-add place used piece));
      decoded = λ output d. b.decoded output (a.decoded output d);
    }

-- ---- the same of the whole decoder

-- a machine of these parts
abbrev pub machine_of : Output → List ℕ → (ended : Bool) → (taken : ℕ) → (failed : Bool) → Machine
machine_of output bytes ended taken failed = record { output = output; bytes = bytes; ended = ended; taken = taken; failed = failed }

-- what the answer says
pub ok_so : {A : Type 0} (P : A → Type 0) (answer answer' : Result A OutOfMemory) (read : A) → IfOk answer P → answer' ≡ answer
    → answer' ≡ Ok read → P read
ok_so P answer answer' read is same e = rw (sym same ∙ e) at is

-- these bytes were decoded, or the end was
kept : {output : Output} {max : ℕ} {bytes : List ℕ} {ended : Bool} {taken : ℕ} {P : Type 0} (bytes' : List ℕ) (ended' : Bool)
    (p p' : Parts max P) {failed : Bool} {read : ℕ} → AreParts max (machine_of output bytes ended taken failed) p → ended ≡ false
    → HaveDecoded max p bytes' ended' p' → read ≡ p'.stream.read
    → IsDecoderState max (machine_of output bytes' ended' taken false) (Ok p') read
kept {output} {max} bytes' ended' p p' i unended n count =
    let d = n.decoded output (subst (λ e. IsDecoded output max p.splitter e (stream_state p.stream)) unended i.decoded) in
    record {
      count_is = count ∙ d.read ∙ ap (λ bs. turns output max bs ended') n.bytes_are;
      parts = record { works = n.works; few = n.few; passed = n.passed; decoded = d; bytes = n.bytes_are; taken = n.taken ∙ i.taken };
    }

-- nothing was handled
pub kept_new : {output : Output} {max : ℕ} {P E : Type 0} (bytes : List ℕ) (given : List E) (p : Parts max P) → bytes ≡ [] → given ≡ []
    → IsNew max output p → IsDecoderState max (machine_of output bytes false (length given) false) (Ok p) 0
kept_new {output} {max} bytes given p none nothing n = rw (none, nothing) (record {
  count_is = refl;
  parts = record {
    works = n.works;
    few = n.few;
    passed = record {
      events = ap (λ (q : QueueState). q.events) n.outgoing ∙ sym (ap (λ (t : StreamState). t.events) n.stream);
      taken = ap (λ (t : StreamState). t.taken) n.stream ∙ sym (ap (λ (t : StreamState). length t.events) n.stream);
    };
    decoded = rw (n.splitter, n.stream) (record { going = refl; ends = refl; counted = refl; state = λ _. refl; events = refl; read = refl });
    bytes = ap (λ (s : SplitterState). s.bytes) n.splitter;
    taken = ap (λ (q : QueueState). q.taken) n.outgoing;
  };
})

-- a piece more was handled
pub kept_fed : {output : Output} {max : ℕ} {bytes : List ℕ} {P : Type 0} (bytes' piece : List ℕ) {ended : Bool} {taken : ℕ}
    (running running' : PartsOrRefusal max P) {read read' : ℕ}
    → IsDecoderState max (machine_of output bytes ended taken (is_err running)) running read
    → ended ≡ false → bytes' ≡ bytes ++ piece → FeedsIn max running piece read' running'
    → IsDecoderState max (machine_of output bytes' ended taken (is_err running')) running' read'
kept_fed bytes' piece (Ok p) (Ok p') i unended given f =
    let same = ap (λ bs. bs ++ piece) i.parts.bytes ∙ sym given in
    rw unended (kept bytes' false p p' i.parts unended (subst (λ bs. HaveDecoded _ p bs false p') same f.now) f.count)
kept_fed bytes' piece _ _ i unended given f = absurd f

-- bytes up to a unit were handled
pub kept_fed_unit : {output : Output} {max : ℕ} {bytes : List ℕ} {P : Type 0} (bytes' all : List ℕ) {ended : Bool} {taken : ℕ}
    (running running' : PartsOrRefusal max P) {read : ℕ} (fed : Fed)
    → IsDecoderState max (machine_of output bytes ended taken (is_err running)) running read
    → ended ≡ false → bytes' ≡ bytes ++ take fed.used all → FeedsUnitIn max running all fed running'
    → IsDecoderState max (machine_of output bytes' ended taken (is_err running')) running' fed.read
kept_fed_unit bytes' all (Ok p) (Ok p') fed i unended given f = kept_fed bytes' (take fed.used all) (Ok p) (Ok p') i unended given f.feeds
kept_fed_unit bytes' all _ _ fed i unended given f = absurd f

-- the end was handled
pub kept_flushed : {output : Output} {max : ℕ} {bytes : List ℕ} {P : Type 0} {ended : Bool} {taken : ℕ}
    (running running' : PartsOrRefusal max P) {read read' : ℕ}
    → IsDecoderState max (machine_of output bytes ended taken (is_err running)) running read
    → ended ≡ false → EndsIn max running read' running'
    → IsDecoderState max (machine_of output bytes true taken (is_err running')) running' read'
kept_flushed {bytes = bytes} (Ok p) (Ok p') i unended f =
    kept bytes true p p' i.parts unended (subst (λ bs. HaveDecoded _ p bs true p') i.parts.bytes f.now) f.count
kept_flushed _ _ i unended f = absurd f

-- memory was refused to a call with these bytes: the count is that before it
pub kept_refused : {output : Output} {max : ℕ} {bytes : List ℕ} {P : Type 0} (bytes' piece : List ℕ) (ended ended' : Bool) {taken : ℕ}
    (running running' : PartsOrRefusal max P) {read : ℕ}
    → IsDecoderState max (machine_of output bytes ended taken (is_err running)) running read
    → is_err running ≡ false → ended ≡ false → bytes' ≡ bytes ++ piece → is_err running' ≡ true
    → IsDecoderState max (machine_of output bytes' ended' taken (is_err running')) running' read
kept_refused {output} {max} {bytes} bytes' piece false ended' (Ok p) (Err refusal) i going unended given err =
    rw given (record {
      count_is = le_trans (le_of_eq i.count_is) (turns_grow output max bytes piece ended');
      parts = tt;
    })
kept_refused bytes' piece _ ended' _ _ i going unended given err = cc

-- ---- one call more

pub run_more : (max : ℕ) (calls : List Call) (replies : List Reply) (old between new : Machine) (call : Call) (reply : Reply) → Run max old calls replies between → IsCallAnswer max between call reply new
    → Run max old (calls ++ call ∷ []) (replies ++ reply ∷ []) new
run_more max [] [] old between new call reply r s = (new, subst (λ (m : Machine). IsCallAnswer max m call reply new) r s, refl)
run_more max (x ∷ xs) (y ∷ ys) old between new call reply r s = (r.0, r.1, run_more max xs ys r.0 between new call reply r.2 s)
run_more max _ _ old between new call reply r s = absurd r

-- ---- the open picture, as it is lent

module _ (s : SequenceState) (c : CurrentPicture) (w : IsOpenIn s c) where
  abbrev opened : OpenPicture
  opened = opened_as s c.decoder w.last w.earlier

  abbrev before : History
  before = current_history s

  stands_there : history_of opened ≡ before
  stands_there = history_is opened before (stands_as s c w)

  all_slices : progress_on_history before c.decoder ≡ progress_on opened (history_of opened)
  all_slices =
      ap (λ ss. progress (start_with (stored_frames before) c.decoder) ss) w.slices ∙ ap (progress_on opened) (sym stands_there)

  decoded_by : (idr : Bool) → is_idr (w.last).header ≡ idr → IsDecodedBy opened c.decoder s.frames
  decoded_by true e =
      let none : (c.decoder).frames ≡ [] = rw (e, frames_for) at (w.frames).frames in
      let same = progress-other (start_at [] c.decoder) (stored_frames before) (c.decoder).slices ((w.frames).intra e) in
      record {
        sps_is = refl;
        pps_is = refl;
        slices_are = w.slices;
        well = w.well;
        indices = [];
        stand = rw none (record { each = refl; rising = none_rises });
        so_far = same ∙ all_slices;
        frames_are = λ other. absurd (false≢true (sym other ∙ e));
        stored = λ other. absurd (false≢true (sym other ∙ e));
        idr = λ _. none;
      }
  decoded_by false e =
      let a = (w.frames).stored e in
      let are : (c.decoder).frames ≡ s.frames = rw (e, frames_for) at (w.frames).frames in
      record {
        sps_is = refl;
        pps_is = refl;
        slices_are = w.slices;
        well = w.well;
        indices = a.indices;
        stand = subst (λ (fs : List (Frame 16)). StandAt a.indices (map marked_frame fs)) (sym are) a.stand;
        so_far = ap (λ fs. progress (start_with fs c.decoder) (c.decoder).slices) (ap (stored_at a.indices) are ∙ a.stored) ∙ all_slices;
        frames_are = λ _. are;
        stored = λ _. a.stored ∙ ap stored_frames (sym stands_there);
        idr = λ other. absurd (false≢true (sym e ∙ other));
      }

lent_as : (s : SequenceState) (phase : PhaseHere) (answer : Option LentPicture) → IsPhase s phase → LendsCurrent s (current_in phase) answer
    → IsLent (picture_of_phase (phase_of s phase)) answer
lent_as s (Running (Some c)) (Some lent) w is =
    let o = opened s c w in
    let here = decoded_by s c w (is_idr (w.last).header) refl in
    let lent_frames = subst (λ (fs : List (Frame 16)). IsDecodedBy o c.decoder fs) (sym is.1) here in
    subst (λ (p : Phase). IsLent (picture_of_phase p) (Some lent)) (sym (opened_phase s c w))
    (subst (λ (d : Decoding 16). IsDecodedBy o d lent.frames.now) (sym is.0) lent_frames)
lent_as s (Running (Some c)) None w is = absurd is
lent_as s (Running None) (Some lent) w is = is
lent_as s (Running None) None w is = tt
lent_as s Waiting (Some lent) w is = is
lent_as s Waiting None w is = tt

none_at_end : (max : ℕ) (output : Output) (bytes : List ℕ) (taken : ℕ) (failed : Bool) → IsOpenPictureAnswer max (machine_of output bytes true taken failed) None
none_at_end max output bytes taken true = refl
none_at_end max output bytes taken false = tt

pub ended_none : (max : ℕ) (m : Machine) → m.ended ≡ true → IsOpenPictureAnswer max m None
ended_none max m e = rw e (none_at_end max m.output m.bytes m.taken m.failed)

pub lent_in : {max : ℕ} {P : Type 0} (m : Machine) (running : PartsOrRefusal max P) (answer : Option LentPicture) → m.failed ≡ is_err running → m.ended ≡ false
    → IfOk running (AreParts max m) → LendsCurrentIn max running answer → IsOpenPictureAnswer max m answer
lent_in {max} m (Ok p) answer failed going parts is =
    let from = first_state m.output in
    let state : state_through from (units max m.bytes false) ≡ (stream_state p.stream).state =
    sym (parts.decoded.state going ∙ ap (λ bytes. state_through from (units max bytes false)) parts.bytes) in
    rw (failed, going, state) (lent_as (p.stream).sequence (p.stream).phase answer parts.works.stands is)
lent_in m (Err refusal) answer failed going parts is = rw failed is

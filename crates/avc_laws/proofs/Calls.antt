-- What calls and replies tell of a stream.
use Rattle.std.proofs.Common.{ap, sym, ◌∙◌, append-nil, append_assoc, length-append}
use Rattle.std.proofs.Math.Seq.{drop-append_seam}
use Rattle.std.specs.Prelude.{◌≡◌, refl, ℕ, ◌+◌, suc, Bool, true, false, List, [], ◌∷◌, ◌++◌, length, drop, slice_get, Some, None, Ok, Err}
use Rattle.avc_dpb.specs.declared.output.Output.{Output}
use Rattle.avc_decoder.proofs.Events.{drop_none, drop_some}
use Rattle.avc_decoder.specs.Events.{events}
use Rattle.avc_decoder.specs.Laws.{EventsOnlyGrow}
use Rattle.avc_decoder.specs.Machine.{IsCallAnswer, IsRefused, Machine, Run, after_feed as after_call, after_flush, after_take, new_machine, next_event}
use Rattle.avc_decoder.specs.SeenEvents.{Event}
use Rattle.avc_decoder.specs.declared.calls.Call.{Call}
use Rattle.avc_decoder.specs.declared.calls.Call.TheVariants.{Feed, Flush, Reset, Take}
use Rattle.avc_decoder.specs.declared.calls.Reply.{Reply}
use Rattle.avc_decoder.specs.declared.calls.Reply.TheVariants as replies
use Rattle.avc_decoder.specs.declared.error.DecodeError.TheVariants.{Ended, OutOfMemory as NoMemory}
use Rattle.avc_laws.specs.Headline.{SinceReset, TakesAll, TakesThem, defined_events, no_call, since_reset, with_call}

-- ---- what calls and replies tell of the stream

-- a machine that was not refused memory is as the calls and replies tell
pub record Agrees (m : Machine) (s : SinceReset) : Type 0 where
  pub bytes : m.bytes ≡ s.bytes
  pub ended : m.ended ≡ s.ended
  pub taken : m.taken ≡ length s.taken

-- the events that were taken are the first that are defined
abbrev pub IsFirst : Output → (max : ℕ) → SinceReset → Type 0
IsFirst output max s = (others : List Event) × (defined_events output max s ≡ s.taken ++ others)

pub record Tells (output : Output) (max : ℕ) (m : Machine) (s : SinceReset) : Type 0 where
  pub agrees : m.failed ≡ false → Agrees m s
  pub mode : m.output ≡ output
  pub first : IsFirst output max s

-- ---- the first that were not taken

next_is : {A : Type 0} (front others : List A) (x : A) → slice_get (front ++ others) (length front) ≡ Some x → (rest : List A) × (others ≡ x ∷ rest)
next_is front others x e =
    (drop (suc (length front)) (front ++ others), sym (drop-append_seam front others) ∙ drop_some (front ++ others) (length front) x (sym e))

none_left : {A : Type 0} (front others : List A) → slice_get (front ++ others) (length front) ≡ None → others ≡ []
none_left front others e = sym (drop-append_seam front others) ∙ drop_none (front ++ others) (length front) (sym e)

-- ---- one call

refused_fails : (before : Bool) (old after new : Machine) → old.failed ≡ before → new ≡ elim before [ true ↦ old | false ↦ record after { failed = true } ] → new.failed ≡ true
refused_fails true old after new was e = ap (λ (m : Machine). m.failed) e ∙ was
refused_fails false old after new was e = ap (λ (m : Machine). m.failed) e

refused_tells : (output : Output) (max : ℕ) (m after m' : Machine) (s : SinceReset) → IsRefused m after m' → m'.output ≡ m.output → Tells output max m s → Tells output max m' s
refused_tells output max m after m' s r kept t =
    let failed = refused_fails m.failed m after m' refl r.refused in
    record { agrees = λ going. let q : true ≡ false = sym failed ∙ going in cc; mode = kept ∙ t.mode; first = t.first }

-- with more bytes, or with the end said
bytes_grown : EventsOnlyGrow → (output : Output) (max : ℕ) (s : SinceReset) (more : List ℕ) (ended : Bool) → s.ended ≡ false → IsFirst output max s →
    (others : List Event) × (events output max (s.bytes ++ more) ended ≡ s.taken ++ others)
bytes_grown grow output max s more ended going f =
    let later = grow output max s.bytes more ended in (
      f.0 ++ later.0,
      later.1 ∙ ap (λ e. events output max s.bytes e ++ later.0) (sym going) ∙ ap (λ es. es ++ later.0) f.1 ∙ append_assoc s.taken f.0 later.0,
    )

fed_tells : EventsOnlyGrow → (output : Output) (max : ℕ) (m : Machine) (s : SinceReset) (piece : List ℕ) → m.failed ≡ false → m.ended ≡ false → Tells output max m s →
    Tells output max (after_call piece m) (record s { bytes = s.bytes ++ piece })
fed_tells grow output max m s piece going unended t =
    let a = t.agrees going in
    let f = bytes_grown grow output max s piece false (sym a.ended ∙ unended) t.first in
    record {
      agrees = λ _. record { bytes = ap (λ bs. bs ++ piece) a.bytes; ended = a.ended; taken = a.taken };
      mode = t.mode;
      first = (f.0, ap (λ e. events output max (s.bytes ++ piece) e) (sym a.ended ∙ unended) ∙ f.1);
    }

flushed_tells : EventsOnlyGrow → (output : Output) (max : ℕ) (m : Machine) (s : SinceReset) → m.failed ≡ false → m.ended ≡ false → Tells output max m s →
    Tells output max (after_flush m) (record s { ended = true })
flushed_tells grow output max m s going unended t =
    let a = t.agrees going in
    let f = bytes_grown grow output max s [] true (sym a.ended ∙ unended) t.first in
    record {
      agrees = λ _. record { bytes = a.bytes; ended = refl; taken = a.taken };
      mode = t.mode;
      first = (f.0, ap (λ bs. events output max bs true) (sym (append-nil s.bytes)) ∙ f.1);
    }

-- what a machine would hand out next, by what was taken
next_by : (output : Output) (max : ℕ) (m : Machine) (s : SinceReset) → m.output ≡ output → Agrees m s → (f : IsFirst output max s) → next_event max m ≡ slice_get (s.taken ++ f.0) (length s.taken)
next_by output max m s mode a f =
    ap (λ o. slice_get (events o max m.bytes m.ended) m.taken) mode
    ∙ ap (λ bs. slice_get (events output max bs m.ended) m.taken) a.bytes
    ∙ ap (λ e. slice_get (events output max s.bytes e) m.taken) a.ended
    ∙ ap (λ n. slice_get (events output max s.bytes s.ended) n) a.taken
    ∙ ap (λ es. slice_get es (length s.taken)) f.1

taken_tells : (output : Output) (max : ℕ) (m : Machine) (s : SinceReset) (e : Event) → m.failed ≡ false → Some e ≡ next_event max m → Tells output max m s →
    Tells output max (after_take (Some e) m) (record s { taken = s.taken ++ e ∷ [] })
taken_tells output max m s e going is t =
    let a = t.agrees going in
    let r = next_is s.taken t.first.0 e (sym (is ∙ next_by output max m s t.mode a t.first)) in
    record {
      agrees = λ _. record { bytes = a.bytes; ended = a.ended; taken = ap (λ n. n + 1) a.taken ∙ sym (length-append s.taken (e ∷ [])) };
      mode = t.mode;
      first = (r.0, t.first.1 ∙ ap (λ os. s.taken ++ os) r.1 ∙ sym (append_assoc s.taken (e ∷ []) r.0));
    }

at_first : (output : Output) (max : ℕ) (m : Machine) → m ≡ new_machine output → Tells output max m no_call
at_first output max m e = rw e (record {
  agrees = λ _. record { bytes = refl; ended = refl; taken = refl };
  mode = refl;
  first = (events output max [] false, refl);
})

answered : EventsOnlyGrow → (output : Output) (max : ℕ) (m m' : Machine) (s : SinceReset) (call : Call) (reply : Reply) → Tells output max m s → IsCallAnswer max m call reply m' → Tells output max m' (with_call s call reply)
answered grow output max m m' s (Feed piece) (replies.Fed (Ok done)) t g = rw g.2 (fed_tells grow output max m s piece g.0 g.1 t)
answered grow output max m m' s (Feed piece) (replies.Fed (Err Ended)) t g = rw g.2 t
answered grow output max m m' s (Feed piece) (replies.Fed (Err NoMemory)) t g = refused_tells output max m (after_call piece m) m' s g g.output t
answered grow output max m m' s Take (replies.Taken (Ok (Some e))) t g = rw g.2 (taken_tells output max m s e g.0 g.1 t)
answered grow output max m m' s Take (replies.Taken (Ok None)) t g = rw g.2 t
answered grow output max m m' s Take (replies.Taken (Err NoMemory)) t g = rw g.1 t
answered grow output max m m' s Flush (replies.Flushed (Ok done)) t g = rw g.2 (flushed_tells grow output max m s g.0 g.1 t)
answered grow output max m m' s Flush (replies.Flushed (Err Ended)) t g = rw g.2 t
answered grow output max m m' s Flush (replies.Flushed (Err NoMemory)) t g = refused_tells output max m (after_flush m) m' s g g.output t
answered grow output max m m' s Reset replies.Reset t g = at_first output max m' (g ∙ ap new_machine t.mode)
answered grow output max m m' s call reply t g = absurd g

-- ---- any calls

run_tells : EventsOnlyGrow → (output : Output) (max : ℕ) (m last : Machine) (s : SinceReset) (calls : List Call) (answers : List Reply) → Tells output max m s → Run max m calls answers last →
    Tells output max last (since_reset s calls answers)
run_tells grow output max m last s [] [] t r = rw r t
run_tells grow output max m last s (call ∷ calls) (reply ∷ answers) t r =
    run_tells grow output max r.0 last (with_call s call reply) calls answers (answered grow output max m r.0 s call reply t r.1) r.2
run_tells grow output max m last s _ _ t r = absurd r

pub takes_them : EventsOnlyGrow → TakesThem
takes_them grow output max calls answers last r = (run_tells grow output max (new_machine output) last no_call calls answers (at_first output max (new_machine output) refl) r).first

pub takes_all : EventsOnlyGrow → TakesAll
takes_all grow output max calls answers before last r none =
    let s = since_reset no_call calls answers in
    let t = run_tells grow output max (new_machine output) before no_call calls answers (at_first output max (new_machine output) refl) r in
    let g = none.1 in
    let left = none_left s.taken t.first.0 (sym (g.1 ∙ next_by output max before s t.mode (t.agrees g.0) t.first)) in
    t.first.1 ∙ ap (λ os. s.taken ++ os) left ∙ append-nil s.taken

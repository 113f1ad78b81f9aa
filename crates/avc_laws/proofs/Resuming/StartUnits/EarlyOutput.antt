-- What goes out in each mode of output: the same pictures.
pub mod Steps
unfoldable pub use Steps.*
use Rattle.avc_decoder.specs.Events.{running}

-- ---- pictures and refusals among events

pictures_after : (out : List Decoded) (es : List Event) → pictures_in (pictures out ++ es) ≡ out ++ pictures_in es
pictures_after [] es = refl
pictures_after (p ∷ out) es = ap (λ l. p ∷ l) (pictures_after out es)

refusals_after : (out : List Decoded) (es : List Event) → refusals_in (pictures out ++ es) ≡ refusals_in es
refusals_after [] es = refl
refusals_after (p ∷ out) es = refusals_after out es

pictures_alone : (out : List Decoded) → pictures_in (pictures out) ≡ out
pictures_alone [] = refl
pictures_alone (p ∷ out) = ap (λ l. p ∷ l) (pictures_alone out)

pub no_refusals : (out : List Decoded) → refusals_in (pictures out) ≡ []
no_refusals [] = refl
no_refusals (p ∷ out) = no_refusals out

pub pictures_in-append : (a b : List Event) → pictures_in (a ++ b) ≡ pictures_in a ++ pictures_in b
pictures_in-append [] b = refl
pictures_in-append (Picture p ∷ a) b = ap (λ l. p ∷ l) (pictures_in-append a b)
pictures_in-append (Refused unit f ∷ a) b = pictures_in-append a b

pub refusals_in-append : (a b : List Event) → refusals_in (a ++ b) ≡ refusals_in a ++ refusals_in b
refusals_in-append [] b = refl
refusals_in-append (Picture p ∷ a) b = refusals_in-append a b
refusals_in-append (Refused unit f ∷ a) b = ap (λ l. (unit, f) ∷ l) (refusals_in-append a b)

-- ---- a step of decoding, in each mode

-- what a sequence with this history has handed out at its end: all its pictures, or without those that were dropped
abbrev pub shown_by : Output → History → (dropped : Bool) → List Decoded
shown_by output h dropped = elim dropped [ true ↦ gone output h | false ↦ all_of output h ]

-- the same of sequences, one after another
abbrev pub all_in : Output → List EndedSequence → List Decoded
all_in output ended = flat_map (λ s. shown_by output s.history s.dropped) ended

shown_ended : (output : Output) (h : History) (dropped : Bool) → all_in output (ended_sequence h dropped) ≡ shown_by output h dropped
shown_ended output [] true = refl
shown_ended output [] false = refl
shown_ended output (e ∷ older) dropped = append-nil (shown_by output (e ∷ older) dropped)

abbrev pub IsSoundSequence : EndedSequence → Type 0
IsSoundSequence s = IsSound s.history

ended_sound : (h : History) (dropped : Bool) → IsSound h → All IsSoundSequence (ended_sequence h dropped)
ended_sound [] dropped s = All-nil IsSoundSequence
ended_sound (e ∷ older) dropped s = All-cons IsSoundSequence (record { history = e ∷ older; dropped = dropped }) [] s (All-nil IsSoundSequence)

-- Each picture of the phase's histories could come, and each entry was marked.
abbrev pub Sound : Phase → Type 0
Sound waiting = Prim.Unit {0}
Sound (running h None) = IsSound h
Sound (running h (Some o)) = IsSoundOpen o

sound_in : (p : Phase) → Sound p → IsSound (history_in p)
sound_in waiting s = none_sound
sound_in (running h None) s = s
sound_in (running h (Some o)) s = (base_grows o s.before).sound

pub stopped_sound : (p q : Phase) → Sound p → All IsSoundSequence (stopped p q)
stopped_sound p q s =
    if_either (All IsSoundSequence) (is_running p && is_waiting q) _ [] (ended_sound (history_in p) false (sound_in p s)) (All-nil IsSoundSequence)

-- From this phase these sequences end with a step with these outcomes, one in each mode. The phase and the refusals are the same
-- in each mode. What had gone out of the phase's history, and then what goes out with the step, is what the sequences hand out that
-- end, and then what has gone out of the history that decoding goes on with.
pub record Goes (p : Phase) (hs : List EndedSequence) (x : Output → Outcome) : Type 0 where
  pub same_phase : (output : Output) → (x output).phase ≡ (x Full).phase
  pub same_refusals : (output : Output) → refusals_in (x output).events ≡ refusals_in (x Full).events
  pub hands_out : (output : Output) →
      gone output (history_in p) ++ pictures_in (x output).events ≡ all_in output hs ++ gone output (history_in (x Full).phase)
  pub each_sound : All IsSoundSequence hs
  pub sound : Sound (x Full).phase

-- a step with which only this phase's sequence ends, if it stops decoding
abbrev pub Turns : (p : Phase) → (Output → Outcome) → Type 0
Turns p x = Goes p (stopped p (x Full).phase) x

-- one list after another
pub in_turn : {A : Type 0} (a b c d e f : List A) → a ++ b ≡ c ++ d → d ++ e ≡ f → a ++ (b ++ e) ≡ c ++ f
in_turn a b c d e f first second =
    sym (append_assoc a b e) ∙ ap (λ l. l ++ e) first ∙ append_assoc c d e ∙ ap (λ l. c ++ l) second

-- two steps
pub followed : (p q : Phase) (hs hs' : List EndedSequence) (x y : Output → Outcome) → (x Full).phase ≡ q → Goes p hs x → Goes q hs' y
    → Goes p (hs ++ hs') (λ output. followed_by (x output) (y output))
followed p q hs hs' x y is g k = record {
  same_phase = k.same_phase;
  same_refusals = λ output.
      refusals_in-append (x output).events (y output).events
      ∙ ap₂ (λ a b. a ++ b) (g.same_refusals output) (k.same_refusals output)
      ∙ sym (refusals_in-append (x Full).events (y Full).events);
  hands_out = λ output.
      let out = gone output (history_in p) in
      let next = gone output (history_in q) in
      let end = gone output (history_in (y Full).phase) in
      ap (λ l. out ++ l) (pictures_in-append (x output).events (y output).events)
      ∙ in_turn out (pictures_in (x output).events) (all_in output hs) next (pictures_in (y output).events) (all_in output hs' ++ end)
      (g.hands_out output ∙ ap (λ (r : Phase). all_in output hs ++ gone output (history_in r)) is) (k.hands_out output)
      ∙ sym (append_assoc (all_in output hs) (all_in output hs') end)
      ∙ ap (λ l. l ++ end) (sym (flat_map-append (λ s. shown_by output s.history s.dropped) hs hs'));
  each_sound = All-append IsSoundSequence hs hs' g.each_sound k.each_sound;
  sound = k.sound;
}

-- ---- what a step may be

-- these events, which bring the same refusals in each mode, and then this phase
pub turning : (p q : Phase) (events : Output → List Event) (read : ℕ) → ((output : Output) → refusals_in (events output) ≡ refusals_in (events Full))
    → ((output : Output) → gone output (history_in p) ++ pictures_in (events output) ≡ all_in output (stopped p q) ++ gone output (history_in q))
    → Sound p → Sound q → Turns p (λ output. record { events = events output; phase = q; read = read })
turning p q events read refusals out s t =
    record { same_phase = λ output. refl; same_refusals = refusals; hands_out = out; each_sound = stopped_sound p q s; sound = t }

-- nothing goes out, and the history stays
pub still : (p q : Phase) → stopped p q ≡ [] → history_in q ≡ history_in p → Sound p → Sound q → Turns p (λ output. no_change q)
still p q none same s t =
    turning p q (λ _. []) 0 (λ _. refl)
    (λ output. append-nil (gone output (history_in p)) ∙ ap (gone output) (sym same)
    ∙ ap (λ hs. all_in output hs ++ gone output (history_in q)) (sym none)) s t

not_stopped_on : (p : Phase) (h : History) (o : Option OpenPicture) → stopped p (running h o) ≡ []
not_stopped_on waiting h o = refl
not_stopped_on (running h' o') h o = refl

pub turns_not : (p : Phase) → Sound p → Turns p (λ output. no_change p)
turns_not waiting s = still waiting waiting refl refl s s
turns_not p s = still p p refl refl s s

turns_refused : (p : Phase) (unit : ℕ) (f : Fault) → Sound p
    → Turns p (λ output. record { events = Refused unit f ∷ []; phase = p; read = 0 })
turns_refused p unit f s = turning p p (λ _. Refused unit f ∷ []) 0 (λ _. refl) (turns_not p s).hands_out s s

-- all that is held goes out, and then these events
pub held_go_out : (p : Phase) (es : List Event) → pictures_in es ≡ [] → (output : Output)
    → gone output (history_in p) ++ pictures_in (pictures (held_pictures output (history_in p)) ++ es)
    ≡ all_in output (stopped p waiting) ++ gone output []
held_go_out p es none output =
    ap (λ l. gone output (history_in p) ++ l)
    (pictures_after (held_pictures output (history_in p)) es
    ∙ ap (λ l. held_pictures output (history_in p) ++ l) none
    ∙ append-nil (held_pictures output (history_in p)))
    ∙ by_phase p
  where
    by_history : (h : History) → gone output h ++ held_pictures output h ≡ all_in output (ended_sequence h false) ++ []
    by_history h = gone_and_held output h ∙ sym (shown_ended output h false) ∙ sym (append-nil (all_in output (ended_sequence h false)))

    by_phase : (q : Phase)
        → gone output (history_in q) ++ held_pictures output (history_in q) ≡ all_in output (stopped q waiting) ++ gone output []
    by_phase waiting = refl
    by_phase (running h None) = by_history h
    by_phase (running h (Some o)) = by_history (history_of o)

-- a fault
failed : (p : Phase) (unit : ℕ) (f : Fault) (read : ℕ) → Sound p → Turns p (λ output. failed_at output (history_in p) unit f read)
failed p unit f read s =
    turning p waiting (λ output. (failed_at output (history_in p) unit f read).events) read
    (λ output. refusals_after (held_pictures output (history_in p)) (Refused unit f ∷ [])
    ∙ sym (refusals_after (held_pictures Full (history_in p)) (Refused unit f ∷ [])))
    (held_go_out p (Refused unit f ∷ []) refl) s tt

-- pictures go out, and decoding goes on
shown : (p : Phase) (h : History) (o : Option OpenPicture) (read : ℕ) → Sound p → Sound (running h o)
    → Follows (history_in p) (history_in (running h o))
    → Turns p (λ output. record {
      events = pictures (output_pictures output (history_in p) (history_in (running h o)));
      phase = running h o;
      read = read;
    })
shown p h o read s t f =
    let old = history_in p in
    let new = history_in (running h o) in
    turning p (running h o) (λ output. pictures (output_pictures output old new)) read
    (λ output. no_refusals (output_pictures output old new) ∙ sym (no_refusals (output_pictures Full old new)))
    (λ output. ap (λ l. gone output old ++ l) (pictures_alone (output_pictures output old new)) ∙ gone_later output old new f
    ∙ ap (λ hs. all_in output hs ++ gone output new) (sym (not_stopped_on p h o))) s t

one_slice : (p : Phase) (already : ℕ) (o : OpenPicture) → Sound p → IsSoundOpen o → Follows (history_in p) (history_of o)
    → Turns p (λ output. with_slice output (history_in p) already o)
one_slice p already o s t f = by_fault (first_fault o false)
  where
    by_fault : (found : Option (ℕ × Fault)) → Turns p (λ output. slice_outcome output found (history_in p) o (history_of o) (read_of o - already))
    by_fault (Some found) = failed p found.0 found.1 (read_of o - already) s
    by_fault None = shown p o.before (Some o) (read_of o - already) s t f

first_of_picture : (p : Phase) (named : Option (Pps × Sps)) (s : Slice) → Sound p → HasItsMarking s.header
    → Turns p (λ output. after_first_slice output named (history_in p) s)
first_of_picture p None s sound marking =
    still p (running (history_in p) None) (not_stopped_on p (history_in p) None) refl sound (sound_in p sound)
first_of_picture p (Some named) s sound marking =
    let o : OpenPicture = record { before = history_in p; sps = named.1; pps = named.0; last = s; earlier = [] } in
    let before = sound_in p sound in
    one_slice p 0 o sound (record { before = before; idr = marking }) (base_grows o before).follows

-- ---- the steps

abbrev is_open : Phase → Bool
is_open waiting = false
is_open (running h None) = false
is_open (running h (Some o)) = true

pub next_turns : (units : List SetUnit) (unit : ℕ) (p : Phase) (n : Next) → Sound p → Allows n (is_open p)
    → Turns p (λ output. after_next output (sets_after units) unit p n)
next_turns units unit p Nothing s a = turns_not p s
next_turns units unit p (Refusal f) s a = turns_refused p unit f s
next_turns units unit p (FaultOfOpen f) s a = failed p unit f 0 s
next_turns units unit p (FaultOfOwn f) s a = failed p unit f 0 s
next_turns units unit (running h (Some o)) (Begins t) s a = absurd a
next_turns units unit waiting (Begins t) s a = first_of_picture waiting (sets_named (sets_after units) t.header) t s a
next_turns units unit (running h None) (Begins t) s a = first_of_picture (running h None) (sets_named (sets_after units) t.header) t s a
next_turns units unit (running h (Some o)) (Continues t) s a =
    one_slice (running h (Some o)) (read_of o) (record o { last = t; earlier = o.last ∷ o.earlier }) s
    (record { before = s.before; idr = s.idr }) (record { more = []; is = refl })
next_turns units unit p (Continues t) s a = turns_not p s

-- where the open picture is closed
pub closed_goes : (h : History) (o : OpenPicture) (r : Result History (ℕ × Fault)) → IsSoundOpen o
    → ((full : History) → r ≡ Ok full → IsSoundlyClosed o full)
    → Goes (running h (Some o)) (ended_by_closing o r) (λ output. closed_outcome output o r)
closed_goes h o (Err found) s closed = failed (running h (Some o)) found.0 found.1 0 s
closed_goes h o (Ok full) s closed = record {
  same_phase = λ output. refl;
  same_refusals = λ output. no_refusals (out output) ∙ sym (no_refusals (out Full));
  hands_out = λ output.
      ap (λ l. gone output base ++ l) (pictures_alone (out output))
      ∙ goes_out output (is_idr hd) (no_output_of_prior_pics hd.marking) (closed full refl).follows;
  each_sound =
      either (All IsSoundSequence) (is_idr hd) _ [] (λ _. ended_sound base _ (base_grows o s.before).sound) (λ _. All-nil IsSoundSequence);
  sound = (closed full refl).sound;
}
  where
    hd : Header
    hd = first_header o

    base : History
    base = history_of o

    out : Output → List Decoded
    out output = output_at_closing output hd base full

    -- by whether it is an IDR picture, and drops what is held
    ended : (idr drops : Bool) → List EndedSequence
    ended idr drops = elim idr [ true ↦ ended_sequence base drops | false ↦ [] ]

    by_drops : (output : Output) (drops : Bool) → gone output base ++ (if drops then [] else held_pictures output base) ≡ shown_by output base drops
    by_drops output true = append-nil (gone output base)
    by_drops output false = gone_and_held output base

    goes_out : (output : Output) (idr drops : Bool) → Follows (elim idr as (λ _. History) [ true ↦ [] | false ↦ base ]) full
        → gone output base
        ++ ((elim idr [ true ↦ (if drops then [] else held_pictures output base) | false ↦ [] ])
        ++ output_pictures output (elim idr [ true ↦ [] | false ↦ base ]) full)
        ≡ all_in output (ended idr drops) ++ gone output full
    goes_out output true drops f =
        sym (append_assoc (gone output base) (if drops then [] else held_pictures output base) (gone output full))
        ∙ ap (λ l. l ++ gone output full) (by_drops output drops ∙ sym (shown_ended output base drops))
    goes_out output false drops f = gone_later output base full f

-- ---- early output and full output hand out the same: what goes out of a stream that has ended are the pictures of its sequences: a unit

rests_after : (o : OpenPicture) (r : Result History (ℕ × Fault)) → is_open (closed_outcome Full o r).phase ≡ false
rests_after o (Ok full) = refl
rests_after o (Err found) = refl

-- it closes the open picture, and then comes a step with which no picture is open
closing_then : (h : History) (o : OpenPicture) (r : Result History (ℕ × Fault)) (next : Phase → Output → Outcome) → IsSoundOpen o
    → ((full : History) → r ≡ Ok full → IsSoundlyClosed o full) → ((q : Phase) → is_open q ≡ false → Sound q → Turns q (next q))
    → let q = (closed_outcome Full o r).phase in
    Goes (running h (Some o)) (ended_by_closing o r ++ stopped q (next q Full).phase) (λ output. followed_by (closed_outcome output o r) (next q output))
closing_then h o r next s closed turns =
    let q = (closed_outcome Full o r).phase in
    let g = closed_goes h o r s closed in
    followed (running h (Some o)) q (ended_by_closing o r) (stopped q (next q Full).phase) (λ output. closed_outcome output o r) (next q) refl g
    (turns q (rests_after o r) g.sound)

closing_goes : (units : List SetUnit) (unit : ℕ) (what : Step) (h : History) (o : OpenPicture) (r : Result History (ℕ × Fault))
    → IsSoundOpen o → Allows what.next false → ((full : History) → r ≡ Ok full → IsSoundlyClosed o full)
    → let x : Output → Outcome = λ output. after_closing output (sets_after units) unit what (closed_outcome output o r) in
    Goes (running h (Some o)) (ended_by_closing o r ++ stopped (closed_outcome Full o r).phase (x Full).phase) x
closing_goes units unit what h o r s a closed = by_result r closed
  where
    next : Phase → Output → Outcome
    next q output = after_next output (sets_after units) unit q what.next

    turns : (q : Phase) → is_open q ≡ false → Sound q → Turns q (next q)
    turns q none sound = next_turns units unit q what.next sound (subst (Allows what.next) (sym none) a)

    by_silent : (found : ℕ × Fault) (silent : Bool) → ((full : History) → Err found ≡ Ok full → IsSoundlyClosed o full)
        → let x : Output → Outcome = λ output. unless_silent silent (closed_outcome output o (Err found)) (next waiting output) in
        Goes (running h (Some o)) (ended_by_closing o (Err found) ++ stopped waiting (x Full).phase) x
    by_silent found true closed =
        let g = closed_goes h o (Err found) s closed in
        subst (λ ss. Goes (running h (Some o)) ss (λ output. closed_outcome output o (Err found))) (sym (append-nil (ended_by_closing o (Err found)))) g
    by_silent found false closed = closing_then h o (Err found) next s closed turns

    by_result : (r : Result History (ℕ × Fault)) → ((full : History) → r ≡ Ok full → IsSoundlyClosed o full)
        → let x : Output → Outcome = λ output. after_closing output (sets_after units) unit what (closed_outcome output o r) in
        Goes (running h (Some o)) (ended_by_closing o r ++ stopped (closed_outcome Full o r).phase (x Full).phase) x
    by_result (Ok full) closed = closing_then h o (Ok full) next s closed turns
    by_result (Err found) closed = by_silent found (not what.even_after_fault) closed

unit_goes : (units : List SetUnit) (unit : ℕ) (what : Step) (p : Phase) → Sound p → Fits (open_facts_in p) what.closes what.next
    → Goes p (ended_at_closing what.closes p ++ stopped (phase_after_closing Full what.closes p) (in_phase Full (sets_after units) unit what p).phase)
    (λ output. in_phase output (sets_after units) unit what p)
unit_goes units unit what waiting s fit = next_turns units unit waiting what.next s fit
unit_goes units unit what (running h None) s fit = next_turns units unit (running h None) what.next s fit
unit_goes units unit what (running h (Some o)) s fit = by_closes what.closes fit
  where
    p : Phase
    p = running h (Some o)

    by_closes : (b : Bool) → Allows what.next (not b)
        → let x : Output → Outcome = λ output. chosen b (after_closing output (sets_after units) unit what (closed_picture output o))
        (after_next output (sets_after units) unit p what.next) in
        Goes p (ended_at_closing b p ++ stopped (phase_after_closing Full b p) (x Full).phase) x
    by_closes true a = closing_goes units unit what h o (closing_result o) s a (λ full e. closed_sound o full s e)
    by_closes false a = next_turns units unit p what.next s a

-- ---- the end

-- all events up to the end as a step
abbrev to_end : (Output → List Event) → Output → Outcome
to_end events output = record { events = events output; phase = waiting; read = 0 }

held_goes : (q : Phase) → is_open q ≡ false → Sound q → Turns q (to_end (λ output. held_after output q))
held_goes waiting none s = turns_not waiting tt
held_goes (running h None) none s =
    turning (running h None) waiting (λ output. pictures (held_pictures output h)) 0
    (λ output. no_refusals (held_pictures output h) ∙ sym (no_refusals (held_pictures Full h)))
    (λ output. ap (λ es. gone output h ++ pictures_in es) (sym (append-nil (pictures (held_pictures output h))))
    ∙ held_go_out (running h None) [] refl output) s tt
held_goes (running h (Some o)) none s = cc none

end_by : (h : History) (o : OpenPicture) (r : Result History (ℕ × Fault)) → IsSoundOpen o
    → ((full : History) → r ≡ Ok full → IsSoundlyClosed o full)
    → Goes (running h (Some o)) (ended_by_closing o r ++ stopped (closed_outcome Full o r).phase waiting)
    (to_end (λ output. events_and_held output (closed_outcome output o r)))
end_by h o (Ok full) s closed = closing_then h o (Ok full) (λ q. to_end (λ output. held_after output q)) s closed held_goes
end_by h o (Err found) s closed = closing_then h o (Err found) (λ q. to_end (λ output. held_after output q)) s closed held_goes

at_end_goes : (p : Phase) → Sound p
    → Goes p (ended_at_closing true p ++ stopped (phase_after_closing Full true p) waiting) (to_end (λ output. at_end output p))
at_end_goes waiting s = turns_not waiting tt
at_end_goes (running h None) s = held_goes (running h None) refl s
at_end_goes (running h (Some o)) s = end_by h o (closing_result o) s (λ full e. closed_sound o full s e)

-- ---- all units

known : (p : Phase) → is_running p ≡ false → open_facts_in p ≡ None
known waiting e = refl
known (running h o) e = cc

-- the events of units in a mode
abbrev events_of : (units : List SetUnit) (p : Phase) → List Piece → Output → List Event
events_of units p us output = events_from (state_of output units p) us true

-- one step, and then the others
one_unit_more : (units : List SetUnit) (p : Phase) (us : List Piece) (hs hs' : List EndedSequence) (x : Output → Outcome) → Goes p hs x
    → Goes (x Full).phase hs' (to_end (events_of units (x Full).phase us))
    → Goes p (hs ++ hs') (to_end (λ output. (x output).events ++ events_of units (x output).phase us output))
one_unit_more units p us hs hs' x g e =
    let k = followed p (x Full).phase hs hs' x (to_end (events_of units (x Full).phase us)) refl g e in
    record {
      same_phase = λ output. refl;
      same_refusals = λ output. rw (g.same_phase output) (k.same_refusals output);
      hands_out = λ output. rw (g.same_phase output) (k.hands_out output);
      each_sound = k.each_sound;
      sound = tt;
    }

-- the units' events, and those of the end
all_end : (us : List Piece) (units : List SetUnit) (p : Phase) → Sound p → Goes p (sequences_from (state_of Full units p) us) (to_end (events_of units p us))
all_end [] units p s = at_end_goes p s
all_end (u ∷ us) units p s =
    let sets = sets_after units in
    let what = step sets (is_running p) (open_facts_in p) u in
    let x : Output → Outcome = λ output. in_phase output sets u.index what p in
    let after = units ++ set_units (u ∷ []) in
    let brings = brings_step sets (is_running p) (open_facts_in p) u (known p) in
    let goes = unit_goes units u.index what p s (fits sets u (open_facts_in p) what.closes what.next brings.brings) in
    one_unit_more after p us (ended_by_unit (state_of Full units p) u) (sequences_from (state_of Full after (x Full).phase) us) x goes
    (all_end us after (x Full).phase goes.sound)

-- ---- the law

same_sequence : EarlyOutputKeepsHistories → (s : EndedSequence) → IsSoundSequence s → IsNotDropped s → IsReorderedWithin s
    → shown_by Early s.history s.dropped ≡ shown_by Full s.history s.dropped
same_sequence keeps s sound all within =
    let h = s.history in
    ap (shown_by Early h) all ∙ ap (pictures_at h) (keeps h sound.each sound.marked within) ∙ sym (ap (shown_by Full h) all)

same_sequences : EarlyOutputKeepsHistories → (ss : List EndedSequence)
    → All IsSoundSequence ss → All IsNotDropped ss → All IsReorderedWithin ss → all_in Early ss ≡ all_in Full ss
same_sequences keeps [] sound all within = refl
same_sequences keeps (s ∷ ss) sound all within =
    ap₂ (λ a b. a ++ b)
    (same_sequence keeps s (All-head IsSoundSequence s ss sound) (All-head IsNotDropped s ss all) (All-head IsReorderedWithin s ss within))
    (same_sequences keeps ss (All-tail IsSoundSequence s ss sound) (All-tail IsNotDropped s ss all) (All-tail IsReorderedWithin s ss within))

pub early_output : EarlyOutputKeepsHistories → EarlyOutputKeepsPictures
early_output keeps max bytes kept within =
    let all = all_end (units max bytes true) [] waiting tt in
    record {
      pictures =
          all.hands_out Early
          ∙ ap (λ out. out ++ []) (same_sequences keeps (sequences max bytes) all.each_sound kept within)
          ∙ sym (all.hands_out Full);
      refusals = all.same_refusals Early;
    }

-- The step of a unit: what it brings, and what it does to the phase.
pub mod OpenPictures
unfoldable pub use OpenPictures.*
use Rattle.std.specs.Prelude.{◌||◌}
use Rattle.avc_types.specs.Results.{◌>>=◌}
use Rattle.avc_units.specs.Grouping.{pps as pps_kind, slice as slice_kind, sps as sps_kind, list_of}
use Rattle.avc_decoder.specs.Events.{running as running_phase}

-- ---- a picture that is closed

-- where no fault is found, whatever `others` looks for on the history with the missing numbers
opens : (address : ℕ) (opened : Result History Fault) (unit : ℕ) (before : History) (others : History → Option (ℕ × Fault))
    → fault_by address unit opened others ≡ None → opened ≡ Ok (history_by address opened before)
opens zero (Ok h) unit before others e = refl
opens _ opened unit before others e = cc

-- the open picture has no fault, and closing gives this history
pub has_closed : (o : OpenPicture) (full : History) → closing_result o ≡ Ok full
    → (history_at_opening_of o ≡ Ok (history_of o)) × (closed_history o (history_of o) ≡ Ok full)
has_closed o full e = by_fault (first_fault o true) refl (closed_history o (history_of o)) refl e
  where
    opened_there : first_fault o true ≡ None → history_at_opening_of o ≡ Ok (history_of o)
    opened_there = opens (first_header o).first_mb_in_slice (history_at_opening_of o) (first_slice o).unit o.before _

    by_fault : (f : Option (ℕ × Fault)) → first_fault o true ≡ f → (r : Result History Fault) → closed_history o (history_of o) ≡ r
        → unless_found f (at_last_slice o r) ≡ Ok full → (history_at_opening_of o ≡ Ok (history_of o)) × (closed_history o (history_of o) ≡ Ok full)
    by_fault None is (Ok h) closed e' = let same : h ≡ full = cc in (opened_there is, closed ∙ ap Ok same)
    by_fault _ is r closed e' = cc

-- the history that it gives can be marked
pub closing_is : (sps : Sps) (hd : Header) (unit : ℕ) (planes : Planes) (h full : History) → history_after_closing sps hd unit planes h ≡ Ok full
    → (full ≡ with_picture sps hd unit planes h) × (is_ok (marks_of full) ≡ true)
closing_is sps hd unit planes h full e = by_marks (with_picture sps hd unit planes h) (marks_of (with_picture sps hd unit planes h)) refl e
  where
    by_marks : (x : History) (r : Result Marks Fault) → marks_of x ≡ r → (r >>= λ m. Ok x) ≡ Ok full
        → (full ≡ x) × (is_ok (marks_of full) ≡ true)
    by_marks x (Ok m) is e' = let same = sym (ok_same x full e') in (same, ap (λ l. is_ok (marks_of l)) same ∙ ap is_ok is)
    by_marks x (Err f) is e' = cc

-- ---- what the grouper's steps bring, and when they keep the parameter sets: what comes next

-- no picture is open after closing
abbrev pub rests : (closes : Bool) → Option OpenPictureFacts → Bool
rests true open' = true
rests false None = true
rests false (Some o) = false

abbrev pub GoesOn : Option OpenPictureFacts → Slice → Type 0
GoesOn None s = ⊥
GoesOn (Some o) s = begins o.last s.header ≡ false

abbrev pub BringsNext : (read : Result Slice Fault) → Option OpenPictureFacts → (closes : Bool) → Next → Type 0
BringsNext read open' closes (Begins s) = (rests closes open' ≡ true) × (read ≡ Ok s)
BringsNext read open' closes (Continues s) = (closes ≡ false) × GoesOn open' s × (read ≡ Ok s)
BringsNext read open' closes _ = Prim.Unit {0}

-- A picture begins where none is open, and goes on where the last slice is of the same one; its slice is the one that is read.
pub record Brings (read : Result Slice Fault) (open' : Option OpenPictureFacts) (w : Step) : Type 0 where
  pub brings : BringsNext read open' w.closes w.next

brings_unreadable : (read : Result Slice Fault) (open' : Option OpenPictureFacts) (f : Fault) → Brings read open' (unreadable open' f)
brings_unreadable read None f = record { brings = tt }
brings_unreadable read (Some o) f =
    either (Brings read (Some o)) o.full _ _ (λ _. record { brings = tt }) (λ _. record { brings = tt })

brings_slice : (open' : Option OpenPictureFacts) (starts : Bool) (read : Result Slice Fault) → Brings read open' (slice_step open' starts read)
brings_slice None starts (Ok s) = record { brings = (refl, refl) }
brings_slice (Some o) starts (Ok s) =
    either (Brings (Ok s) (Some o)) (begins o.last s.header) _ _ (λ _. record { brings = (refl, refl) }) (λ e. record { brings = (refl, e, refl) })
brings_slice open' starts (Err f) = brings_unreadable (Err f) open' f

brings_set : (read : Result Slice Fault) (open' : Option OpenPictureFacts) (f : Option Fault) → Brings read open' (ends_picture (refusal_of f))
brings_set read open' None = record { brings = tt }
brings_set read open' (Some f) = record { brings = tt }

brings_running : (sets : Sets) (open' : Option OpenPictureFacts) (u : Piece) (k : Kind) → Brings (slice_in sets u) open' (running_step sets open' u k)
brings_running sets open' u (slice_kind idr) = brings_slice open' (is_start u) (slice_in sets u)
brings_running sets open' u partition = brings_unreadable (slice_in sets u) open' DataPartition
brings_running sets open' u sps_kind = brings_set (slice_in sets u) open' (set_fault sps_kind (rbsp_of u))
brings_running sets open' u pps_kind = brings_set (slice_in sets u) open' (set_fault pps_kind (rbsp_of u))
brings_running sets open' u _ = record { brings = tt }

brings_waiting : (sets : Sets) (u : Piece) (k : Kind) → Brings (slice_in sets u) None (waiting_step sets u k)
brings_waiting sets u (slice_kind idr) =
    either (Brings (slice_in sets u) None) (is_start u) _ _ (λ _. brings_running sets None u (slice_kind idr)) (λ _. record { brings = tt })
brings_waiting sets u partition = record { brings = tt }
brings_waiting sets u k = brings_running sets None u k

pub brings_step : (sets : Sets) (running : Bool) (open' : Option OpenPictureFacts) (u : Piece) → (running ≡ false → open' ≡ None)
    → Brings (slice_in sets u) open' (step sets running open' u)
brings_step sets running open' u w =
    either (Brings (slice_in sets u) open') (forbidden_zero_bit u.header) _ _ (λ _. record { brings = tt })
    (λ _. either (Brings (slice_in sets u) open') running _ _ (λ _. brings_running sets open' u (kind u))
    (λ e. rw (w e) (brings_waiting sets u (kind u))))

-- ---- the parameter sets

abbrev at_kind : Sets → Option OpenPictureFacts → Piece → (running : Bool) → Kind → Step
at_kind sets open' u running k = elim running [ true ↦ running_step sets open' u k | false ↦ waiting_step sets u k ]

abbrev at_bit : (forbidden : Bool) → Step → Step
at_bit forbidden w =
    elim forbidden [ true ↦ record { closes = false; next = Refusal ForbiddenBit; even_after_fault = true } | false ↦ w ]

keeps_by_kind : (k : Kind) (running : Bool) (sets : Sets) (open' : Option OpenPictureFacts) (u : Piece)
    → (at_kind sets open' u running k).closes ≡ false → set_of k (rbsp_of u) ≡ None
keeps_by_kind sps_kind true sets open' u h = cc
keeps_by_kind sps_kind false sets open' u h = cc
keeps_by_kind pps_kind true sets open' u h = cc
keeps_by_kind pps_kind false sets open' u h = cc
keeps_by_kind _ running sets open' u h = refl

-- a unit that does not end the open picture brings none
pub keeps_sets : (sets : Sets) (running : Bool) (open' : Option OpenPictureFacts) (u : Piece) → (step sets running open' u).closes ≡ false
    → set_units (u ∷ []) ≡ []
keeps_sets sets running open' u = by_bit (forbidden_zero_bit u.header)
  where
    by_bit : (b : Bool) → (at_bit b (at_kind sets open' u running (kind u))).closes ≡ false
        → list_of (if b then None else set_of (kind u) (rbsp_of u)) ++ [] ≡ []
    by_bit true h = refl
    by_bit false h = ap (λ s. list_of s ++ []) (keeps_by_kind (kind u) running sets open' u h)

-- ---- a further slice

-- both of two fail where one of them would do
neither : (a b : Bool) → (a || b) ≡ false → (a ≡ false) × (b ≡ false)
neither true b e = absurd (false≢true (sym e))
neither false b e = (refl, e)

not_so : (a : Bool) → not a ≡ false → a ≡ true
not_so true e = refl
not_so false e = absurd (false≢true (sym e))

-- it names the picture parameter set that the slice before it names
pub same_set : (g h : Header) → begins g h ≡ false → g.pic_parameter_set_id ≡ h.pic_parameter_set_id
same_set g h e =
    let sets = (neither _ _ (neither _ _ (neither _ _ (neither _ _ e).0).0).0).1 in
    eqb-true g.pic_parameter_set_id h.pic_parameter_set_id (not_so _ sets)

same_some : (g h : Header) (a b : Option ℕ) → begins (record g { idr_pic_id = a }) (record h { idr_pic_id = b }) ≡ false → is_some a ≡ is_some b
same_some g h (Some a) None e = absurd (false≢true (sym (neither _ true e).1))
same_some g h None (Some b) e = absurd (false≢true (sym (neither _ true e).1))
same_some g h _ _ e = refl

-- it is one of an IDR picture where the slice before it is
pub same_kind : (g h : Header) → begins g h ≡ false → is_idr g ≡ is_idr h
same_kind g h e = same_some g h g.idr_pic_id h.idr_pic_id e

-- ---- what the phase knows of the open picture

-- where none is open, a new one is decoded on that of the sequence
pub base_here : (s : SequenceState) (p : PhaseHere) → IsPhase s p → current_in p ≡ None
    → base_in (phase_of s p) ≡ s.history
base_here s Waiting w none = sym w.1
base_here s (Running None) w none = refl
base_here s (Running (Some c)) w none = refl

pub none_open : (s : SequenceState) (p : PhaseHere) → IsPhase s p → current_in p ≡ None → s.open_picture ≡ None
none_open s Waiting w none = (w.0).none
none_open s (Running None) w none = w.none
none_open s (Running (Some c)) w none = cc

-- ---- what a unit finds

pub facts_are : (s : SequenceState) (p : PhaseHere) (last : Option Header) (full : Bool) → IsPhase s p
    → last ≡ last_header_in p → IfSome (current_in p) (λ c. IsFull full c.decoder)
    → open_picture_of full last ≡ open_facts_in (phase_of s p)
facts_are s (Running (Some c)) last full w e f =
    let o = opened_as s c.decoder w.last w.earlier in
    let full_at : History → Bool = λ h. is_full (start_on o h) (progress_on o h) in
    let same = ap full_at (history_is o (current_history s) (stands_as s c w))
    ∙ on_open s c w (λ g. is_full (start_on o (current_history s)) g ≡ full) f in
    let here : open_picture_of full (Some c.last_header) ≡ open_facts_in (running_phase s.history (Some o)) = rw (w.header, sym same) refl in
    rw e (here ∙ ap open_facts_in (sym (opened_phase s c w)))
facts_are s _ last full w e f = rw e refl

pub runs : (s : SequenceState) (p : PhaseHere) → not (is_waiting_in p) ≡ is_running (phase_of s p)
runs s (Running (Some c)) = refl
runs s _ = refl

-- ---- a further slice

-- a slice that can be decoded is within the sets that it names
pub within_named : (sets : Sets) (slice : Slice) (pps : Pps) (sps : Sps) → IsSliceUnder sets slice → sets.pps (slice.header).pic_parameter_set_id ≡ Some pps → sets.sps pps.seq_parameter_set_id ≡ Some sps
    → IsHeader sps pps slice.rbsp slice.header
within_named sets slice pps sps t ep es =
    let p : t.pps ≡ pps = some_is t.pps pps (sym t.pps_is ∙ ep) in
    let s : t.sps ≡ sps = some_is t.sps sps (sym t.sps_is ∙ ap (λ (q : Pps). sets.sps q.seq_parameter_set_id) p ∙ es) in
    rw (p, s) at t.within

-- a picture's sets are those that its first slice names
pub named_first : (sets : Sets) (slice : Slice) (sps : Sps) (pps : Pps) (frames : List (Frame 16))
    → IsSliceUnder sets slice → sets_named sets slice.header ≡ Some (pps, sps)
    → IsNamed sets (begun_with_slice sps pps frames slice)
named_first sets slice sps pps frames t e =
    let named = named_is sets slice.header t.pps t.sps t.pps_is t.sps_is in
    subst (λ (x : Pps × Sps). IsNamed sets (begun_with_slice x.1 x.0 frames slice)) (some_is _ _ (sym named ∙ e)) (record { pps = t.pps_is; sps = t.sps_is })

-- and so are those that a further one names
pub named_further : (sets : Sets) (p : PhaseHere) (slice : Slice) → IfSome (current_in p) (IsNamed sets)
    → IfSome (current_in p) (λ c. begins c.last_header slice.header ≡ false)
    → IfSome (current_in p) (λ c. IsNamed sets (with_last slice c))
named_further sets (Running (Some c)) slice named goes = record
    { pps = ap sets.pps (sym (same_set c.last_header slice.header goes)) ∙ named.pps; sps = named.sps }
named_further sets _ slice named goes = tt

pub can_have : (sets : Sets) (s : SequenceState) (p : PhaseHere) (slice : Slice) → Works sets s p
    → IsSliceUnder sets slice → IfSome (current_in p) (λ c. begins c.last_header slice.header ≡ false)
    → IfSome (current_in p) (λ c. CanHave s c.decoder slice)
can_have sets s (Running (Some c)) slice w t goes =
    let open' = w.stands in
    let named = named_further sets (Running (Some c)) slice w.named goes in
    record {
      frames = same_frames s (open'.last).header slice.header c.decoder
          (ap is_idr (sym open'.header) ∙ same_kind c.last_header slice.header goes) open'.frames;
      within = within_named sets slice (c.decoder).pps (c.decoder).sps t named.pps named.sps;
    }
can_have sets s _ slice w t goes = tt

-- ---- what a unit does, joined from its parts: closing the open picture, and what comes next: what a step asks for can be carried out

-- where no picture is open
fits_none : (sets : Sets) (p : PhaseHere) (next : Next) → current_in p ≡ None → IfSlice next (IsSliceUnder sets)
    → FitsPhase sets p next
fits_none sets p (Begins s) none under = (under, none)
fits_none sets p (Continues s) none under = (under, rw none tt)
fits_none sets p _ none under = tt

-- where it stays open
fits_open : (sets : Sets) (c : CurrentPicture) (full : Bool) (read : Result Slice Fault) (next : Next)
    → BringsNext read (open_picture_of full (Some c.last_header)) false next → IfSlice next (IsSliceUnder sets)
    → FitsPhase sets (Running (Some c)) next
fits_open sets c full read (Begins s) b under = cc b.0
fits_open sets c full read (Continues s) b under = (under, b.1)
fits_open sets c full read _ b under = tt

-- the open picture is not closed, or there is none
pub fits_before : {table table' : List SetUnit} (p : PhaseHere) {u : Piece} {w : Step} → HasStep table p u w table'
    → (w.closes && is_some (current_in p)) ≡ false → FitsPhase (sets_after table') p w.next
fits_before {table} {table'} (Running (Some c)) {u} {w} k stays =
    let facts = open_picture_of k.full (Some c.last_header) in
    let brings = brings_step (sets_after table) true facts u (λ e. absurd (false≢true (sym e))) in
    let here : Brings (slice_in (sets_after table) u) facts w = subst (Brings (slice_in (sets_after table) u) facts) (sym k.is) brings in
    fits_open (sets_after table') c k.full (slice_in (sets_after table) u) w.next
    (subst (λ b. BringsNext (slice_in (sets_after table) u) facts b w.next) (sym (and-true w.closes) ∙ stays) here.brings) k.under
fits_before {table' = table'} p {w = w} k stays = fits_none (sets_after table') p w.next refl k.under

-- its parameter sets stay in force
pub works_before : {table table' : List SetUnit} {s : SequenceState} (p : PhaseHere) {u : Piece} {w : Step}
    → Works (sets_after table) s p → HasStep table p u w table'
    → (w.closes && is_some (current_in p)) ≡ false → Works (sets_after table') s p
works_before {table} {table'} (Running (Some c)) {u} {w} works k stays =
    let none = keeps_sets (sets_after table) true (open_picture_of k.full (Some c.last_header)) u
    (ap (λ (x : Step). x.closes) (sym k.is) ∙ sym (and-true w.closes) ∙ stays) in
    let same : table' ≡ table = k.put ∙ ap (λ ss. table ++ ss) none ∙ append-nil table in
    rw same works
works_before _ works k stays = record { stands = works.stands; named = tt }

-- ---- closing

closed_facts : (output : Output) (o : OpenPicture) (x : Result History (ℕ × Fault))
    → open_facts_in (closed_outcome output o x).phase ≡ None
closed_facts output o (Ok h) = refl
closed_facts output o (Err found) = refl

none_after_closing : (output : Output) (p : Phase) → open_facts_in (closed_in output p).phase ≡ None
none_after_closing output (running_phase h (Some o)) = closed_facts output o (closing_result o)
none_after_closing output _ = refl

none_here : (s : SequenceState) (p : PhaseHere) → IsPhase s p → open_facts_in (phase_of s p) ≡ None
    → current_in p ≡ None
none_here s (Running (Some c)) w e =
    let there = sym (ap open_facts_in (opened_phase s c w)) ∙ e in
    cc
none_here s _ w e = refl

-- it leaves none open
pub fits_closed : (t t' : Stream) (next : Next)
    → HasOutcome t (closed_in t.sequence.output (phase_of t.sequence t.phase)) t' → IfSlice next (IsSliceUnder (sets_after t.table))
    → FitsPhase (sets_after t'.table) t'.phase next
fits_closed t t' next r under =
    rw r.sets (fits_none (sets_after t.table) t'.phase next
    (none_here t'.sequence t'.phase r.works.stands
    (ap open_facts_in r.phase ∙ none_after_closing t.sequence.output (phase_of t.sequence t.phase))) under)

-- nothing is read
closed_read : (output : Output) (o : OpenPicture) (x : Result History (ℕ × Fault))
    → (closed_outcome output o x).read ≡ 0
closed_read output o (Ok h) = refl
closed_read output o (Err f) = refl

pub none_read : (output : Output) (p : Phase) → (closed_in output p).read ≡ 0
none_read output (running_phase h (Some o)) = closed_read output o (closing_result o)
none_read output _ = refl

-- ---- what the unit comes to

-- where it does not close the open picture, or there is none
stays_as : (output : Output) (sets : Sets) (unit : ℕ) (w : Step) (s : SequenceState) (p : PhaseHere) → IsPhase s p
    → (w.closes && is_some (current_in p)) ≡ false
    → in_phase output sets unit w (phase_of s p) ≡ after_next output sets unit (phase_of s p) w.next
stays_as output sets unit w s (Running (Some c)) stands e = rw (opened_phase s c stands)
    (rw (sym (and-true w.closes) ∙ e) refl)
stays_as output sets unit w s _ stands e = refl

-- where it does
closes_as : (output : Output) (sets : Sets) (unit : ℕ) (w : Step) (s : SequenceState) (p : PhaseHere) → IsPhase s p
    → (w.closes && is_some (current_in p)) ≡ true
    → in_phase output sets unit w (phase_of s p) ≡ after_closing output sets unit w (closed_in output (phase_of s p))
closes_as output sets unit w s (Running (Some c)) stands e = rw (opened_phase s c stands)
    (rw (sym (and-true w.closes) ∙ e) refl)
closes_as output sets unit w s _ stands e = absurd (false≢true (second_so w.closes false e))

waits_here : (s : SequenceState) (p : PhaseHere) → is_waiting (phase_of s p) ≡ is_waiting_in p
waits_here s (Running (Some c)) = refl
waits_here s _ = refl

-- the sets before a slice are those after it
same_next : (output : Output) (next : Next) (table table' : List SetUnit) (unit : ℕ) (p : Phase)
    → IfSlice next (λ _. table' ≡ table)
    → after_next output (sets_after table') unit p next ≡ after_next output (sets_after table) unit p next
same_next output (Begins s) table table' unit p e = ap (λ t. after_next output (sets_after t) unit p (Begins s)) e
same_next output _ table table' unit p e = refl

-- one outcome, in which nothing is read, and then another
then_comes : (t t1 t' : Stream) (o1 o2 : Outcome) → o1.read ≡ 0 → HasOutcome t o1 t1
    → HasOutcome t1 o2 t' → HasOutcome t (followed_by o1 o2) t'
then_comes t t1 t' o1 o2 none a b = record {
  works = b.works;
  phase = b.phase;
  output_is = b.output_is ∙ a.output_is;
  queue = b.queue ∙ ap (with_events o2.events) a.queue
      ∙ ap (λ es. record t.queue { events = es }) (append_assoc t.queue.events o1.events o2.events);
  count = b.count ∙ ap (λ m. more_read m o2.read) (a.count ∙ ap (more_read t.read) none)
      ∙ ap (more_read t.read) (omega (arith, none));
  sets = b.sets ∙ a.sets;
}

-- the stream's state is that after the unit
unit_done : (t t' : Stream) (table1 : List SetUnit) (u : Piece) (x : Outcome) → HasOutcome (record t { table = table1 }) x t'
    → table1 ≡ t.table ++ set_units (u ∷ []) → x ≡ after_unit (stream_state t).state u
    → stream_state t' ≡ after_unit_in_stream u (stream_state t)
unit_done t t' table1 u x r put is = rw (r.output_is, r.sets, put, r.phase, r.queue, r.count, is) refl

-- what after_unit is by the step that the unit has
unit_is : (t : Stream) (table' : List SetUnit) (u : Piece) (w : Step) → IsPhase t.sequence t.phase → HasStep t.table t.phase u w table'
    → in_phase t.sequence.output (sets_after t.table) u.index w (phase_of t.sequence t.phase) ≡ after_unit (stream_state t).state u
unit_is t table' u w stands k =
    let sets = sets_after t.table in
    let p = phase_of t.sequence t.phase in
    ap (λ v. in_phase t.sequence.output sets u.index v p)
    (k.is ∙ ap (λ r. step sets r (open_picture_of k.full (last_header_in t.phase)) u) (runs t.sequence t.phase)
    ∙ ap (λ o. step sets (is_running p) o u) (facts_are t.sequence t.phase (last_header_in t.phase) k.full stands refl k.is_full))

-- the open picture stays open, or there is none
pub stays : (t t' : Stream) {table1 : List SetUnit} {u : Piece} {w : Step} → IsPhase t.sequence t.phase
    → HasStep t.table t.phase u w table1 → (w.closes && is_some (current_in t.phase)) ≡ false
    → HasOutcome (record t { table = table1 })
    (after_next t.sequence.output (sets_after table1) u.index (phase_of t.sequence t.phase) w.next) t'
    → stream_state t' ≡ after_unit_in_stream u (stream_state t)
stays t t' {table1} {u} {w} stands k open' r =
    let p = phase_of t.sequence t.phase in
    unit_done t t' table1 u _ r k.put
    (same_next t.sequence.output w.next t.table table1 u.index p k.same
    ∙ sym (stays_as t.sequence.output (sets_after t.table) u.index w t.sequence t.phase stands open')
    ∙ unit_is t table1 u w stands k)

-- what the unit gives once the picture is closed
after_it : (t t1 : Stream) (table1 : List SetUnit) (u : Piece) (w : Step) (silent : Bool) → IsPhase t.sequence t.phase
    → HasStep t.table t.phase u w table1 → (w.closes && is_some (current_in t.phase)) ≡ true
    → HasOutcome (record t { table = table1 }) (closed_in t.sequence.output (phase_of t.sequence t.phase)) t1
    → (is_waiting_in t1.phase && not w.even_after_fault) ≡ silent
    → let o = closed_in t.sequence.output (phase_of t.sequence t.phase) in
    unless_silent silent o (after_next t.sequence.output (sets_after t.table) u.index o.phase w.next) ≡ after_unit (stream_state t).state u
after_it t t1 table1 u w silent stands k shuts r is =
    cc (
      waits_here t1.sequence t1.phase,
      closes_as t.sequence.output (sets_after t.table) u.index w t.sequence t.phase stands shuts,
      unit_is t table1 u w stands k,
    )

-- it was closed; that was a fault, and nothing comes after it
pub closes_silently : (t t' : Stream) {table1 : List SetUnit} {u : Piece} {w : Step} → IsPhase t.sequence t.phase
    → HasStep t.table t.phase u w table1 → (w.closes && is_some (current_in t.phase)) ≡ true
    → HasOutcome (record t { table = table1 }) (closed_in t.sequence.output (phase_of t.sequence t.phase)) t'
    → (is_waiting_in t'.phase && not w.even_after_fault) ≡ true
    → stream_state t' ≡ after_unit_in_stream u (stream_state t)
closes_silently t t' {table1} {u} {w} stands k shuts r silent =
    unit_done t t' table1 u _ r k.put (after_it t t' table1 u w true stands k shuts r silent)

-- it was closed, and then comes what the unit does next
pub closes_and_goes_on : (t t1 t' : Stream) {table1 : List SetUnit} {u : Piece} {w : Step} → IsPhase t.sequence t.phase
    → HasStep t.table t.phase u w table1 → (w.closes && is_some (current_in t.phase)) ≡ true
    → HasOutcome (record t { table = table1 }) (closed_in t.sequence.output (phase_of t.sequence t.phase)) t1
    → (is_waiting_in t1.phase && not w.even_after_fault) ≡ false
    → HasOutcome t1 (after_next t1.sequence.output (sets_after t1.table) u.index (phase_of t1.sequence t1.phase) w.next) t'
    → stream_state t' ≡ after_unit_in_stream u (stream_state t)
closes_and_goes_on t t1 t' {table1} {u} {w} stands k shuts r on r' =
    let output = t.sequence.output in
    let o = closed_in output (phase_of t.sequence t.phase) in
    let next : after_next t1.sequence.output (sets_after t1.table) u.index (phase_of t1.sequence t1.phase) w.next
    ≡ after_next output (sets_after t.table) u.index o.phase w.next =
    rw (r.output_is, r.phase, r.sets) (same_next output w.next t.table table1 u.index o.phase k.same) in
    unit_done t t' table1 u _
    (then_comes (record t { table = table1 }) t1 t' o _ (none_read output (phase_of t.sequence t.phase)) r r') k.put
    (ap (followed_by o) next ∙ after_it t t1 table1 u w false stands k shuts r on)

-- ---- the end of the units

end_events : (output : Output) (p : Phase) → (closed_in output p).events ++ held_after output
    (closed_in output p).phase ≡ at_end output p
end_events output (running_phase h (Some o)) = refl
end_events output _ = refl

held_here : (output : Output) (s : SequenceState) (p : PhaseHere) → IsPhase s p → open_facts_in (phase_of s p) ≡ None
    → pictures (held_pictures output (current_history s)) ≡ held_after output (phase_of s p)
held_here output s Waiting w none = rw ((w.0).none, w.1) refl
held_here output s (Running None) w none = rw w.none refl
held_here output s (Running (Some c)) w none =
    let there = sym (ap open_facts_in (opened_phase s c w)) ∙ none in
    cc

pub ends : (t t1 t' : Stream) → HasOutcome t (closed_in t.sequence.output (phase_of t.sequence t.phase)) t1
    → WaitsAfter t1 (pictures (held_pictures t1.sequence.output (current_history t1.sequence))) t'
    → stream_state t' ≡ after_stream_end (stream_state t)
ends t t1 t' r waits =
    let output = t.sequence.output in
    let x = closed_in output (phase_of t.sequence t.phase) in
    let w = waits.0 in
    let none = ap open_facts_in r.phase ∙ none_after_closing output (phase_of t.sequence t.phase) in
    let held : pictures (held_pictures t1.sequence.output (current_history t1.sequence)) ≡ held_after output x.phase =
    held_here t1.sequence.output t1.sequence t1.phase r.works.stands none ∙ ap₂ held_after r.output_is r.phase in
    let events : t'.queue.events ≡ t.queue.events ++ at_end output (phase_of t.sequence t.phase) =
    ap (λ (k : QueueState). k.events) w.queue
    ∙ ap₂ (λ (k : QueueState) es. k.events ++ es) r.queue held
    ∙ append_assoc t.queue.events x.events (held_after output x.phase)
    ∙ ap (λ es. t.queue.events ++ es) (end_events output (phase_of t.sequence t.phase)) in
    let taken = ap (λ (k : QueueState). k.taken) w.queue ∙ ap (λ (k : QueueState). k.taken) r.queue in
    let read = waits.1 ∙ r.count ∙ ap (more_read t.read) (none_read output (phase_of t.sequence t.phase)) in
    rw (w.sequence, w.phase, r.output_is, waits.2, r.sets, events, taken, read) refl

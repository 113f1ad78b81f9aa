-- The units and the events of a stream from those of its pieces.
pub mod Common
unfoldable pub use Common.*
use Rattle.avc_units.specs.Grouping.{pps, sps, slice as slice_kind, other as other_kind}
use Rattle.avc_decoder.specs.Events.{waiting}
use Rattle.avc_types.specs.declared.fault.Fault.TheVariants as faults

-- ---- the units of pieces: of which a stream's pieces are written, which facts they keep, and what a lower limit of a unit's bytes does

-- ---- the pieces, of their units

made_if : {X Y : Type 0} (f : X → Y) (starts : Bool) (x : X) (others : List X) →
    elim starts [ true ↦ f x ∷ map f others | false ↦ map f others ] ≡ map f (elim starts [ true ↦ x ∷ others | false ↦ others ])
made_if f starts x others = grind arith

pub pieces_written : (before after : List Unit) → pieces_from before after ≡ map (flat_map written) (piece_units before after)
pieces_written before [] = refl
pieces_written before (u ∷ after) =
    ap (λ t. elim (is_start u) [ true ↦ flat_map written (piece before u after) ∷ t | false ↦ t ]) (pieces_written (before ++ u ∷ []) after)
    ∙ made_if (flat_map written) (is_start u) (piece before u after) (piece_units (before ++ u ∷ []) after)

-- ---- what holds of all units of a stream holds of those of a piece

module _ {X : Type 0} (P : X → Type 0) where
  pub take_while_all : (test : X → Bool) (xs : List X) → All P xs → All P (take_while test xs)
  take_while_all test xs h = All-take P (prefix_len test xs) xs h

  pub all_reversed : (xs : List X) → All P xs → All P (reverse xs)
  all_reversed [] h = All-nil P
  all_reversed (x ∷ xs) h =
      All-same P (reverse (x ∷ xs)) (reverse xs ++ x ∷ []) (reverse-append (x ∷ []) xs)
      (All-push P (reverse xs) x (all_reversed xs (All-tail P x xs h)) (All-head P x xs h))

  all_flat : {N : Type 0} (f : N → List X) (ns : List N) → ((n : N) → All P (f n)) → All P (flat_map f ns)
  all_flat f [] h = All-nil P
  all_flat f (n ∷ ns) h = All-append P (f n) (flat_map f ns) (h n) (all_flat f ns h)

pub taken_pass : {X : Type 0} (test : X → Bool) (xs : List X) → All (λ x. test x ≡ true) (take_while test xs)
taken_pass test [] = All-nil _
taken_pass test (x ∷ xs) = rw take_while-cons (search (rules, All-cons, All-nil, taken_pass test xs))

-- what a piece has before its cut point
abbrev pub front : List Unit → List Unit
front before = sets_in_force before ++ filter leads (after_slices before)

module _ (P : Unit → Type 0) where
  all_last : (us : List Unit) → All P us → All P (unit_list (last us))
  all_last [] h = All-nil P
  all_last (u ∷ []) h = h
  all_last (u ∷ v ∷ us) h = all_last (v ∷ us) (All-tail P u (v ∷ us) h)

  all_deciding : (in_force : Bool) (test : SetUnit → Bool) (us : List Unit) → All P us → All P (deciding_unit in_force test us)
  all_deciding false test us h = All-nil P
  all_deciding true test us h = all_last _ (All-filter (λ u. satisfies test (set_unit u)) P us h)

  all_sets : (us : List Unit) → All P us → All P (sets_in_force us)
  all_sets us h =
      All-append P _ _ (all_flat P (sps_unit us) (range_with_len 0 32) (λ id. all_deciding (is_some (sps_in_force (set_units us) id)) (is_sps id) us h))
      (all_flat P (pps_unit us) (range_with_len 0 256) (λ id. all_deciding (is_some (pps_in_force (set_units us) id)) (is_pps id) us h))

  pub all_after_slices : (us : List Unit) → All P us → All P (after_slices us)
  all_after_slices us h = all_reversed P (take_while (λ u. not (is_slice u)) (reverse us)) (take_while_all P (λ u. not (is_slice u)) (reverse us) (all_reversed P us h))

  all_through_slices : (us : List Unit) → All P us → All P (through_slices us)
  all_through_slices us h = all_reversed P (drop (length (after_slices us)) (reverse us)) (All-drop P (length (after_slices us)) (reverse us) (all_reversed P us h))

  -- the rest of a piece, of the units up to the next cut point, if there is one
  all_of_rest : (starts : Bool) (us after : List Unit) → All P us → All P after →
      All P (if starts then through_slices us ++ filter (λ u. not (is_left_out u)) (after_slices us) else after)
  all_of_rest true us after h k =
      All-append P (through_slices us) _ (all_through_slices us h) (All-filter (λ u. not (is_left_out u)) P (after_slices us) (all_after_slices us h))
  all_of_rest false us after h k = k

  pub all_front : (before : List Unit) → All P before → All P (front before)
  all_front before h = All-append P (sets_in_force before) _ (all_sets before h) (All-filter leads P (after_slices before) (all_after_slices before h))

  all_of_piece : (before after : List Unit) (u : Unit) → All P before → P u → All P after → All P (piece before u after)
  all_of_piece before after u h p k =
      All-append P (front before) (u ∷ rest_of_piece after) (all_front before h)
      (All-cons P u (rest_of_piece after) p (all_of_rest (list_any is_start after) (take_while goes_before after) after (take_while_all P goes_before after k) k))

  added : (starts : Bool) (p : List Unit) (others : List (List Unit)) → All P p → All (All P) others →
      All (All P) (elim starts [ true ↦ p ∷ others | false ↦ others ])
  added starts p others h k = search (rules, All-cons)

  -- each unit of the pieces is one of the stream
  all_units_of : (before after : List Unit) → All P before → All P after → All (All P) (piece_units before after)
  all_units_of before [] h k = All-nil (All P)
  all_units_of before (u ∷ after) h k =
      let p = All-head P u after k in
      let behind = All-tail P u after k in
      added (is_start u) (piece before u after) (piece_units (before ++ u ∷ []) after) (all_of_piece before after u h p behind)
      (all_units_of (before ++ u ∷ []) after (All-push P before u h p) behind)

-- ---- units that a lower limit leaves as they are

-- The unit is not refused by itself, whatever stands before it.
pub record IsAccepted (u : Unit) : Type 0 where
  pub bit : forbidden_zero_bit u.header ≡ false
  pub set : set_fault (kind u) (rbsp_of u) ≡ None

abbrev pub cut : (max : ℕ) → List Unit → List Unit
cut max us = map (unit_within max) us

-- So is what a lower limit leaves of it.
abbrev pub IsAcceptedWithin : (max : ℕ) → Unit → Type 0
IsAcceptedWithin max u = IsAccepted (unit_within max u)

-- Decoding can start with it if its bytes say so: it is not too long.
abbrev pub IsWholeStart : Unit → Type 0
IsWholeStart u = (nal_unit_type u.header == 5) ≡ true → IsTrue (is_some u.body)

abbrev rbsp_in : Option (List ℕ) → Option (List ℕ)
rbsp_in o = elim o [ Some body ↦ Some (rbsp body) | None ↦ None ]

abbrev body_if : Bool → List ℕ → Option (List ℕ)
body_if short body = elim short [ true ↦ Some body | false ↦ None ]

set_of_short : (k : Kind) (short : Bool) (body : List ℕ) → set_fault k (rbsp_in (body_if short body)) ≡ None →
    set_of k (rbsp_in (body_if short body)) ≡ set_of k (Some (rbsp body))
set_of_short k short body h = search (rules)

set_of_within : (max : ℕ) (k : Kind) (o : Option (List ℕ)) → set_fault k (rbsp_in (body_within max o)) ≡ None →
    set_of k (rbsp_in (body_within max o)) ≡ set_of k (rbsp_in o)
set_of_within max k None h = refl
set_of_within max k (Some body) h = set_of_short k (nat_le (1 + length body) max) body h

pub same_set : (max : ℕ) (u : Unit) → IsAcceptedWithin max u → set_unit (unit_within max u) ≡ set_unit u
same_set max u a = ap (λ s. if forbidden_zero_bit u.header then None else s) (set_of_within max (kind u) u.body a.set)

pub same_sets : (max : ℕ) (us : List Unit) → All (IsAcceptedWithin max) us → set_units (cut max us) ≡ set_units us
same_sets max [] h = refl
same_sets max (u ∷ us) h =
    ap₂ (λ s t. list_of s ++ t) (same_set max u (All-head (IsAcceptedWithin max) u us h)) (same_sets max us (All-tail (IsAcceptedWithin max) u us h))

pub same_start : (max : ℕ) (u : Unit) → IsWholeStart (unit_within max u) → is_start (unit_within max u) ≡ is_start u
same_start max u h = search (rules)

-- a unit with which decoding can't start doesn't become one
pub no_start : (max : ℕ) (u : Unit) → is_start u ≡ false → is_start (unit_within max u) ≡ false
no_start max u h = search (rules)

-- Where decoding waits, the unit gives nothing, and decoding still waits.
pub record IsSilent (u : Unit) : Type 0 where
  pub accepted : IsAccepted u
  pub no_start : is_start u ≡ false

abbrev pub IsSilentWithin : (max : ℕ) → Unit → Type 0
IsSilentWithin max u = IsSilent (unit_within max u)

pub neither : (a b : Bool) → (a || b) ≡ false → (a ≡ false) × (b ≡ false)
neither a b h = grind arith

-- ---- the bytes of the pieces

-- one of a whole stream's units
abbrev pub IsOf : List ℕ → Unit → Type 0
IsOf bytes u = IsUnitOf (length bytes) bytes u

says_cut : (max : ℕ) (us : List Unit) → map contents (cut max us) ≡ map (contents_within max) us
says_cut max [] = refl
says_cut max (u ∷ us) = ap (λ t. contents_within max u ∷ t) (says_cut max us)

-- What is written of such units has them.
pub read_back : WrittenUnitsStandAlone → (max : ℕ) (bytes : List ℕ) (us : List Unit) → All (IsOf bytes) us →
    map contents (cut max us) ≡ map contents (units max (flat_map written us) true)
read_back alone max bytes us h = says_cut max us ∙ sym (alone (length bytes) max bytes us h)

pub pieces_of_stream : UnitsAreWhole → (bytes : List ℕ) → All (All (IsOf bytes)) (piece_units [] (units (length bytes) bytes true))
pieces_of_stream are_whole bytes =
    let us = units (length bytes) bytes true in
    all_units_of (IsOf bytes) [] us (All-nil (IsOf bytes)) (λ k d within. record {
      place = k;
      is_there = slice_get-get_or us k d within;
      short = are_whole (length bytes) bytes true (omega arith) k d within;
    })

-- ---- what a stream without refusals says of its units, and pieces with which decoding doesn't start

abbrev events_of : Outcome → List Event
events_of o = o.events

-- ---- units that give nothing where decoding waits

silent_step : (sets : Sets) (u : Unit) → IsSilent u → (step sets false None u).next ≡ Nothing
silent_step sets u s = search (rules)

pub silent_unit : (s : State) (u : Unit) → s.phase ≡ waiting → IsSilent u → after_unit s u ≡ no_change waiting
silent_unit s u waits silent = grind (arith, sets_after, silent_step)

pub silent_units : (us : List Unit) (s : State) → s.phase ≡ waiting → All IsSilent us → events_from s us true ≡ []
silent_units [] s waits h = ap (λ p. at_end s.output p) waits
silent_units (u ∷ us) s waits h =
    ap (λ o. o.events ++ events_from (state_after s u o) us true) (silent_unit s u waits (All-head IsSilent u us h))
    ∙ silent_units us (state_after s u (no_change waiting)) refl (All-tail IsSilent u us h)

-- ---- events without a refusal

abbrev pub ArePictures : List Event → Type 0
ArePictures es = list_all is_picture es ≡ true

pub pictures_before : (xs ys : List Event) → ArePictures (xs ++ ys) → ArePictures xs
pictures_before xs ys h = grind (arith, list_all-append is_picture xs ys, h)

pub pictures_behind : (xs ys : List Event) → ArePictures (xs ++ ys) → ArePictures ys
pictures_behind xs ys h = grind (arith, list_all-append is_picture xs ys, h)

-- ---- events that are the same but for the numbers of units

abbrev pub AreAlike : (xs ys : List Event) → Type 0
AreAlike xs ys = unnumbered xs ≡ unnumbered ys

pub joined_alike : (xs xs' ys ys' : List Event) → AreAlike xs xs' → AreAlike ys ys' → AreAlike (xs ++ ys) (xs' ++ ys')
joined_alike xs xs' ys ys' e g =
    let zero_event : Event → Event = renumbered_event (λ unit. 0) in
    map-append zero_event xs ys ∙ ap₂ (λ a b. a ++ b) e g ∙ sym (map-append zero_event xs' ys')

kinds_kept : (es : List Event) → list_all is_picture (unnumbered es) ≡ list_all is_picture es
kinds_kept [] = refl
kinds_kept (Picture p ∷ es) = kinds_kept es
kinds_kept (Refused n f ∷ es) = refl

-- where these are pictures, so are those
pub pictures_alike : (xs ys : List Event) → AreAlike xs ys → ArePictures xs → ArePictures ys
pictures_alike xs ys e h = sym (kinds_kept ys) ∙ sym (ap (list_all is_picture) e) ∙ kinds_kept xs ∙ h

none_refused : (xs : List Event) (n : ℕ) (f : Fault) → ArePictures (xs ++ Refused n f ∷ []) → ⊥
none_refused xs n f h = (cc (pictures_behind xs (Refused n f ∷ []) h))

none_failed : (output : Output) (h : _) (n : ℕ) (f : Fault) (read : ℕ) → ArePictures (failed_at output h n f read).events → ⊥
none_failed output h n f read all = none_refused (held_after output (running h None)) n f all

-- ---- no unit is refused by itself

refuses : (output : Output) (sets : Sets) (n : ℕ) (closes : Bool) (f : Fault) (p : Phase) →
    ArePictures (in_phase output sets n (record { closes = closes; next = Refusal f; even_after_fault = true }) p).events → ⊥
refuses output sets n closes f p h = search (rules, none_refused)

bit_is_zero : (output : Output) (sets : Sets) (n : ℕ) (p : Phase) (bit : Bool) (others : Step) →
    ArePictures (in_phase output sets n (elim bit [ true ↦ record { closes = false; next = Refusal faults.ForbiddenBit; even_after_fault = true } | false ↦ others ]) p).events →
    bit ≡ false
bit_is_zero output sets n p true others h = absurd (refuses output sets n false faults.ForbiddenBit p h)
bit_is_zero output sets n p false others h = refl

-- what a unit does whose forbidden_zero_bit is 0
step_is : (sets : Sets) (runs : Bool) (open_picture : Option OpenPictureFacts) (u : Unit) → forbidden_zero_bit u.header ≡ false →
    step sets runs open_picture u ≡ elim runs [ true ↦ running_step sets open_picture u (kind u) | false ↦ waiting_step sets u (kind u) ]
step_is sets runs open_picture u bit = search (rules)

set_is_good : (output : Output) (sets : Sets) (n : ℕ) (p : Phase) (o : Option Fault) → ArePictures (in_phase output sets n (ends_picture (refusal_of o)) p).events → o ≡ None
set_is_good output sets n p None h = refl
set_is_good output sets n p (Some f) h = absurd (refuses output sets n true f p h)

set_by_kind : (output : Output) (sets : Sets) (n : ℕ) (p : Phase) (runs : Bool) (open_picture : Option OpenPictureFacts) (u : Unit) (k : Kind) →
    ArePictures (in_phase output sets n (elim runs [ true ↦ running_step sets open_picture u k | false ↦ waiting_step sets u k ]) p).events →
    set_fault k (rbsp_of u) ≡ None
set_by_kind output sets n p runs open_picture u k h = search (rules, set_is_good)

pub is_accepted : (s : State) (u : Unit) → ArePictures (after_unit s u).events → IsAccepted u
is_accepted s u h =
    let sets = sets_after s.sets in
    let runs = is_running s.phase in
    let open_picture = open_facts_in s.phase in
    let bit = bit_is_zero s.output sets u.index s.phase (forbidden_zero_bit u.header) (elim runs [ true ↦ running_step sets open_picture u (kind u) | false ↦ waiting_step sets u (kind u) ]) h in
    record {
      bit = bit;
      set =
          set_by_kind s.output sets u.index s.phase runs open_picture u (kind u)
          (ap (λ what. list_all is_picture (in_phase s.output sets u.index what s.phase).events) (sym (step_is sets runs open_picture u bit)) ∙ h);
    }

pub all_accepted : (max : ℕ) (us : List Unit) (s : State) → ArePictures (events_from s (cut max us) true) → All (IsAcceptedWithin max) us
all_accepted max [] s h = All-nil (IsAcceptedWithin max)
all_accepted max (u ∷ us) s h =
    let o = after_unit s (unit_within max u) in
    let next = state_after s (unit_within max u) o in
    let others = events_from next (cut max us) true in
    All-cons (IsAcceptedWithin max) u us (is_accepted s (unit_within max u) (pictures_before o.events others h)) (all_accepted max us next (pictures_behind o.events others h))

-- ---- no slice is too long while decoding runs

-- Without a refusal decoding runs then.
abbrev Runs : Outcome → Type 0
Runs o = ArePictures o.events → is_running o.phase ≡ true

failed_runs : (output : Output) (h : _) (n : ℕ) (f : Fault) (read : ℕ) → Runs (failed_at output h n f read)
failed_runs output h n f read all = absurd (none_failed output h n f read all)

closed_runs_by : (output : Output) (o : OpenPicture) (result : _) → Runs (closed_outcome output o result)
closed_runs_by output o (Ok h) all = refl
closed_runs_by output o (Err found) all = failed_runs output (history_of o) found.0 found.1 0 all

closed_runs : (output : Output) (o : OpenPicture) → Runs (closed_picture output o)
closed_runs output o all = closed_runs_by output o (closing_result o) all

pub start_is_slice : (u : Unit) → (nal_unit_type u.header == 5) ≡ true → kind u ≡ slice_kind true
start_is_slice u five = ap kind_of (eqb-true (nal_unit_type u.header) 5 five)

unreadable_behind : (output : Output) (sets : Sets) (n : ℕ) (f : Fault) (closed : Outcome) (waits : Bool) → waits ≡ is_waiting closed.phase → Runs closed →
    ArePictures (events_of (elim (waits && not false) [ true ↦ closed | false ↦ followed_by closed (after_next output sets n closed.phase (FaultOfOwn f)) ])) → ⊥
unreadable_behind output sets n f closed true is runs all = grind (arith, is, runs all)
unreadable_behind output sets n f closed false is runs all = none_failed output (history_in closed.phase) n f 0 (pictures_behind closed.events _ all)

unreadable_open : (output : Output) (sets : Sets) (n : ℕ) (f : Fault) (full : Bool) (h : _) (o : Option OpenPicture) →
    ArePictures (in_phase output sets n (elim full [
      | true ↦ record { closes = true; next = FaultOfOwn f; even_after_fault = false }
      | false ↦ record { closes = false; next = FaultOfOpen f; even_after_fault = false }
    ]) (running h o)).events → ⊥
unreadable_open output sets n f true h None all = none_failed output h n f 0 all
unreadable_open output sets n f false h None all = none_failed output h n f 0 all
unreadable_open output sets n f true h (Some o) all =
    unreadable_behind output sets n f (closed_picture output o) (is_waiting (closed_picture output o).phase) refl (closed_runs output o) all
unreadable_open output sets n f false h (Some o) all = none_failed output (history_of o) n f 0 all

unreadable_refused : (output : Output) (sets : Sets) (n : ℕ) (f : Fault) (open_picture : Option OpenPictureFacts) (h : _) (o : Option OpenPicture) →
    ArePictures (in_phase output sets n (unreadable open_picture f) (running h o)).events → ⊥
unreadable_refused output sets n f None h None all = none_failed output h n f 0 all
unreadable_refused output sets n f None h (Some o) all = none_failed output (history_of o) n f 0 all
unreadable_refused output sets n f (Some facts) h o all = unreadable_open output sets n f facts.full h o all

too_long : (sets : Sets) (open_picture : Option OpenPictureFacts) (u : Unit) → forbidden_zero_bit u.header ≡ false → kind u ≡ slice_kind true → u.body ≡ None →
    step sets true open_picture u ≡ unreadable open_picture faults.NalTooLong
too_long sets open_picture u bit is none =
    let err : slice_in sets u ≡ Err faults.NalTooLong = rw (none, slice_in, rbsp_of) refl in
    step_is sets true open_picture u bit ∙ ap (λ k. running_step sets open_picture u k) is ∙ ap (slice_step open_picture (is_start u)) err

whole_by : (output : Output) (sets : Sets) (u : Unit) (p : Phase) (body : Option (List ℕ)) → body ≡ u.body → is_running p ≡ true → forbidden_zero_bit u.header ≡ false →
    ArePictures (in_phase output sets u.index (step sets (is_running p) (open_facts_in p) u) p).events → kind u ≡ slice_kind true → IsTrue (is_some body)
whole_by output sets u waiting body none runs bit all is = (cc)
whole_by output sets u (running h o) (Some body) none runs bit all is = refl
whole_by output sets u (running h o) None none runs bit all is = search (rules, unreadable_refused, too_long)

pub is_whole : (s : State) (u : Unit) → is_running s.phase ≡ true → ArePictures (after_unit s u).events → IsWholeStart u
is_whole s u runs all five =
    whole_by s.output (sets_after s.sets) u s.phase u.body refl runs (is_accepted s u all).bit all (start_is_slice u five)

-- ---- the events of a piece: of its front, of what follows its cut point, and of what it leaves out: units one after the other

pub events-append : (us vs : List Unit) (s : State) (ended : Bool) → events_from s (us ++ vs) ended ≡ events_from s us false ++ events_from (state_through s us) vs ended
events-append [] vs s ended = refl
events-append (u ∷ us) vs s ended =
    let o = after_unit s u in
    ap (λ es. o.events ++ es) (events-append us vs (state_after s u o) ended)
    ∙ sym (append_assoc o.events (events_from (state_after s u o) us false) (events_from (state_through s (u ∷ us)) vs ended))

-- ---- units that only end a picture

abbrev brings_data : Kind → Bool
brings_data (slice_kind idr) = true
brings_data partition = true
brings_data _ = false

data_by : (one five part s p b : Bool) →
    brings_data (if one then slice_kind false else (if five then slice_kind true else (if part then partition else (if s then sps else (if p then pps else (if b then boundary else other_kind))))))
    ≡ (one || five || part)
data_by one five part s p b = grind arith

no_data : (t : ℕ) → (nat_le 1 t && nat_le t 5) ≡ false → brings_data (kind_of t) ≡ false
no_data t h =
    let none : (t == 1 || t == 5 || (nat_le 2 t && nat_le t 4)) ≡ false = grind (arith, nat_tests, h) in
    data_by (t == 1) (t == 5) (nat_le 2 t && nat_le t 4) (t == 7) (t == 8) ((nat_le 6 t && nat_le t 11) || (nat_le 15 t && nat_le t 18)) ∙ none

-- it does nothing, or ends a picture
abbrev pub Ends : Step → Type 0
Ends what = (what ≡ no_effect) ⊎ (what ≡ ends_picture Nothing)

step_ends_by : (sets : Sets) (runs : Bool) (facts : Option OpenPictureFacts) (u : Unit) (k : Kind) → brings_data k ≡ false → set_fault k (rbsp_of u) ≡ None →
    Ends (elim runs [ true ↦ running_step sets facts u k | false ↦ waiting_step sets u k ])
step_ends_by sets runs facts u k h g = search (rules)

ends_from : (bit : Bool) (others : Step) → bit ≡ false → Ends others →
    Ends (elim bit [ true ↦ record { closes = false; next = Refusal faults.ForbiddenBit; even_after_fault = true } | false ↦ others ])
ends_from true others e h = (cc)
ends_from false others e h = h

-- A unit that is no slice, and is not refused by itself.
pub record IsBetween (u : Unit) : Type 0 where
  pub no_slice : is_slice u ≡ false
  pub accepted : IsAccepted u

pub ends : (sets : Sets) (runs : Bool) (facts : Option OpenPictureFacts) (u : Unit) → IsBetween u → Ends (step sets runs facts u)
ends sets runs facts u b =
    ends_from (forbidden_zero_bit u.header) (elim runs [ true ↦ running_step sets facts u (kind u) | false ↦ waiting_step sets u (kind u) ]) b.accepted.bit
    (step_ends_by sets runs facts u (kind u) (no_data (nal_unit_type u.header) b.no_slice) b.accepted.set)

held_by : (output : Output) (o : OpenPicture) (result : _) → at_end output (closed_outcome output o result).phase ≡ held_after output (closed_outcome output o result).phase
held_by output o result = search (rules)

-- what ending a picture hands out, and then the end of the stream
abbrev and_end : (output : Output) (o : Outcome) → List Event
and_end output o = o.events ++ at_end output o.phase

either_way : (output : Output) (sets : Sets) (n : ℕ) (what : Step) (p : Phase) → Ends what → and_end output (in_phase output sets n what p) ≡ at_end output p
either_way output sets n what p h = search (rules, append-nil, held_by)

-- Units that are no slices hand out what the end of the stream would.
pub only_end : (us : List Unit) (s : State) → All IsBetween us → events_from s us true ≡ at_end s.output s.phase
only_end [] s h = refl
only_end (u ∷ us) s h =
    let sets = sets_after s.sets in
    let o = after_unit s u in
    ap (λ es. o.events ++ es) (only_end us (state_after s u o) (All-tail IsBetween u us h))
    ∙ either_way s.output sets u.index (step sets (is_running s.phase) (open_facts_in s.phase) u) s.phase
    (ends sets (is_running s.phase) (open_facts_in s.phase) u (All-head IsBetween u us h))

-- ---- what a piece leaves out

-- the units after a cut point, up to the next one
abbrev pub segment : List Unit → List Unit
segment after = if list_any is_start after then take_while goes_before after else after

abbrev IsNoSlice : Unit → Type 0
IsNoSlice u = is_slice u ≡ false

no_slices_after : (us : List Unit) → All IsNoSlice (after_slices us)
no_slices_after us =
    all_reversed IsNoSlice (take_while (λ u. not (is_slice u)) (reverse us))
    (All-weaker (λ u. not (is_slice u) ≡ true) IsNoSlice (λ u is. grind (arith, is)) _ (taken_pass (λ u. not (is_slice u)) (reverse us)))

-- Without what it leaves out, a piece hands out the same.
left_out_alike : (max : ℕ) (us : List Unit) (s : State) → All (IsAcceptedWithin max) us →
    events_from s (cut max (through_slices us ++ filter stays (after_slices us))) true ≡ events_from s (cut max us) true
left_out_alike max us s h =
    let first = cut max (through_slices us) in
    let behind = after_slices us in
    let t = state_through s first in
    let accepted = all_after_slices (IsAcceptedWithin max) us h in
    let none = no_slices_after us in
    let between : All (λ u. IsBetween (unit_within max u)) behind = λ k d within. record { no_slice = none k d within; accepted = accepted k d within } in
    let ended : (vs : List Unit) → All (λ u. IsBetween (unit_within max u)) vs → events_from s (cut max (through_slices us ++ vs)) true ≡ events_from s first false ++ at_end t.output t.phase =
    λ vs k. ap (λ ws. events_from s ws true) (map-append (unit_within max) (through_slices us) vs) ∙ events-append first (cut max vs) s true
    ∙ ap (λ es. events_from s first false ++ es) (only_end (cut max vs) t (All-map IsBetween (unit_within max) vs k)) in
    ended (filter stays behind) (All-filter stays (λ u. IsBetween (unit_within max u)) behind between)
    ∙ sym (ended behind between) ∙ ap (λ vs. events_from s (cut max vs) true) (split_at_slices us)

rest_of_events : (starts : Bool) (max : ℕ) (us after : List Unit) (s : State) → All (IsAcceptedWithin max) us →
    events_from s (cut max (if starts then through_slices us ++ filter stays (after_slices us) else after)) true
    ≡ events_from s (cut max (if starts then us else after)) true
rest_of_events true max us after s h = left_out_alike max us s h
rest_of_events false max us after s h = refl

-- ---- what stands in front of a piece's first slice is silent

abbrev IsNoStart : Unit → Type 0
IsNoStart u = is_start u ≡ false

no_start_by : (u : Unit) → (nal_unit_type u.header == 5) ≡ false → IsNoStart u
no_start_by u other_type = grind (arith, other_type)

no_slice_starts : (u : Unit) → IsNoSlice u → IsNoStart u
no_slice_starts u h = no_start_by u (grind (arith, nat_tests, h))

abbrev closes_of : Step → Bool
closes_of what = what.closes

-- where decoding waits, a slice closes nothing
slice_closes : (bit starts same : Bool) (result : Result Slice Fault) →
    closes_of (elim bit [
      | true ↦ record { closes = false; next = Refusal faults.ForbiddenBit; even_after_fault = true }
      | false ↦ elim starts [ true ↦ slice_step None same result | false ↦ no_effect ]
    ]) ≡ false
slice_closes bit starts same result = search (rules)

set_starts : (before : List Unit) (u : Unit) → IsSetOf before u → IsNoStart u
set_starts before u s = by (nal_unit_type u.header == 5) refl
  where
    by : (five : Bool) → (nal_unit_type u.header == 5) ≡ five → IsNoStart u
    by false is = no_start_by u is
    by true is =
        let sets = tables before in
        let none : (step sets false None u).closes ≡ false =
        ap (λ k. closes_of (elim (forbidden_zero_bit u.header) [
          | true ↦ record { closes = false; next = Refusal faults.ForbiddenBit; even_after_fault = true }
          | false ↦ waiting_step sets u k
        ])) (start_is_slice u is) ∙ slice_closes (forbidden_zero_bit u.header) (is_start u) (is_start u) (slice_in sets u) in
        let ended : (step sets false None u).closes ≡ true = ap (λ w. w.closes) (s.no_fault sets) in
        cc (none, ended)

silent_front : SetsInForceAreUnits → (max : ℕ) (before : List Unit) → All (IsAcceptedWithin max) before → All (IsSilentWithin max) (front before)
silent_front are max before h =
    let accepted = all_front (IsAcceptedWithin max) before h in
    let starts = All-weaker IsNoStart (λ u. IsNoStart (unit_within max u)) (no_start max) (front before)
    (All-append IsNoStart (sets_in_force before) (filter leads (after_slices before))
    (All-weaker (IsSetOf before) IsNoStart (set_starts before) (sets_in_force before) (are before))
    (All-filter leads IsNoStart (after_slices before) (All-weaker IsNoSlice IsNoStart no_slice_starts (after_slices before) (no_slices_after before)))) in
    λ k d within. record { accepted = accepted k d within; no_start = starts k d within }

abbrev pub with_sets : State → List SetUnit → State
with_sets s sets = record s { sets = sets; phase = waiting }

sets-append : (a b c : List SetUnit) → (a ++ (b ++ [])) ++ c ≡ a ++ (b ++ c)
sets-append a b c = append_assoc a (b ++ []) c ∙ ap (λ m. a ++ m) (append_assoc b [] c)

-- Such units bring their sets alone.
after_front : (us more : List Unit) (s : State) → s.phase ≡ waiting → All IsSilent us →
    events_from s (us ++ more) true ≡ events_from (with_sets s (s.sets ++ set_units us)) more true
after_front [] more s waits h =
    ap (λ p. events_from (record s { phase = p }) more true) waits ∙ ap (λ ss. events_from (with_sets s ss) more true) (sym (append-nil s.sets))
after_front (u ∷ us) more s waits h =
    ap (λ (o : Outcome). o.events ++ events_from (state_after s u o) (us ++ more) true) (silent_unit s u waits (All-head IsSilent u us h))
    ∙ after_front us more (with_sets s (s.sets ++ set_units (u ∷ []))) refl (All-tail IsSilent u us h)
    ∙ ap (λ ss. events_from (with_sets s ss) more true) (sets-append s.sets (list_of (set_unit u)) (set_units us))

-- ---- what leads a picture brings no set

abbrev brings_set : Kind → Bool
brings_set sps = true
brings_set pps = true
brings_set _ = false

set_by : (one five part s p b : Bool) → (s || p) ≡ false →
    brings_set (if one then slice_kind false else (if five then slice_kind true else (if part then partition else (if s then sps else (if p then pps else (if b then boundary else other_kind)))))) ≡ false
set_by one five part s p b h = grind arith

none_brought : (k : Kind) (o : Option (List ℕ)) → brings_set k ≡ false → set_of k o ≡ None
none_brought sps o h = (cc)
none_brought pps o h = (cc)
none_brought _ o h = refl

no_set_if : (bit : Bool) (o : Option SetUnit) → o ≡ None → (if bit then None else o) ≡ None
no_set_if bit o e = grind arith

leads_no_set : (u : Unit) → leads u ≡ true → set_unit u ≡ None
leads_no_set u h = search (rules, no_set_if, none_brought, set_by, nat_le)

leading_by : (x : Bool) (u : Unit) (us : List Unit) → leads u ≡ x → set_units us ≡ [] → set_units (cond x (u ∷ us) us) ≡ []
leading_by true u us is h = ap₂ (λ o t. list_of o ++ t) (leads_no_set u is) h
leading_by false u us is h = h

leading_bring_none : (us : List Unit) → set_units (filter leads us) ≡ []
leading_bring_none [] = refl
leading_bring_none (u ∷ us) = leading_by (leads u) u (filter leads us) refl (leading_bring_none us)

-- The sets in force behind a piece's front are those in force in the stream.
front_sets : SetsAreInForceAgain → (before : List Unit) →
    sets_after (set_units (front before)) ≡ sets_after (set_units before)
front_sets again before =
    ap sets_after (set_units-append (sets_in_force before) (filter leads (after_slices before))
    ∙ ap (λ t. set_units (sets_in_force before) ++ t) (leading_bring_none (after_slices before)) ∙ append-nil (set_units (sets_in_force before)))
    ∙ again before

-- ---- what a piece hands out

-- From its cut point on, a piece hands out what its segment of the stream does, behind the sets that it brings.
pub piece_events : SetsInForceAreUnits → (max : ℕ) (output : Output) (before after : List Unit) (u : Unit) →
    All (IsAcceptedWithin max) before → All (IsAcceptedWithin max) after →
    events_from (first_state output) (cut max (piece before u after)) true
    ≡ events_from (with_sets (first_state output) (set_units (cut max (front before)))) (cut max (u ∷ segment after)) true
piece_events are max output before after u h k =
    let first = first_state output in
    let t = with_sets first (set_units (cut max (front before))) in
    let o = after_unit t (unit_within max u) in
    ap (λ us. events_from first us true) (map-append (unit_within max) (front before) (u ∷ rest_of_piece after))
    ∙ after_front (cut max (front before)) (cut max (u ∷ rest_of_piece after)) first refl
    (All-map IsSilent (unit_within max) (front before) (silent_front are max before h))
    ∙ ap (λ es. o.events ++ es) (rest_of_events (list_any is_start after) max (take_while goes_before after) after (state_after t (unit_within max u) o)
    (take_while_all (IsAcceptedWithin max) goes_before after k))

-- The sets that it brings are those in force in the stream.
pub sets_alike : SetsAreInForceAgain → (max : ℕ) (before : List Unit) → All (IsAcceptedWithin max) before →
    sets_after (set_units (cut max (front before))) ≡ sets_after (set_units before)
sets_alike again max before h = ap sets_after (same_sets max (front before) (all_front (IsAcceptedWithin max) before h)) ∙ front_sets again before

-- ---- the events of a stream, from those of its pieces: the flags

abbrev AreOff : List Bool → Type 0
AreOff flags = list_all (λ f. not f) flags ≡ true

-- the unit's flag, where all are off
own_off : (b xs : List Unit) (u : Unit) (more : List Unit) → is_start u ≡ true → AreOff (drop_flags b (xs ++ u ∷ more))
    → drops_prior (slice_in (tables (b ++ xs)) u) ≡ false
own_off b [] u more starts off = grind (arith, append-nil, starts, off)
own_off b (v ∷ xs) u more starts off = grind (arith, append_assoc b (v ∷ []) xs, own_off (b ++ v ∷ []) xs u more starts, off)

-- and where all but the first are off, and a start stands before it
later_off : (b xs : List Unit) (u : Unit) (more : List Unit) → is_start u ≡ true → list_any is_start xs ≡ true
    → AreOff (drop 1 (drop_flags b (xs ++ u ∷ more))) → drops_prior (slice_in (tables (b ++ xs)) u) ≡ false
later_off b [] u more starts any off = cc
later_off b (v ∷ xs) u more starts any off =
    grind (arith, append_assoc b (v ∷ []) xs, own_off (b ++ v ∷ []) xs u more starts, later_off (b ++ v ∷ []) xs u more starts, any, off)

lets_out : (before : List Unit) (u : Unit) → drops_prior (slice_in (tables before) u) ≡ false → LetsPriorPicturesOut before u
lets_out before u off slice n l read marking =
    sym (ap drops_by marking) ∙ sym (ap drops_prior read) ∙ off

-- ---- before the first start decoding waits

all_silent : (us : List Unit) → list_any is_start us ≡ false → All IsAccepted us → All IsSilent us
all_silent [] none h = All-nil IsSilent
all_silent (u ∷ us) none h =
    let both = neither (is_start u) (list_any is_start us) none in
    All-cons IsSilent u us (record { accepted = All-head IsAccepted u us h; no_start = both.0 }) (all_silent us both.1 (All-tail IsAccepted u us h))

waits_through : (us : List Unit) (s : State) → s.phase ≡ waiting → All IsSilent us → (state_through s us).phase ≡ waiting
waits_through [] s waits h = waits
waits_through (u ∷ us) s waits h =
    ap (λ o. (state_through (state_after s u o) us).phase) (silent_unit s u waits (All-head IsSilent u us h))
    ∙ waits_through us (state_after s u (no_change waiting)) refl (All-tail IsSilent u us h)

-- where decoding runs one of the units was a start
started : (output : Output) (before : List Unit) → All IsAccepted before → is_running (state_through (first_state output) before).phase ≡ true
    → list_any is_start before ≡ true
started output before h runs = by (list_any is_start before) refl
  where
    by : (any : Bool) → list_any is_start before ≡ any → any ≡ true
    by true e = refl
    by false e =
        let waits = waits_through before (first_state output) refl (all_silent before e h) in
        ap is_running (sym waits) ∙ runs

-- Such a start begins anew.
begin_anew : StartUnitsBeginAnew → (output : Output) (before : List Unit) (u : Unit) (more us : List Unit) (s : State) → All IsAccepted before →
    AreOff (drop 1 (drop_flags [] (before ++ u ∷ more))) → s ≡ state_through (first_state output) before → is_start u ≡ true → ArePictures (events_from s (u ∷ us) true) →
    events_from s (u ∷ us) true ≡ at_end s.output s.phase ++ events_from (record s { phase = waiting }) (u ∷ us) true
begin_anew anew output before u more us s accepted off is starts pictures =
    let lets : is_running (state_through (first_state output) before).phase ≡ true → LetsPriorPicturesOut before u =
    λ runs. lets_out before u (later_off [] before u more starts (started output before accepted runs) off) in
    subst (λ t. events_from t (u ∷ us) true ≡ at_end t.output t.phase ++ events_from (record t { phase = waiting }) (u ∷ us) true) (sym is)
    (anew output before us u starts lets (subst (λ t. ArePictures (events_from t (u ∷ us) true)) is pictures))

-- ---- piece by piece

-- the units before the next start
starts_now : (x : Bool) (u : Unit) (after : List Unit) → is_start u ≡ x → segment (u ∷ after) ≡ (if x then [] else u ∷ segment after)
starts_now x u after is =
    let first = take_while-cons (λ v. not (is_start v)) u after in
    grind (arith, first, is)

phase_waits : (p : Phase) → (is_running p ≡ true → ⊥) → p ≡ waiting
phase_waits waiting never = refl
phase_waits (running h o) never = absurd (never refl)

state_through-more : (us : List Unit) (u : Unit) (s : State) → state_through s (us ++ u ∷ []) ≡ state_after (state_through s us) u (after_unit (state_through s us) u)
state_through-more [] u s = refl
state_through-more (v ∷ us) u s = state_through-more us u (state_after s v (after_unit s v))

-- what the state has after the units before, cut
record IsThrough (output : Output) (max : ℕ) (before : List Unit) (s : State) : Type 0 where
  is : s ≡ state_through (first_state output) (cut max before)
  same_output : s.output ≡ output
  same_sets : s.sets ≡ set_units before

is_through_more : (output : Output) (max : ℕ) (before : List Unit) (u : Unit) (s : State) → IsAcceptedWithin max u → IsThrough output max before s →
    IsThrough output max (before ++ u ∷ []) (state_after s (unit_within max u) (after_unit s (unit_within max u)))
is_through_more output max before u s accepted t = record {
  is =
      ap (λ q. state_after q (unit_within max u) (after_unit q (unit_within max u))) t.is ∙ sym (state_through-more (cut max before) (unit_within max u) (first_state output))
      ∙ ap (state_through (first_state output)) (sym (map-append (unit_within max) before (u ∷ [])));
  same_output = t.same_output;
  same_sets = ap₂ (λ ss o. ss ++ (list_of o ++ [])) t.same_sets (same_set max u accepted) ∙ sym (set_units-append before (u ∷ []));
}

silent_segment : (max : ℕ) (after : List Unit) → All (IsAcceptedWithin max) after → All (IsSilentWithin max) (segment after)
silent_segment max [] h = All-nil (IsSilentWithin max)
silent_segment max (u ∷ after) h =
    All-same (IsSilentWithin max) (segment (u ∷ after)) (if is_start u then [] else u ∷ segment after) (starts_now (is_start u) u after refl)
    (by (is_start u) refl (silent_segment max after (All-tail (IsAcceptedWithin max) u after h)))
  where
    by : (x : Bool) → is_start u ≡ x → All (IsSilentWithin max) (segment after) → All (IsSilentWithin max) (if x then [] else u ∷ segment after)
    by true is k = All-nil (IsSilentWithin max)
    by false is k = All-cons (IsSilentWithin max) u (segment after) (record { accepted = All-head (IsAcceptedWithin max) u after h; no_start = no_start max u is }) k

silent_events : (max : ℕ) (us : List Unit) (s : State) → s.phase ≡ waiting → All (IsSilentWithin max) us → events_from s (cut max us) true ≡ []
silent_events max us s waits h = silent_units (cut max us) s waits (All-map IsSilent (unit_within max) us h)

-- Where a piece begins, its segment comes behind what the end of the stream would let out there.
events_added : (x : Bool) (events_of : List Unit → List Event) (of_piece : List Unit → List Event) (us p : List Unit) (ps : List (List Unit)) (whole : List Event) →
    AreAlike whole (events_of us ++ flat_map of_piece ps) → (x ≡ true → AreAlike (events_of us) (events_of [] ++ of_piece p)) →
    AreAlike whole (events_of (if x then [] else us) ++ flat_map of_piece (elim x [ true ↦ p ∷ ps | false ↦ ps ]))
events_added true events_of of_piece us p ps whole split start =
    split
    ∙ joined_alike (events_of us) (events_of [] ++ of_piece p) (flat_map of_piece ps) (flat_map of_piece ps) (start refl) refl
    ∙ ap unnumbered (append_assoc (events_of []) (of_piece p) (flat_map of_piece ps))
events_added false events_of of_piece us p ps whole split start = split

module _ (again : SetsAreInForceAgain) (are : SetsInForceAreUnits) (keeps : EventsKeepButNumbers) (anew : StartUnitsBeginAnew) (output : Output) (max : ℕ) where
  abbrev of_piece : List Unit → List Event
  of_piece us = events_from (first_state output) (cut max us) true

  -- With a start, after which decoding runs or which the limit cuts off, the piece hands out its own.
  at_start : (before after : List Unit) (u : Unit) (s : State) → is_start u ≡ true → AreOff (drop 1 (drop_flags [] (cut max (before ++ u ∷ after)))) →
      IsThrough output max before s → All (IsAcceptedWithin max) before → IsAcceptedWithin max u → All (IsAcceptedWithin max) after →
      ArePictures (events_from s (cut max (u ∷ segment after)) true) →
      AreAlike (events_from s (cut max (u ∷ segment after)) true) (at_end s.output s.phase ++ of_piece (piece before u after))
  at_start before after u s is off through a b k pictures = by (is_start (unit_within max u)) refl
    where
      by : (x : Bool) → is_start (unit_within max u) ≡ x →
          AreAlike (events_from s (cut max (u ∷ segment after)) true) (at_end s.output s.phase ++ of_piece (piece before u after))
      by true starts =
          let us = cut max (u ∷ segment after) in
          let t = record s { phase = waiting } in
          let t' = with_sets (first_state output) (set_units (cut max (front before))) in
          let flags = subst (λ vs. AreOff (drop 1 (drop_flags [] vs))) (map-append (unit_within max) before (u ∷ after)) off in
          let start = begin_anew anew output (cut max before) (unit_within max u) (cut max after) (cut max (segment after)) s
          (All-map IsAccepted (unit_within max) before a) flags through.is starts pictures in
          let sets : sets_after (set_units (cut max (front before))) ≡ sets_after s.sets = sets_alike again max before a ∙ ap sets_after (sym through.same_sets) in
          let same : AreAlike (of_piece (piece before u after)) (events_from t us true) =
          ap unnumbered (piece_events are max output before after u a k) ∙ keeps t t' us us (sym through.same_output) refl refl sets refl in
          ap unnumbered start
          ∙ joined_alike (at_end s.output s.phase) (at_end s.output s.phase) (events_from t us true) (of_piece (piece before u after)) refl (sym same)
      by false none =
          let o = after_unit s (unit_within max u) in
          let here = pictures_before o.events (events_from (state_after s (unit_within max u) o) (cut max (segment after)) true) pictures in
          let waits : s.phase ≡ waiting = phase_waits s.phase (λ runs. cc (none, is, same_start max u (is_whole s (unit_within max u) runs here))) in
          let silent = All-cons (IsSilentWithin max) u (segment after) (record { accepted = b; no_start = none }) (silent_segment max after k) in
          let t = with_sets (first_state output) (set_units (cut max (front before))) in
          ap unnumbered
          (silent_events max (u ∷ segment after) s waits silent
          ∙ sym (ap₂ (λ p es. at_end s.output p ++ es) waits
          (piece_events are max output before after u a k ∙ silent_events max (u ∷ segment after) t refl silent)))

  pieces_joined : (all before after : List Unit) (s : State) → AreOff (drop 1 (drop_flags [] (cut max all))) → all ≡ before ++ after → IsThrough output max before s →
      All (IsAcceptedWithin max) before → All (IsAcceptedWithin max) after → ArePictures (events_from s (cut max after) true) →
      AreAlike (events_from s (cut max after) true) (events_from s (cut max (segment after)) true ++ flat_map of_piece (piece_units before after))
  pieces_joined all before [] s off here through a b pictures = ap unnumbered (sym (append-nil (events_from s [] true)))
  pieces_joined all before (u ∷ after) s off here through a b pictures =
      let o = after_unit s (unit_within max u) in
      let next = state_after s (unit_within max u) o in
      let ps = piece_units (before ++ u ∷ []) after in
      let this = All-head (IsAcceptedWithin max) u after b in
      let behind = All-tail (IsAcceptedWithin max) u after b in
      let whole = events_from s (cut max (u ∷ after)) true in
      let first_segment = events_from s (cut max (u ∷ segment after)) true in
      let next_segment = events_from next (cut max (segment after)) true in
      let later = pieces_joined all (before ++ u ∷ []) after next off (here ∙ sym (append_assoc before (u ∷ []) after)) (is_through_more output max before u s this through)
      (All-push (IsAcceptedWithin max) before u a this) behind (pictures_behind o.events (events_from next (cut max after) true) pictures) in
      let split : AreAlike whole (first_segment ++ flat_map of_piece ps) =
      joined_alike o.events o.events (events_from next (cut max after) true) (next_segment ++ flat_map of_piece ps) refl later
      ∙ ap unnumbered (sym (append_assoc o.events next_segment (flat_map of_piece ps))) in
      events_added (is_start u) (λ us. events_from s (cut max us) true) of_piece (u ∷ segment after) (piece before u after) ps whole split
      (λ is. at_start before after u s is (subst (λ us. AreOff (drop 1 (drop_flags [] (cut max us)))) here off) through a this behind
      (pictures_before first_segment (flat_map of_piece ps) (pictures_alike whole (first_segment ++ flat_map of_piece ps) split pictures)))
      ∙ ap (λ us. unnumbered (events_from s (cut max us) true ++ flat_map of_piece (piece_units before (u ∷ after)))) (sym (starts_now (is_start u) u after refl))

  -- The events are those of the pieces, one after the other.
  events_joined : (all : List Unit) → AreOff (drop 1 (drop_flags [] (cut max all))) → ArePictures (events_from (first_state output) (cut max all) true) →
      AreAlike (events_from (first_state output) (cut max all) true) (flat_map of_piece (piece_units [] all))
  events_joined all off pictures =
      let first = first_state output in
      let accepted = all_accepted max all first pictures in
      pieces_joined all [] all first off refl (record { is = refl; same_output = refl; same_sets = refl }) (All-nil (IsAcceptedWithin max)) accepted pictures
      ∙ ap (λ es. unnumbered (es ++ flat_map of_piece (piece_units [] all))) (silent_events max (segment all) first refl (silent_segment max all accepted))

  -- What is written of a piece hands out what the piece does.
  written_alike : WrittenUnitsStandAlone → (bytes : List ℕ) (ps : List (List Unit)) → All (All (IsOf bytes)) ps →
      AreAlike (flat_map (λ p. events output max p true) (map (flat_map written) ps)) (flat_map of_piece ps)
  written_alike alone bytes [] h = refl
  written_alike alone bytes (p ∷ ps) h =
      let first = first_state output in
      joined_alike (events output max (flat_map written p) true) (of_piece p)
      (flat_map (λ q. events output max q true) (map (flat_map written) ps)) (flat_map of_piece ps)
      (keeps first first (cut max p) (units max (flat_map written p) true) refl refl refl refl (read_back alone max bytes p (All-head (All (IsOf bytes)) p ps h)))
      (written_alike alone bytes ps (All-tail (All (IsOf bytes)) p ps h))

pub pieces_decode_alike_so : SetsAreInForceAgain → SetsInForceAreUnits → EventsKeepButNumbers → StartUnitsBeginAnew → WrittenUnitsStandAlone
    → UnitsAreWithin → UnitsAreWhole → PiecesDecodeAlike
pieces_decode_alike_so again are keeps anew alone within whole output max bytes short pictures off =
    let us = units (length bytes) bytes true in
    let same : units max bytes true ≡ cut max us = within (length bytes) max bytes true (omega arith) in
    let here : ArePictures (events_from (first_state output) (cut max us) true) = subst (λ vs. ArePictures (events_from (first_state output) vs true)) same pictures in
    ap (λ vs. unnumbered (events_from (first_state output) vs true)) same
    ∙ events_joined again are keeps anew output max us (subst (λ vs. AreOff (drop 1 (drop_flags [] vs))) same off) here
    ∙ sym (written_alike again are keeps anew output max alone bytes (piece_units [] us) (pieces_of_stream whole bytes))
    ∙ ap (λ ps. unnumbered (flat_map (λ p. events output max p true) ps)) (sym (pieces_written [] us))

-- ---- worked examples

abbrev sps_small : List ℕ
sps_small = 0 ∷ 0 ∷ 0 ∷ 1 ∷ 103 ∷ 66 ∷ 192 ∷ 10 ∷ 218 ∷ 113 ∷ []

abbrev pps_plain : List ℕ
pps_plain = 0 ∷ 0 ∷ 0 ∷ 1 ∷ 104 ∷ 206 ∷ 56 ∷ 128 ∷ []

-- two IDR pictures of one I_PCM macroblock each
abbrev pcm : List ℕ → List ℕ
pcm header = (0 ∷ 0 ∷ 1 ∷ 101 ∷ 136 ∷ []) ++ header ++ replicate 384 128 ++ 128 ∷ []

abbrev pcm_stream : List ℕ → List ℕ
pcm_stream second = sps_small ++ pps_plain ++ pcm (132 ∷ 134 ∷ 128 ∷ []) ++ pcm second

-- each piece by itself gives one picture
of_pieces : map (λ piece. length (events Full 134217728 piece true)) (pieces (pcm_stream (130 ∷ 33 ∷ 160 ∷ []))) ≡ 1 ∷ 1 ∷ []
of_pieces = refl

-- also where the whole drops the first
of_dropping_pieces : map (λ piece. length (events Full 134217728 piece true)) (pieces (pcm_stream (130 ∷ 161 ∷ 160 ∷ []))) ≡ 1 ∷ 1 ∷ []
of_dropping_pieces = refl

dropping_whole : length (events Full 134217728 (pcm_stream (130 ∷ 161 ∷ 160 ∷ [])) true) ≡ 1
dropping_whole = refl

-- A stream that begins at one of its units.
pub mod StartUnits
unfoldable pub use StartUnits.*
use Rattle.avc_units.specs.Grouping.{slice, sps, pps, other}
use Rattle.avc_decoder.specs.Events.{running}
use Rattle.avc_types.specs.declared.fault.Fault.TheVariants as faults

-- ---- a stream that begins at one of its units decodes as it did there: what a unit with another number does

-- with the contents and the other number, elsewhere
abbrev moved : (ℕ → ℕ) → (u u' : Piece) → Piece
moved r u u' = record u' { index = r u.index; header = u.header; body = u.body }

like : (r : ℕ → ℕ) (u u' : Piece) → contents u ≡ contents u' → u'.index ≡ r u.index → u' ≡ moved r u u'
like r u u' e n =
    ap (λ m. record u' { index = m }) n
    ∙ ap (λ (c : ℕ × Option (List ℕ)). record u' { index = r u.index; header = c.0; body = c.1 }) (sym e)

abbrev renumbered_read : (ℕ → ℕ) → Result Slice Fault → Result Slice Fault
renumbered_read r (Ok s) = Ok (renumbered_slice r s)
renumbered_read r (Err f) = Err f

with_header-same : (r : ℕ → ℕ) (u u' : Piece) (bytes : List ℕ) (h : Result Header Fault)
    → with_header (moved r u u') bytes h ≡ renumbered_read r (with_header u bytes h)
with_header-same r u u' bytes (Ok h) = refl
with_header-same r u u' bytes (Err f) = refl

abbrev read_by : Option (List ℕ) → (List ℕ → Result Slice Fault) → Result Slice Fault
read_by rbsp read = elim rbsp [ None ↦ Err faults.NalTooLong | Some bytes ↦ read bytes ]

by_rbsp : (r : ℕ → ℕ) (rbsp : Option (List ℕ)) (a b : List ℕ → Result Slice Fault)
    → ((bytes : List ℕ) → a bytes ≡ renumbered_read r (b bytes)) → read_by rbsp a ≡ renumbered_read r (read_by rbsp b)
by_rbsp r None a b e = refl
by_rbsp r (Some bytes) a b e = e bytes

slice_in-same : (r : ℕ → ℕ) (sets : Sets) (u u' : Piece) → slice_in sets (moved r u u') ≡ renumbered_read r (slice_in sets u)
slice_in-same r sets u u' = by_rbsp r (rbsp_of u) _ _ (λ bytes. with_header-same r u u' bytes (header_in_rbsp u.header sets bytes))

unreadable-same : (r : ℕ → ℕ) (o : Option OpenPictureFacts) (f : Fault) → unreadable o f ≡ renumbered_step r (unreadable o f)
unreadable-same r None f = refl
unreadable-same r (Some o) f = either-same (renumbered_step r) o.full _ _ _ _ refl refl

readable-same : (r : ℕ → ℕ) (o : Option OpenPictureFacts) (starts : Bool) (s : Slice)
    → readable o starts (renumbered_slice r s) ≡ renumbered_step r (readable o starts s)
readable-same r None starts s = refl
readable-same r (Some o) starts s = either-same (renumbered_step r) (begins o.last s.header) _ _ _ _ refl refl

slice_step-same : (r : ℕ → ℕ) (o : Option OpenPictureFacts) (starts : Bool) (read : Result Slice Fault)
    → slice_step o starts (renumbered_read r read) ≡ renumbered_step r (slice_step o starts read)
slice_step-same r o starts (Ok s) = readable-same r o starts s
slice_step-same r o starts (Err f) = unreadable-same r o f

ends-same : (r : ℕ → ℕ) (f : Option Fault) → ends_picture (refusal_of f) ≡ renumbered_step r (ends_picture (refusal_of f))
ends-same r None = refl
ends-same r (Some f) = refl

running_step-same : (r : ℕ → ℕ) (sets : Sets) (o : Option OpenPictureFacts) (u u' : Piece) (k : Kind)
    → running_step sets o (moved r u u') k ≡ renumbered_step r (running_step sets o u k)
running_step-same r sets o u u' (slice idr) =
    ap (slice_step o (is_start u)) (slice_in-same r sets u u') ∙ slice_step-same r o (is_start u) (slice_in sets u)
running_step-same r sets o u u' partition = unreadable-same r o faults.DataPartition
running_step-same r sets o u u' sps = ends-same r (set_fault sps (rbsp_of u))
running_step-same r sets o u u' pps = ends-same r (set_fault pps (rbsp_of u))
running_step-same r sets o u u' _ = refl

waiting_step-same : (r : ℕ → ℕ) (sets : Sets) (u u' : Piece) (k : Kind)
    → waiting_step sets (moved r u u') k ≡ renumbered_step r (waiting_step sets u k)
waiting_step-same r sets u u' (slice idr) = either-same (renumbered_step r) (is_start u) _ _ _ _ (running_step-same r sets None u u' (slice idr)) refl
waiting_step-same r sets u u' partition = refl
waiting_step-same r sets u u' k = running_step-same r sets None u u' k

step-same : (r : ℕ → ℕ) (sets : Sets) (runs : Bool) (o : Option OpenPictureFacts) (u u' : Piece)
    → step sets runs o (moved r u u') ≡ renumbered_step r (step sets runs o u)
step-same r sets runs o u u' =
    either-same (renumbered_step r) (forbidden_zero_bit u.header) _ _ _ _ refl
    (either-same (renumbered_step r) runs _ _ _ _ (running_step-same r sets o u u' (kind u)) (waiting_step-same r sets u u' (kind u)))

-- ---- streams of such units

-- Each has the number that r gives.
abbrev AreRenumbered : (ℕ → ℕ) → List Piece → List Piece → Type 0
AreRenumbered r us us' = (j : ℕ) (u u' : Piece) → slice_get us j ≡ Some u → slice_get us' j ≡ Some u' → u'.index ≡ r u.index

after_unit-same : (r : ℕ → ℕ) (s s' : State) (u u' : Piece) → s'.output ≡ s.output → sets_after s'.sets ≡ sets_after s.sets
    → s'.phase ≡ renumbered_phase r s.phase → u' ≡ moved r u u'
    → after_unit s' u' ≡ renumbered_outcome r (after_unit s u)
after_unit-same r s s' u u' m e f a =
    let sets = sets_after s.sets in
    cc (
      m,
      e,
      f,
      a,
      running-same r s.phase,
      open_facts-same r s.phase,
      step-same r sets (is_running s.phase) (open_facts_in s.phase) u u',
      in_phase-same s.output r sets u.index (step sets (is_running s.phase) (open_facts_in s.phase) u) s.phase,
    )

-- The events are the same but for the numbers.
pub events-same : SetsComeAlike → (r : ℕ → ℕ) (us us' : List Piece) (s s' : State) (ended : Bool)
    → s'.output ≡ s.output → sets_after s'.sets ≡ sets_after s.sets → s'.phase ≡ renumbered_phase r s.phase
    → map contents us ≡ map contents us' → AreRenumbered r us us'
    → events_from s' us' ended ≡ map (renumbered_event r) (events_from s us ended)
events-same come r [] [] s s' true o e f a n = ap (λ m. at_end m s'.phase) o ∙ ap (at_end s.output) f ∙ at_end-same s.output r s.phase
events-same come r [] [] s s' false o e f a n = refl
events-same come r (u ∷ us) (u' ∷ us') s s' ended o e f a n =
    let x = after_unit s u in
    let x' = renumbered_outcome r x in
    let alike : u' ≡ moved r u u' = like r u u' (cc a) (n 0 u u' refl refl) in
    let brought : set_units (u' ∷ []) ≡ set_units (u ∷ []) = ap (λ v. set_units (v ∷ [])) alike in
    let sets : sets_after (s'.sets ++ set_units (u' ∷ [])) ≡ sets_after (s.sets ++ set_units (u ∷ [])) =
    come s'.sets s.sets (set_units (u' ∷ [])) e ∙ ap (λ m. sets_after (s.sets ++ m)) brought in
    ap (λ (y : Outcome). y.events ++ events_from (state_after s' u' y) us' ended) (after_unit-same r s s' u u' o e f alike)
    ∙ ap (λ es. x'.events ++ es) (events-same come r us us' (state_after s u x) (state_after s' u' x') ended o sets refl (cc a) (λ j. n (suc j)))
    ∙ sym (map-append (renumbered_event r) x.events (events_from (state_after s u x) us ended))
events-same come r _ _ s s' ended o e f a n = cc a

-- ---- the parameter sets in front

-- Where decoding waits the unit is taken without a fault.
abbrev NoFault : Piece → Type 0
NoFault u = (sets : Sets) → step sets false None u ≡ ends_picture Nothing

set_taken : (s : State) (u : Piece) → s.phase ≡ waiting → NoFault u → after_unit s u ≡ no_change waiting
set_taken s u w n =
    let sets = sets_after s.sets in
    ap (λ p. in_phase s.output sets u.index (step sets (is_running p) (open_facts_in p) u) p) w
    ∙ ap (λ what. in_phase s.output sets u.index what waiting) (n sets)

-- units that are taken without a fault give no event, and decoding still waits
events_after_sets : (us more : List Piece) (s : State) (ended : Bool) → s.phase ≡ waiting → All NoFault us
    → events_from s (us ++ more) ended ≡ events_from (state_of s.output (s.sets ++ set_units us) waiting) more ended
events_after_sets [] more s ended w n =
    ap (λ p. events_from (record s { phase = p }) more ended) w ∙ ap (λ ss. events_from (state_of s.output ss waiting) more ended) (sym (append-nil s.sets))
events_after_sets (u ∷ us) more s ended w n =
    ap (λ (x : Outcome). x.events ++ events_from (state_after s u x) (us ++ more) ended) (set_taken s u w (All-head NoFault u us n))
    ∙ events_after_sets us more (state_of s.output (s.sets ++ set_units (u ∷ [])) waiting) ended refl (All-tail NoFault u us n)
    ∙ ap (λ ss. events_from (state_of s.output ss waiting) more ended) (sets-append s.sets _ (set_units us))

-- ---- units with the same contents

-- numbered from n on
abbrev Numbered : (n : ℕ) → List Piece → Type 0
Numbered n us = (j : ℕ) (u : Piece) → slice_get us j ≡ Some u → u.index ≡ n + j

-- They are taken alike, and bring the same sets.
no_fault-like : (u u' : Piece) → contents u ≡ contents u' → NoFault u → NoFault u'
no_fault-like u u' e n sets =
    let r : ℕ → ℕ = λ _. u'.index in
    ap (step sets false None) (like r u u' e refl) ∙ step-same r sets false None u u' ∙ ap (renumbered_step r) (n sets)

no_faults-like : (us us' : List Piece) → map contents us ≡ map contents us' → All NoFault us → All NoFault us'
no_faults-like [] [] e n = All-nil NoFault
no_faults-like (u ∷ us) (u' ∷ us') e n =
    All-cons NoFault u' us' (no_fault-like u u' (cc e) (All-head NoFault u us n)) (no_faults-like us us' (cc e) (All-tail NoFault u us n))
no_faults-like _ _ e n = cc e

set-like : (u u' : Piece) → contents u ≡ contents u' → set_unit u' ≡ set_unit u
set-like u u' e = ap set_unit (like (λ _. u'.index) u u' e refl)

sets-like : (us us' : List Piece) → map contents us ≡ map contents us' → set_units us' ≡ set_units us
sets-like [] [] e = refl
sets-like (u ∷ us) (u' ∷ us') e = cc (set-like u u' (cc e), sets-like us us' (cc e))
sets-like _ _ e = cc e

-- ---- places

-- what stands in front stays
get-front : {A : Type 0} (xs ys : List A) (k : ℕ) (x : A) → slice_get xs k ≡ Some x → slice_get (xs ++ ys) k ≡ Some x
get-front [] ys k x e = cc
get-front (y ∷ xs) ys zero x e = e
get-front (y ∷ xs) ys (suc k) x e = get-front xs ys k x e

-- what the first n of a list say, and what the others say
cut-map : {A B : Type 0} (say : A → B) (n : ℕ) (xs : List A) (front back : List B) → length front ≡ n → map say xs ≡ front ++ back
    → (map say (take n xs) ≡ front) × (map say (drop n xs) ≡ back)
cut-map say n xs front back counted same = (
  sym (take-map say n xs) ∙ ap (take n) same ∙ ap (λ m. take m (front ++ back)) (sym counted) ∙ take-append_seam front back,
  sym (drop-map say n xs) ∙ ap (drop n) same ∙ ap (λ m. drop m (front ++ back)) (sym counted) ∙ drop-append_seam front back,
)

get-drop : {A : Type 0} (n : ℕ) (xs : List A) (j : ℕ) → slice_get (drop n xs) j ≡ slice_get xs (n + j)
get-drop zero xs j = let same : j ≡ 0 + j = omega arith in ap (slice_get xs) same
get-drop (suc n) [] j = refl
get-drop (suc n) (x ∷ xs) j = let same : suc (n + j) ≡ suc n + j = omega arith in get-drop n xs j ∙ ap (slice_get (x ∷ xs)) same

get-take : {A : Type 0} (n : ℕ) (xs : List A) (j : ℕ) (x : A) → slice_get (take n xs) j ≡ Some x → slice_get xs j ≡ Some x
get-take n xs j x e = subst (λ l. slice_get l j ≡ Some x) (take-append-drop n xs) (get-front (take n xs) (drop n xs) j x e)

numbered_later : (n : ℕ) (us : List Piece) → Numbered 0 us → Numbered n (drop n us)
numbered_later n us a j u e = let same : 0 + (n + j) ≡ n + j = omega arith in a (n + j) u (sym (get-drop n us j) ∙ e) ∙ same

-- ---- from the first state on

-- where decoding waits after these units
abbrev waiting_after : Output → (before : List Piece) → State
waiting_after output before =
    let s = state_through (first_state output) before in
    state_of s.output s.sets waiting

-- Units that bring the sets in force after `before` again, and then others: the events of these are those that they have behind `before`.
resumes : SetsAreInForceAgain → SetsInForceAreUnits → SetsComeAlike
    → (output : Output) (before others us : List Piece) (k : ℕ) (ended : Bool)
    → Numbered 0 us → Numbered k others
    → map contents us ≡ map contents (sets_in_force before) ++ map contents others
    → events_from (waiting_after output before) others ended
    ≡ map (renumbered (length (sets_in_force before)) k) (events_from (first_state output) us ended)
resumes again are come output before others us k ended numbers later_numbers same =
    let sets = sets_in_force before in
    let m = length sets in
    let r : ℕ → ℕ = λ n. n + k - m in
    let front = take m us in
    let back = drop m us in
    let cut = cut-map contents m us (map contents sets) (map contents others) (length-map sets contents) same in
    let front_same = sym cut.0 in
    let taken = All-weaker (IsSetOf before) NoFault (λ u i. i.no_fault) sets (are before) in
    let start : State = state_of output ([] ++ set_units front) waiting in
    let sets_same : sets_after (state_through (first_state output) before).sets ≡ sets_after start.sets =
    ap sets_after (sets_through (first_state output) before) ∙ sym (again before) ∙ ap sets_after (sym (sets-like sets front front_same)) in
    let renumbers : AreRenumbered r back others = λ j u u' a b. omega (arith, numbered_later m us numbers j u a, later_numbers j u' b) in
    let behind = events_after_sets front back (first_state output) ended refl (no_faults-like sets front front_same taken) in
    events-same come r back others start (waiting_after output before) ended (output_through (first_state output) before) sets_same refl cut.1 renumbers
    ∙ ap (map (renumbered_event r)) (sym behind ∙ ap (λ ps. events_from (first_state output) ps ended) (take-append-drop m us))

-- ---- of bytes

-- Unit k and those before it are the same once the stream has ended.
abbrev StandsToo : (max : ℕ) → List ℕ → (ended : Bool) → (k : ℕ) → Piece → Type 0
StandsToo max bytes ended k u = (take k (units max bytes true) ≡ take k (units max bytes ended)) × (slice_get (units max bytes true) k ≡ Some u)

stands_too : UnitsStay → (max : ℕ) (bytes : List ℕ) (ended : Bool) (k : ℕ) (u : Piece)
    → slice_get (units max bytes ended) k ≡ Some u → StandsToo max bytes ended k u
stands_too stay max bytes true k u e = (refl, e)
stands_too stay max bytes false k u e =
    let more = stay max bytes [] true in
    let all : units max bytes true ≡ units max bytes false ++ more.0 = ap (λ b. units max b true) (sym (append-nil bytes)) ∙ more.1 in (
      ap (take k) all ∙ take-append-le k (units max bytes false) more.0 (omega (arith, slice_get_within (units max bytes false) k u e)),
      ap (λ us. slice_get us k) all ∙ get-front (units max bytes false) more.0 k u e,
    )

abbrev from_unit : List ℕ → Option Piece → List ℕ
from_unit bytes (Some u) = start_code ++ drop u.offset bytes
from_unit bytes None = []

resumed_is : (max : ℕ) (bytes : List ℕ) (ended : Bool) (k : ℕ) (u : Piece) → StandsToo max bytes ended k u
    → resumed max bytes k ≡ flat_map written (sets_in_force (take k (units max bytes ended))) ++ start_code ++ drop u.offset bytes
resumed_is max bytes ended k u s =
    ap (λ before. flat_map written (sets_in_force before) ++ from_unit bytes (slice_get (units max bytes true) k)) s.0
    ∙ ap (λ o. flat_map written (sets_in_force (take k (units max bytes ended))) ++ from_unit bytes o) s.1
    ∙ sym (append_assoc (flat_map written (sets_in_force (take k (units max bytes ended)))) start_code (drop u.offset bytes))

set_of_stream : (max : ℕ) (bytes : List ℕ) (ended : Bool) (k : ℕ) (u v : Piece) → StandsToo max bytes ended k u
    → IsSetOf (take k (units max bytes ended)) v → IsUnitOf max bytes v
set_of_stream max bytes ended k u v s i = record {
  place = i.place;
  is_there = get-take k (units max bytes true) i.place v (ap (λ us. slice_get us i.place) s.0 ∙ i.is_there);
  short = i.short;
}

numbers_are : UnitsAreNumbered → (max : ℕ) (bytes : List ℕ) (ended : Bool) → HaveOwnNumbers (units max bytes ended) → (n : ℕ)
    → Numbered n (drop n (units max bytes ended))
numbers_are numbered max bytes ended own n j u e =
    let there : slice_get (units max bytes ended) (n + j) ≡ Some u = sym (get-drop n (units max bytes ended) j) ∙ e in
    omega (arith, numbered max bytes ended (n + j) u there, own (n + j) u there)

-- ---- a stream of no more units

-- No number is cut off where the stream has no more units than one in which none is.
fewer_own : UnitsAreNumbered → (max : ℕ) (bytes fewer : List ℕ) (ended : Bool)
    → length (units max fewer ended) ≤ length (units max bytes ended) → HaveOwnNumbers (units max bytes ended) → HaveOwnNumbers (units max fewer ended)
fewer_own numbered max bytes fewer ended few own n u e =
    let there = get_or (units max bytes ended) n u in
    let is_there = slice_get-get_or (units max bytes ended) n u (omega (arith, slice_get_within (units max fewer ended) n u e, few)) in
    let same : u.index ≡ there.index = numbered max fewer ended n u e ∙ sym (numbered max bytes ended n there is_there) in
    omega (arith, same, own n there is_there)

-- There are so many from a unit on, behind those that brought the sets in force.
resumed_few : SetsInForceAreFew → (all us : List Piece) (k : ℕ)
    → map contents us ≡ map contents (sets_in_force (take k all)) ++ map contents (drop k all) → length us ≤ length all
resumed_few few all us k same =
    let sets = sets_in_force (take k all) in
    let later = drop k all in
    let parts = ap length same in
    omega (
      arith,
      parts,
      length-map us contents,
      length-map sets contents,
      length-map later contents,
      length-append (map contents sets) (map contents later),
      few (take k all),
      ap length (take-append-drop k all),
      length-append (take k all) later,
    )

-- ---- the unit that closes a faulty picture

-- it begins a picture as it would where decoding waits
begins_alike : (o : OpenPictureFacts) (read : Result Slice Fault) → (slice_step (Some o) true read).closes ≡ true
    → (slice_step (Some o) true read).even_after_fault ≡ true → (slice_step (Some o) true read).next ≡ (slice_step None true read).next
begins_alike o (Ok s) =
    either (λ (w : Step). w.closes ≡ true → w.even_after_fault ≡ true → w.next ≡ Begins s) (begins o.last s.header) _ _
    (λ _ closes even. refl) (λ _ closes even. cc closes)
begins_alike o (Err f) =
    either (λ (w : Step). w.closes ≡ true → w.even_after_fault ≡ true → w.next ≡ FaultOfOwn f) o.full _ _
    (λ _ closes even. cc even) (λ _ closes even. cc closes)

next_alike : (sets : Sets) (o : OpenPictureFacts) (u : Piece) → is_start u ≡ true → (step sets true (Some o) u).closes ≡ true
    → (step sets true (Some o) u).even_after_fault ≡ true → (step sets true (Some o) u).next ≡ (step sets false None u).next
next_alike sets o u e closes even =
    let read = slice_in sets u in
    let runs = (says sets u e).runs (Some o) in
    ap (λ (w : Step). w.next) runs
    ∙ begins_alike o read (ap (λ (w : Step). w.closes) (sym runs) ∙ closes) (ap (λ (w : Step). w.even_after_fault) (sym runs) ∙ even)
    ∙ ap (λ (w : Step). w.next) (sym (says sets u e).waits)

-- after a closing that is a fault, a unit that begins a picture even then
closing_first : (output : Output) (sets : Sets) (unit : ℕ) (what : Step) (next : Next) (closed rest : Outcome) → what.closes ≡ true
    → closed.phase ≡ waiting → what.even_after_fault ≡ true → what.next ≡ next
    → chosen what.closes (after_closing output sets unit what closed) rest ≡ followed_by closed (after_next output sets unit waiting next)
closing_first output sets unit what next closed rest closes waits even same = cc (closes, waits, even, same)

-- The events of the closing come first, and then those that come where decoding waits.
starts_anew_in : (output : Output) (units : List SetUnit) (u : Piece) (us : List Piece) (ended : Bool) (p : Phase) → is_start u ≡ true
    → CanStart output (step (sets_after units) (is_running p) (open_facts_in p) u) p
    → events_from (state_of output units p) (u ∷ us) ended
    ≡ closing_events output p ++ events_from (state_of output units waiting) (u ∷ us) ended
starts_anew_in output units u us ended waiting e can = refl
starts_anew_in output units u us ended (running h None) e can = absurd can
starts_anew_in output units u us ended (running h (Some o)) e can =
    let sets = sets_after units in
    let what = step sets true (Some (open_picture_facts o)) u in
    let here = step sets false None u in
    let closed = closed_picture output o in
    let y = after_next output sets u.index waiting here.next in
    let rest : Outcome → List Event = λ x. events_from (state_of output (units ++ set_units (u ∷ [])) x.phase) us ended in
    ap (λ (x : Outcome). x.events ++ rest x)
    (closing_first output sets u.index what here.next closed (after_next output sets u.index (running h (Some o)) what.next)
    can.0 can.1 can.2 (next_alike sets (open_picture_facts o) u e can.0 can.2))
    ∙ append_assoc closed.events y.events (rest y)

pub starts_anew : UnitsStay → WrittenUnitsStand → UnitsAreNumbered → SetsAreInForceAgain → SetsInForceAreUnits → SetsInForceAreFew → SetsComeAlike
    → StartsAnew
starts_anew stay stand numbered again are few come output max bytes ended k own starts placed =
    let s = stands_too stay max bytes ended k starts.unit starts.is_there in
    let all = units max bytes ended in
    let before = take k all in
    let state = state_through (first_state output) before in
    let later = drop (suc k) all in
    let from_there = drop_some all k starts.unit (sym starts.is_there) in
    let sets : All (IsUnitOf max bytes) (sets_in_force before) =
    All-weaker (IsSetOf before) (IsUnitOf max bytes) (λ v i. set_of_stream max bytes ended k starts.unit v s i) (sets_in_force before) (are before) in
    let same : map contents (units max (resumed max bytes k) ended) ≡ map contents (sets_in_force before) ++ map contents (drop k all) =
    ap (λ b. map contents (units max b ended)) (resumed_is max bytes ended k starts.unit s)
    ∙ stand max bytes ended (sets_in_force before) k starts.unit sets starts.is_there placed in
    let resumed_own = fewer_own numbered max bytes (resumed max bytes k) ended (resumed_few few all (units max (resumed max bytes k) ended) k same) own in
    let anew = resumes again are come output before (drop k all) (units max (resumed max bytes k) ended) k ended
    (numbers_are numbered max (resumed max bytes k) ended resumed_own 0)
    (numbers_are numbered max bytes ended own k)
    same in
    ap (λ us. events_from state us ended) from_there
    ∙ starts_anew_in state.output state.sets starts.unit later ended state.phase starts.starts starts.waits
    ∙ ap (λ us. closing_events state.output state.phase ++ events_from (waiting_after output before) us ended) (sym from_there)
    ∙ ap (λ es. closing_events state.output state.phase ++ es) anew

-- ---- events name units, and are the same but for these names

-- every unit with the number 0
abbrev zeroed : Piece → Piece
zeroed u = record u { index = 0 }

abbrev to_zero : ℕ → ℕ
to_zero n = 0

zeroed_say : (us : List Piece) → map contents us ≡ map contents (map zeroed us)
zeroed_say [] = refl
zeroed_say (u ∷ us) = ap (λ cs. contents u ∷ cs) (zeroed_say us)

zero_at : (us : List Piece) (j : ℕ) (v : Piece) → slice_get (map zeroed us) j ≡ Some v → v.index ≡ 0
zero_at [] j v e = cc e
zero_at (u ∷ us) zero v e = let same : zeroed u ≡ v = cc e in ap (λ (w : Piece). w.index) (sym same)
zero_at (u ∷ us) (suc j) v e = zero_at us j v e

pub events_keep : SetsComeAlike → EventsKeepButNumbers
events_keep come s s' us us' output w w' sets same =
    let zeros = map zeroed us in
    let these = events-same come to_zero us zeros s s true refl refl (w ∙ ap (renumbered_phase to_zero) (sym w)) (zeroed_say us) (λ j u u' a. zero_at us j u') in
    let those =
    events-same come to_zero us' zeros s' s true (sym output) (sym sets) (w ∙ ap (renumbered_phase to_zero) (sym w'))
    (sym same ∙ zeroed_say us) (λ j u u' a. zero_at us j u') in
    sym those ∙ these

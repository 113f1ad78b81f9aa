-- Units with other numbers, and units with which decoding begins anew.
pub mod EarlyOutput
unfoldable pub use EarlyOutput.*
use Rattle.avc_picture.specs.Slices.{list_of, refused}
use Rattle.avc_decoder.specs.Events.{running}
use Rattle.avc_types.specs.Results.{◌>>=◌}
use Rattle.avc_units.specs.Grouping.{slice, sps as sps_kind, pps as pps_kind}
use Rattle.avc_types.specs.declared.fault.Fault.TheVariants as faults
pub use Rattle.avc_laws.proofs.RenumberedHistories.{either-same}
use Rattle.avc_laws.proofs.RenumberedHistories.{renumbered_decoded, renumbered_history, renumbered_opening, stored_frames-same, closing-same}
use Rattle.avc_laws.proofs.RenumberedHistories.{opening-same, output_pictures-same, held_pictures-same, output_at_closing-same}

-- ---- units with other numbers: slices, pictures, histories and events are the same but for these: what names a unit, with that unit's other
-- number

abbrev pub renumbered_slice : (ℕ → ℕ) → Slice → Slice
renumbered_slice r s = record s { unit = r s.unit }

abbrev pub renumbered_fault : (ℕ → ℕ) → ℕ × Fault → ℕ × Fault
renumbered_fault r found = (r found.0, found.1)

abbrev pub renumbered_progress : (ℕ → ℕ) → Progress → Progress
renumbered_progress r g = record g { fault = option_map (renumbered_fault r) g.fault }

abbrev pub renumbered_picture : (ℕ → ℕ) → OpenPicture → OpenPicture
renumbered_picture r o =
    record o { before = renumbered_history r o.before; last = renumbered_slice r o.last; earlier = map (renumbered_slice r) o.earlier }

abbrev pub renumbered_phase : (ℕ → ℕ) → Phase → Phase
renumbered_phase r waiting = waiting
renumbered_phase r (running h o) = running (renumbered_history r h) (option_map (renumbered_picture r) o)

abbrev pub renumbered_outcome : (ℕ → ℕ) → Outcome → Outcome
renumbered_outcome r x = record x { events = map (renumbered_event r) x.events; phase = renumbered_phase r x.phase }

abbrev pub renumbered_next : (ℕ → ℕ) → Next → Next
renumbered_next r (Begins s) = Begins (renumbered_slice r s)
renumbered_next r (Continues s) = Continues (renumbered_slice r s)
renumbered_next r Nothing = Nothing
renumbered_next r (Refusal f) = Refusal f
renumbered_next r (FaultOfOpen f) = FaultOfOpen f
renumbered_next r (FaultOfOwn f) = FaultOfOwn f

abbrev pub renumbered_step : (ℕ → ℕ) → Step → Step
renumbered_step r what = record what { next = renumbered_next r what.next }

abbrev renumbered_result : (ℕ → ℕ) → Result History (ℕ × Fault) → Result History (ℕ × Fault)
renumbered_result r (Ok h) = Ok (renumbered_history r h)
renumbered_result r (Err found) = Err (renumbered_fault r found)

-- by a test, where it is the same in each case
if-same : {A : Type 0} (f : A → A) (b : Bool) (x' x y' y : A) → x' ≡ f x → y' ≡ f y
    → ◌≡◌ {A = A} (if b then x' else y') (f (if b then x else y))
if-same f true x' x y' y e g = e
if-same f false x' x y' y e g = g

-- ---- the slices of a picture

unit-same : (r : ℕ → ℕ) (unit : ℕ) (f : Option Fault) → with_unit (r unit) f ≡ option_map (renumbered_fault r) (with_unit unit f)
unit-same r unit None = refl
unit-same r unit (Some f) = refl

whole-same : (r : ℕ → ℕ) (s : Slice) (before : Progress) (facts : SliceInfo) (ms : SliceMbs) (found : Option (ℕ × Fault))
    → let s' = renumbered_slice r s in
    let before' = renumbered_progress r before in
    with_first_fault s' before' (read_whole s' before' facts ms) found
    ≡ renumbered_progress r (with_first_fault s before (read_whole s before facts ms) found)
whole-same r s before facts ms None = ap (λ f. record (read_whole s before facts ms) { fault = f }) (unit-same r s.unit ms.fault)
whole-same r s before facts ms (Some found) = refl

list-same : (r : ℕ → ℕ) (p : PictureStart) (s : Slice) (before : Progress) (list : Result (List (Option Reference)) Fault)
    → with_reference_list p (renumbered_slice r s) (renumbered_progress r before) list
    ≡ renumbered_progress r (with_reference_list p s before list)
list-same r p s before (Err f) = refl
list-same r p s before (Ok list) = whole-same r s before _ _ _

abbrev unless_fault : Option (ℕ × Fault) → (before more : Progress) → Progress
unless_fault f before more = elim f [ Some _ ↦ before | None ↦ more ]

unless-same : (r : ℕ → ℕ) (f : Option (ℕ × Fault)) (before more' more : Progress) → more' ≡ renumbered_progress r more
    → unless_fault (option_map (renumbered_fault r) f) (renumbered_progress r before) more'
    ≡ renumbered_progress r (unless_fault f before more)
unless-same r (Some f) before more' more e = refl
unless-same r None before more' more e = e

slice-same : (r : ℕ → ℕ) (p : PictureStart) (s : Slice) (g : Progress)
    → with_slice_read p (renumbered_slice r s) (renumbered_progress r g) ≡ renumbered_progress r (with_slice_read p s g)
slice-same r p s g =
    let expected = length g.mbs in
    let first = (s.header).first_mb_in_slice in
    unless-same r g.fault g _ _
    (if-same (renumbered_progress r) (nat_lt expected first) _ _ _ _ refl
    (if-same (renumbered_progress r) (nat_lt first expected) _ _ _ _ refl (list-same r p s g (list_of p s.header))))

pub progress-same : (r : ℕ → ℕ) (p : PictureStart) (slices : List Slice)
    → progress p (map (renumbered_slice r) slices) ≡ renumbered_progress r (progress p slices)
progress-same r p [] = refl
progress-same r p (s ∷ slices) = ap (with_slice_read p (renumbered_slice r s)) (progress-same r p slices) ∙ slice-same r p s (progress p slices)

-- ---- the open picture

oldest-same : (r : ℕ → ℕ) (s : Slice) (slices : List Slice)
    → oldest (renumbered_slice r s) (map (renumbered_slice r) slices) ≡ renumbered_slice r (oldest s slices)
oldest-same r s [] = refl
oldest-same r s (older ∷ others) = oldest-same r older others

header-same : (r : ℕ → ℕ) (o : OpenPicture) → first_header (renumbered_picture r o) ≡ first_header o
header-same r o = ap (λ (s : Slice). s.header) (oldest-same r o.last o.earlier)

start-same : (r : ℕ → ℕ) (o : OpenPicture) (h : History) → start_on (renumbered_picture r o) (renumbered_history r h) ≡ start_on o h
start-same r o h = ap (λ frames. record (start_on o h) { frames = frames }) (stored_frames-same r h)

on-same : (r : ℕ → ℕ) (o : OpenPicture) (h : History)
    → progress_on (renumbered_picture r o) (renumbered_history r h) ≡ renumbered_progress r (progress_on o h)
on-same r o h = ap (λ p. progress p (map (renumbered_slice r) (slices_of o))) (start-same r o h) ∙ progress-same r (start_on o h) (slices_of o)

planes-same : (r : ℕ → ℕ) (o : OpenPicture) (h : History)
    → picture_planes (renumbered_picture r o) (renumbered_history r h) ≡ picture_planes o h
planes-same r o h = ap₂ (λ p g. deblocked (coded_of p g)) (start-same r o h) (on-same r o h)

closed-same : (r : ℕ → ℕ) (o : OpenPicture) (h : History)
    → closed_history (renumbered_picture r o) (renumbered_history r h) ≡ renumbered_opening r (closed_history o h)
closed-same r o h =
    ap₂ (λ (s : Slice) planes. history_after_closing o.sps s.header s.unit planes (renumbered_history r h))
    (oldest-same r o.last o.earlier) (planes-same r o h)
    ∙ closing-same r o.sps (first_header o) (first_slice o).unit (picture_planes o h) h

opened-same : (r : ℕ → ℕ) (o : OpenPicture)
    → history_at_opening_of (renumbered_picture r o) ≡ renumbered_opening r (history_at_opening_of o)
opened-same r o =
    ap (λ hd. history_at_opening o.sps hd (renumbered_history r o.before)) (header-same r o) ∙ opening-same r o.sps (first_header o) o.before

history-cases : (r : ℕ → ℕ) (address : ℕ) (opened : Result History Fault) (before : History)
    → history_by address (renumbered_opening r opened) (renumbered_history r before) ≡ renumbered_history r (history_by address opened before)
history-cases r zero (Ok h) before = refl
history-cases r _ opened before = refl

history-same : (r : ℕ → ℕ) (o : OpenPicture) → history_of (renumbered_picture r o) ≡ renumbered_history r (history_of o)
history-same r o =
    ap₂ (λ (hd : Header) opened. history_by hd.first_mb_in_slice opened (renumbered_history r o.before)) (header-same r o) (opened-same r o)
    ∙ history-cases r (first_header o).first_mb_in_slice (history_at_opening_of o) o.before

count-same : (r : ℕ → ℕ) (address : ℕ) (opened : Result History Fault) (a b : History → ℕ)
    → ((h : History) → a (renumbered_history r h) ≡ b h)
    → count_by address (renumbered_opening r opened) a ≡ count_by address opened b
count-same r zero (Ok h) a b e = e h
count-same r _ opened a b e = refl

read-same : (r : ℕ → ℕ) (o : OpenPicture) → read_of (renumbered_picture r o) ≡ read_of o
read-same r o =
    let counted : History → ℕ = λ h. (progress_on (renumbered_picture r o) h).read in
    ap₂ (λ (hd : Header) opened. count_by hd.first_mb_in_slice opened counted) (header-same r o) (opened-same r o)
    ∙ count-same r (first_header o).first_mb_in_slice (history_at_opening_of o) _ _ (λ h. ap (λ (g : Progress). g.read) (on-same r o h))

pub facts-same : (r : ℕ → ℕ) (o : OpenPicture) → open_picture_facts (renumbered_picture r o) ≡ open_picture_facts o
facts-same r o =
    let o' = renumbered_picture r o in
    ap (λ h. facts_by (o.last).header (is_full (start_on o' h) (progress_on o' h))) (history-same r o)
    ∙ ap (λ g. facts_by (o.last).header (is_full (start_on o (history_of o)) g)) (on-same r o (history_of o))

-- ---- its first fault

later-cases : (r : ℕ → ℕ) (f : Option (ℕ × Fault)) (closing full : Bool) (unit : ℕ) (closed : Result History Fault)
    → then_closing (option_map (renumbered_fault r) f) closing (by_full full (r unit) (renumbered_opening r closed))
    ≡ option_map (renumbered_fault r) (then_closing f closing (by_full full unit closed))
later-cases r None true true unit (Ok h) = refl
later-cases r _ closing full unit closed = refl

fault-same : (r : ℕ → ℕ) (address unit : ℕ) (opened : Result History Fault) (a b : History → Option (ℕ × Fault))
    → ((h : History) → a (renumbered_history r h) ≡ option_map (renumbered_fault r) (b h))
    → fault_by address (r unit) (renumbered_opening r opened) a ≡ option_map (renumbered_fault r) (fault_by address unit opened b)
fault-same r zero unit (Ok h) a b e = e h
fault-same r _ unit opened a b e = refl

later-same : (r : ℕ → ℕ) (o : OpenPicture) (closing : Bool) (h : History)
    → let o' = renumbered_picture r o in
    let h' = renumbered_history r h in
    then_closing (progress_on o' h').fault closing (found_at_closing o' h')
    ≡ option_map (renumbered_fault r) (then_closing (progress_on o h).fault closing (found_at_closing o h))
later-same r o closing h =
    ap₂ (λ (g : Progress) c. then_closing g.fault closing (by_full (is_full (start_on o h) g) (r (o.last).unit) c)) (on-same r o h) (closed-same r o h)
    ∙ later-cases r (progress_on o h).fault closing (is_full (start_on o h) (progress_on o h)) (o.last).unit (closed_history o h)

pub first_fault-same : (r : ℕ → ℕ) (o : OpenPicture) (closing : Bool)
    → first_fault (renumbered_picture r o) closing ≡ option_map (renumbered_fault r) (first_fault o closing)
first_fault-same r o closing =
    let o' = renumbered_picture r o in
    let later : History → Option (ℕ × Fault) = λ h. then_closing (progress_on o' h).fault closing (found_at_closing o' h) in
    ap₂ (λ (s : Slice) opened. fault_by (s.header).first_mb_in_slice s.unit opened later) (oldest-same r o.last o.earlier) (opened-same r o)
    ∙ fault-same r (first_header o).first_mb_in_slice (first_slice o).unit (history_at_opening_of o) _ _ (later-same r o closing)

-- ---- closing it

pictures-same : (r : ℕ → ℕ) (out : List Decoded) → map (renumbered_event r) (pictures out) ≡ pictures (map (renumbered_decoded r) out)
pictures-same r [] = refl
pictures-same r (p ∷ out) = ap (λ es. Picture (renumbered_decoded r p) ∷ es) (pictures-same r out)

-- the pictures that go out, as events
shown-same : (r : ℕ → ℕ) (out' out : List Decoded) → out' ≡ map (renumbered_decoded r) out → pictures out' ≡ map (renumbered_event r) (pictures out)
shown-same r out' out e = ap pictures e ∙ sym (pictures-same r out)

shown_held-same : (output : Output) (r : ℕ → ℕ) (h : History)
    → pictures (held_pictures output (renumbered_history r h)) ≡ map (renumbered_event r) (pictures (held_pictures output h))
shown_held-same output r h = shown-same r _ _ (held_pictures-same output r h)

failed-same : (output : Output) (r : ℕ → ℕ) (h : History) (unit : ℕ) (f : Fault) (read : ℕ)
    → failed_at output (renumbered_history r h) (r unit) f read ≡ renumbered_outcome r (failed_at output h unit f read)
failed-same output r h unit f read =
    ap (λ es. outcome_of (es ++ Refused (r unit) f ∷ []) waiting read) (shown_held-same output r h)
    ∙ ap (λ es. outcome_of es waiting read) (sym (map-append (renumbered_event r) (pictures (held_pictures output h)) (Refused unit f ∷ [])))

result-cases : (r : ℕ → ℕ) (o : OpenPicture) (f : Option (ℕ × Fault)) (c : Result History Fault)
    → unless_found (option_map (renumbered_fault r) f) (at_last_slice (renumbered_picture r o) (renumbered_opening r c))
    ≡ renumbered_result r (unless_found f (at_last_slice o c))
result-cases r o None (Ok h) = refl
result-cases r o _ c = refl

result-same : (r : ℕ → ℕ) (o : OpenPicture) → closing_result (renumbered_picture r o) ≡ renumbered_result r (closing_result o)
result-same r o =
    let o' = renumbered_picture r o in
    ap₂ (λ f c. unless_found f (at_last_slice o' c)) (first_fault-same r o true)
    (ap (closed_history o') (history-same r o) ∙ closed-same r o (history_of o))
    ∙ result-cases r o (first_fault o true) (closed_history o (history_of o))

outcome-same : (output : Output) (r : ℕ → ℕ) (o : OpenPicture) (x : Result History (ℕ × Fault))
    → closed_outcome output (renumbered_picture r o) (renumbered_result r x) ≡ renumbered_outcome r (closed_outcome output o x)
outcome-same output r o (Ok h) =
    let h' = renumbered_history r h in
    ap₂ (λ hd b. outcome_of (pictures (output_at_closing output hd b h')) (running h' None) 0) (header-same r o) (history-same r o)
    ∙ ap (λ es. outcome_of es (running h' None) 0) (shown-same r _ _ (output_at_closing-same output r (first_header o) (history_of o) h))
outcome-same output r o (Err found) =
    ap (λ b. failed_at output b (r found.0) found.1 0) (history-same r o)
    ∙ failed-same output r (history_of o) found.0 found.1 0

pub closed_picture-same : (output : Output) (r : ℕ → ℕ) (o : OpenPicture)
    → closed_picture output (renumbered_picture r o) ≡ renumbered_outcome r (closed_picture output o)
closed_picture-same output r o = ap (closed_outcome output (renumbered_picture r o)) (result-same r o) ∙ outcome-same output r o (closing_result o)

-- ---- a slice more

slice_outcome-same : (output : Output) (r : ℕ → ℕ) (f : Option (ℕ × Fault)) (before : History) (o : OpenPicture) (now : History) (read : ℕ)
    → slice_outcome output (option_map (renumbered_fault r) f) (renumbered_history r before) (renumbered_picture r o) (renumbered_history r now) read
    ≡ renumbered_outcome r (slice_outcome output f before o now read)
slice_outcome-same output r (Some found) before o now read = failed-same output r before found.0 found.1 read
slice_outcome-same output r None before o now read =
    let o' = renumbered_picture r o in
    ap (λ es. outcome_of es (running o'.before (Some o')) read) (shown-same r _ _ (output_pictures-same output r before now))

with_slice-same : (output : Output) (r : ℕ → ℕ) (before : History) (already : ℕ) (o : OpenPicture)
    → with_slice output (renumbered_history r before) already (renumbered_picture r o) ≡ renumbered_outcome r (with_slice output before already o)
with_slice-same output r before already o =
    let o' = renumbered_picture r o in
    let before' = renumbered_history r before in
    let fault = option_map (renumbered_fault r) (first_fault o false) in
    ap (λ f. slice_outcome output f before' o' (history_of o') (read_of o' - already)) (first_fault-same r o false)
    ∙ ap (λ h. slice_outcome output fault before' o' h (read_of o' - already)) (history-same r o)
    ∙ ap (λ n. slice_outcome output fault before' o' (renumbered_history r (history_of o)) (n - already)) (read-same r o)
    ∙ slice_outcome-same output r (first_fault o false) before o (history_of o) (read_of o - already)

first_slice-same : (output : Output) (r : ℕ → ℕ) (named : Option (Pps × Sps)) (before : History) (s : Slice)
    → after_first_slice output named (renumbered_history r before) (renumbered_slice r s)
    ≡ renumbered_outcome r (after_first_slice output named before s)
first_slice-same output r None before s = refl
first_slice-same output r (Some named) before s =
    with_slice-same output r before 0 (record { before = before; sps = named.1; pps = named.0; last = s; earlier = [] })

next_slice-same : (output : Output) (r : ℕ → ℕ) (p : Phase) (s : Slice)
    → after_next_slice output (renumbered_phase r p) (renumbered_slice r s) ≡ renumbered_outcome r (after_next_slice output p s)
next_slice-same output r (running h (Some o)) s =
    let more : OpenPicture = record o { last = s; earlier = o.last ∷ o.earlier } in
    ap₂ (λ b n. with_slice output b n (renumbered_picture r more)) (history-same r o) (read-same r o)
    ∙ with_slice-same output r (history_of o) (read_of o) more
next_slice-same output r (running h None) s = refl
next_slice-same output r waiting s = refl

-- ---- a unit

waiting-same : (r : ℕ → ℕ) (p : Phase) → is_waiting (renumbered_phase r p) ≡ is_waiting p
waiting-same r waiting = refl
waiting-same r (running h o) = refl

pub running-same : (r : ℕ → ℕ) (p : Phase) → is_running (renumbered_phase r p) ≡ is_running p
running-same r waiting = refl
running-same r (running h o) = refl

pub open_facts-same : (r : ℕ → ℕ) (p : Phase) → open_facts_in (renumbered_phase r p) ≡ open_facts_in p
open_facts-same r waiting = refl
open_facts-same r (running h None) = refl
open_facts-same r (running h (Some o)) = ap (λ facts. Some facts) (facts-same r o)

base-same : (r : ℕ → ℕ) (p : Phase) → base_in (renumbered_phase r p) ≡ renumbered_history r (base_in p)
base-same r waiting = refl
base-same r (running h o) = refl

history_in-same : (r : ℕ → ℕ) (p : Phase) → history_in (renumbered_phase r p) ≡ renumbered_history r (history_in p)
history_in-same r waiting = refl
history_in-same r (running h None) = refl
history_in-same r (running h (Some o)) = history-same r o

next-same : (output : Output) (r : ℕ → ℕ) (sets : Sets) (unit : ℕ) (p : Phase) (n : Next)
    → after_next output sets (r unit) (renumbered_phase r p) (renumbered_next r n) ≡ renumbered_outcome r (after_next output sets unit p n)
next-same output r sets unit p (FaultOfOpen f) = ap (λ h. failed_at output h (r unit) f 0) (history_in-same r p) ∙ failed-same output r (history_in p) unit f 0
next-same output r sets unit p (FaultOfOwn f) = ap (λ h. failed_at output h (r unit) f 0) (history_in-same r p) ∙ failed-same output r (history_in p) unit f 0
next-same output r sets unit p (Begins s) =
    let named = sets_named sets s.header in
    ap (λ h. after_first_slice output named h (renumbered_slice r s)) (base-same r p) ∙ first_slice-same output r named (base_in p) s
next-same output r sets unit p (Continues s) = next_slice-same output r p s
next-same output r sets unit p _ = refl

followed-same : (r : ℕ → ℕ) (a b : Outcome)
    → followed_by (renumbered_outcome r a) (renumbered_outcome r b) ≡ renumbered_outcome r (followed_by a b)
followed-same r a b =
    ap (λ es. outcome_of es (renumbered_phase r b.phase) (a.read + b.read)) (sym (map-append (renumbered_event r) a.events b.events))

after_closing-same : (output : Output) (r : ℕ → ℕ) (sets : Sets) (unit : ℕ) (what : Step) (x : Outcome)
    → after_closing output sets (r unit) (renumbered_step r what) (renumbered_outcome r x)
    ≡ renumbered_outcome r (after_closing output sets unit what x)
after_closing-same output r sets unit what x =
    let x' = renumbered_outcome r x in
    ap (λ b. unless_silent (b && not what.even_after_fault) x' (after_next output sets (r unit) x'.phase (renumbered_next r what.next)))
    (waiting-same r x.phase)
    ∙ either-same (renumbered_outcome r) (is_waiting x.phase && not what.even_after_fault) _ _ _ _ refl
    (ap (followed_by x') (next-same output r sets unit x.phase what.next) ∙ followed-same r x (after_next output sets unit x.phase what.next))

pub in_phase-same : (output : Output) (r : ℕ → ℕ) (sets : Sets) (unit : ℕ) (what : Step) (p : Phase)
    → in_phase output sets (r unit) (renumbered_step r what) (renumbered_phase r p) ≡ renumbered_outcome r (in_phase output sets unit what p)
in_phase-same output r sets unit what (running h (Some o)) =
    either-same (renumbered_outcome r) what.closes _ _ _ _
    (ap (after_closing output sets (r unit) (renumbered_step r what)) (closed_picture-same output r o)
    ∙ after_closing-same output r sets unit what (closed_picture output o))
    (next-same output r sets unit (running h (Some o)) what.next)
in_phase-same output r sets unit what (running h None) = next-same output r sets unit (running h None) what.next
in_phase-same output r sets unit what waiting = next-same output r sets unit waiting what.next

-- ---- the end

held-same : (output : Output) (r : ℕ → ℕ) (p : Phase) → held_after output (renumbered_phase r p) ≡ map (renumbered_event r) (held_after output p)
held-same output r waiting = refl
held-same output r (running h o) = shown_held-same output r h

and_held-same : (output : Output) (r : ℕ → ℕ) (x : Outcome)
    → events_and_held output (renumbered_outcome r x) ≡ map (renumbered_event r) (events_and_held output x)
and_held-same output r x =
    ap (λ es. map (renumbered_event r) x.events ++ es) (held-same output r x.phase)
    ∙ sym (map-append (renumbered_event r) x.events (held_after output x.phase))

pub at_end-same : (output : Output) (r : ℕ → ℕ) (p : Phase) → at_end output (renumbered_phase r p) ≡ map (renumbered_event r) (at_end output p)
at_end-same output r (running h (Some o)) = ap (events_and_held output) (closed_picture-same output r o) ∙ and_held-same output r (closed_picture output o)
at_end-same output r (running h None) = shown_held-same output r h
at_end-same output r waiting = refl

-- ---- an open IDR picture: it gives what it gives with no sequence before it, and when it is closed, or refused, what that sequence holds
-- goes out.

-- the same picture, where it came to this history
abbrev pub picture_on : (before : History) → OpenPicture → OpenPicture
picture_on before o = record o { before = before }

-- It is an IDR picture, of I slices alone, and lets the pictures before it go out.
pub record IsFirstPicture (o : OpenPicture) : Type 0 where
  pub idr : is_idr (first_header o) ≡ true
  pub intra : All IsISlice (slices_of o)
  pub last_idr : is_idr (o.last).header ≡ true
  pub keeps : no_output_of_prior_pics (first_header o).marking ≡ false

-- ---- it opens alike

abbrev none_counted : Result Counts Fault → Result History Fault
none_counted counts = counts >>= λ c. Ok []

abbrev opened_on : Result Counts Fault → History → Result History Fault
opened_on counts before = none_counted counts >>= λ none. Ok before

abbrev counts_of : OpenPicture → Result Counts Fault
counts_of o = order_counts o.sps (first_header o) (pasts [])

opens_first : (before : History) (o : OpenPicture) → IsFirstPicture o → history_at_opening_of (picture_on before o) ≡ opened_on (counts_of o) before
opens_first before o first = opened_idr o.sps (first_header o) before first.idr

history_before : (before : History) (address : ℕ) (counts : Result Counts Fault) → history_by address (opened_on counts before) before ≡ before
history_before before zero (Ok c) = refl
history_before before _ counts = refl

-- it stands on that history
pub stands_before : (before : History) (o : OpenPicture) → IsFirstPicture o → history_of (picture_on before o) ≡ before
stands_before before o first =
    ap (λ r. history_by (first_header o).first_mb_in_slice r before) (opens_first before o first)
    ∙ history_before before (first_header o).first_mb_in_slice (counts_of o)

-- ---- its slices and its end are the same

progress_same : (before : History) (o : OpenPicture) → IsFirstPicture o → progress_on (picture_on before o) before ≡ progress_on (picture_on [] o) []
progress_same before o first = progress-other (start_on o before) (stored_frames []) (slices_of o) first.intra

earlier_none : (h : Header) (before : History) → is_idr h ≡ true → earlier_in_sequence h before ≡ []
earlier_none h before idr = ap (λ (b : Bool). elim b as (λ _. History) [ true ↦ [] | false ↦ before ]) idr

abbrev closed_behind : Sps → Header → (unit : ℕ) → Planes → (earlier : History) → Result History Fault
closed_behind sps h unit planes earlier =
    let full = decoded_picture sps h (info_of sps h unit earlier) planes ∷ earlier in
    marks_of full >>= λ m. Ok full

closed_same : (before : History) (o : OpenPicture) → IsFirstPicture o
    → closed_history (picture_on before o) before ≡ closed_history (picture_on [] o) []
closed_same before o first =
    let h = first_header o in
    let unit = (first_slice o).unit in
    ap (λ planes. history_after_closing o.sps h unit planes before) (planes-other (start_on o before) (stored_frames []) (slices_of o) first.intra)
    ∙ ap (closed_behind o.sps h unit (picture_planes o [])) (earlier_none h before first.idr ∙ sym (earlier_none h [] first.idr))

-- ---- its first fault

fault_same : (before : History) (address unit : ℕ) (counts : Result Counts Fault) (a b : History → Option (ℕ × Fault)) → a before ≡ b []
    → fault_by address unit (opened_on counts before) a ≡ fault_by address unit (opened_on counts []) b
fault_same before zero unit (Ok c) a b e = e
fault_same before _ unit counts a b e = refl

-- by how far it is decoded, and by what closing gives
abbrev fault_by_parts : OpenPicture → (closing : Bool) → Progress → Result History Fault → Option (ℕ × Fault)
fault_by_parts o closing g closed = then_closing g.fault closing (by_full (length g.mbs == size_in_mbs o.sps) (o.last).unit closed)

abbrev later_fault : OpenPicture → (closing : Bool) → History → Option (ℕ × Fault)
later_fault o closing h = fault_by_parts o closing (progress_on o h) (closed_history o h)

first_fault_same : (before : History) (o : OpenPicture) (closing : Bool) → IsFirstPicture o
    → first_fault (picture_on before o) closing ≡ first_fault (picture_on [] o) closing
first_fault_same before o closing first =
    let address = (first_header o).first_mb_in_slice in
    let unit = (first_slice o).unit in
    let a = later_fault (picture_on before o) closing in
    let b = later_fault (picture_on [] o) closing in
    ap (λ r. fault_by address unit r a) (opens_first before o first)
    ∙ fault_same before address unit (counts_of o) a b
    (ap₂ (fault_by_parts o closing) (progress_same before o first) (closed_same before o first))
    ∙ sym (ap (λ r. fault_by address unit r b) (opens_first [] o first))

result_same : (before : History) (o : OpenPicture) → IsFirstPicture o → closing_result (picture_on before o) ≡ closing_result (picture_on [] o)
result_same before o first =
    ap₂ (λ f c. unless_found f (at_last_slice o c)) (first_fault_same before o true first)
    (ap (closed_history (picture_on before o)) (stands_before before o first)
    ∙ closed_same before o first
    ∙ sym (ap (closed_history (picture_on [] o)) (stands_before [] o first)))

-- what the next unit asks of it
pub facts_first : (before : History) (o : OpenPicture) → IsFirstPicture o → open_picture_facts (picture_on before o) ≡ open_picture_facts (picture_on [] o)
facts_first before o first =
    let facts : Progress → _ = λ g. facts_by (o.last).header (length g.mbs == size_in_mbs o.sps) in
    ap (λ h. facts (progress_on (picture_on before o) h)) (stands_before before o first)
    ∙ ap facts (progress_same before o first)
    ∙ sym (ap (λ h. facts (progress_on (picture_on [] o) h)) (stands_before [] o first))

-- ---- what it gives

-- what the sequence before holds
abbrev pub due : Output → History → List Event
due output before = pictures (held_pictures output before)

-- These events go out first, and all else is the same.
pub record Gives (front : List Event) (x' x : Outcome) : Type 0 where
  pub events : x'.events ≡ front ++ x.events
  pub phase : x'.phase ≡ x.phase

-- The picture is still open, or it is not, and what the sequence before held has gone out.
pub data Owed (output : Output) (before : History) (x' x : Outcome) : Type 0 where
  Still : (o : OpenPicture) → IsFirstPicture o → x'.events ≡ [] → x.events ≡ []
      → x'.phase ≡ running before (Some (picture_on before o)) → x.phase ≡ running [] (Some (picture_on [] o)) → Owed output before x' x
  Paid : Gives (due output before) x' x → Owed output before x' x

gives_fault : (output : Output) (before : History) (o : OpenPicture) → IsFirstPicture o → (unit : ℕ) (f : Fault)
    → Gives (due output before) (failed_at output (history_of (picture_on before o)) unit f 0) (failed_at output (history_of (picture_on [] o)) unit f 0)
gives_fault output before o first unit f = rw (stands_before before o first, stands_before [] o first) (record { events = refl; phase = refl })

-- What is held goes out where an IDR picture lets it.
closed_out : (output : Output) (before full : History) (idr drops : Bool) → idr ≡ true → drops ≡ false
    → let out : History → List Event = λ h.
    pictures ((elim idr [ true ↦ (if drops then [] else held_pictures output h) | false ↦ [] ])
    ++ output_pictures output (elim idr [ true ↦ [] | false ↦ h ]) full) in
    out before ≡ due output before ++ out []
closed_out output before full true false e f = map-append (λ p. Picture p) (held_pictures output before) (output_pictures output [] full)
closed_out output before full _ _ e f = cc (e, f)

closed_by : (output : Output) (before : History) (o : OpenPicture) → IsFirstPicture o → (r : Result History (ℕ × Fault))
    → Gives (due output before) (closed_outcome output (picture_on before o) r) (closed_outcome output (picture_on [] o) r)
closed_by output before o first (Err found) = gives_fault output before o first found.0 found.1
closed_by output before o first (Ok full) =
    let h = first_header o in
    let out : History → List Event = λ base. pictures (output_at_closing output h base full) in
    record {
      events =
          ap out (stands_before before o first)
          ∙ closed_out output before full (is_idr h) (no_output_of_prior_pics h.marking) first.idr first.keeps
          ∙ ap (λ es. due output before ++ es) (sym (ap out (stands_before [] o first)));
      phase = refl;
    }

pub closed_first : (output : Output) (before : History) (o : OpenPicture) → IsFirstPicture o
    → Gives (due output before) (closed_picture output (picture_on before o)) (closed_picture output (picture_on [] o))
closed_first output before o first =
    subst (λ r. Gives (due output before) (closed_outcome output (picture_on before o) r) (closed_picture output (picture_on [] o)))
    (sym (result_same before o first))
    (closed_by output before o first (closing_result (picture_on [] o)))

-- ---- a slice more

slice_by : (output : Output) (before : History) (o : OpenPicture) → IsFirstPicture o → (f : Option (ℕ × Fault)) (read' read : ℕ)
    → Owed output before
    (slice_outcome output f before (picture_on before o) before read') (slice_outcome output f [] (picture_on [] o) [] read)
slice_by output before o first (Some found) read' read = Paid (record { events = refl; phase = refl })
slice_by output before o first None read' read =
    Still o first (ap pictures (sym (nothing_goes_out output before))) (ap pictures (sym (nothing_goes_out output []))) refl refl

-- with a slice, where the histories before it are these
pub slice_first : (output : Output) (before : History) (o : OpenPicture) → IsFirstPicture o
    → (base' base : History) (already' already : ℕ) → base' ≡ before → base ≡ []
    → Owed output before (with_slice output base' already' (picture_on before o)) (with_slice output base already (picture_on [] o))
slice_first output before o first base' base already' already is' is =
    let o' = picture_on before o in
    let alone = picture_on [] o in
    let fault = first_fault alone false in
    let read' = read_of o' - already' in
    let read = read_of alone - already in
    subst (λ x'. Owed output before x' (with_slice output base already alone))
    (sym (ap (λ f. slice_outcome output f base' o' (history_of o') read') (first_fault_same before o false first)
    ∙ ap₂ (λ b now. slice_outcome output fault b o' now read') is' (stands_before before o first)))
    (subst (λ x. Owed output before (slice_outcome output fault before o' before read') x)
    (sym (ap₂ (λ b now. slice_outcome output fault b alone now read) is (stands_before [] o first)))
    (slice_by output before o first fault read' read))

-- ---- a unit

-- what a step says without closing the picture: it begins no other, and a slice is one of an IDR picture too
abbrev pub StaysInPicture : Next → Type 0
StaysInPicture (Begins s) = ⊥
StaysInPicture (Continues s) = (is_p s.header ≡ false) × (is_idr s.header ≡ true)
StaysInPicture _ = Prim.Unit {0}

abbrev pub KeepsPicture : (closes : Bool) → Next → Type 0
KeepsPicture true n = Prim.Unit {0}
KeepsPicture false n = StaysInPicture n

with_more : (o : OpenPicture) (s : Slice) → IsFirstPicture o → is_p s.header ≡ false → is_idr s.header ≡ true
    → IsFirstPicture (record o { last = s; earlier = o.last ∷ o.earlier })
with_more o s first intra idr = record {
  idr = first.idr;
  intra = All-cons IsISlice s (slices_of o) intra first.intra;
  last_idr = idr;
  keeps = first.keeps;
}

next_first : (output : Output) (before : History) (o : OpenPicture) → IsFirstPicture o → (sets : Sets) (unit : ℕ) (n : Next) → StaysInPicture n
    → IsTrue (list_all is_picture (after_next output sets unit (running before (Some (picture_on before o))) n).events)
    → Owed output before
    (after_next output sets unit (running before (Some (picture_on before o))) n)
    (after_next output sets unit (running [] (Some (picture_on [] o))) n)
next_first output before o first sets unit Nothing stays shown = Still o first refl refl refl refl
next_first output before o first sets unit (Refusal f) stays shown = cc
next_first output before o first sets unit (FaultOfOpen f) stays shown = Paid (gives_fault output before o first unit f)
next_first output before o first sets unit (FaultOfOwn f) stays shown = Paid (gives_fault output before o first unit f)
next_first output before o first sets unit (Begins s) stays shown = absurd stays
next_first output before o first sets unit (Continues s) stays shown =
    slice_first output before (record o { last = s; earlier = o.last ∷ o.earlier }) (with_more o s first stays.0 stays.1)
    (history_of (picture_on before o)) (history_of (picture_on [] o)) (read_of (picture_on before o)) (read_of (picture_on [] o))
    (stands_before before o first) (stands_before [] o first)

-- what the step says once the picture is closed
pub after_closing_first : (output : Output) (front : List Event) (sets : Sets) (unit : ℕ) (what : Step) (x' x : Outcome) → Gives front x' x
    → Gives front (after_closing output sets unit what x') (after_closing output sets unit what x)
after_closing_first output front sets unit what x' x g =
    subst (λ q. Gives front (unless_silent (silent q) x' (after_next output sets unit q what.next)) (after_closing output sets unit what x))
    (sym g.phase) (by_silent (silent x.phase))
  where
    silent : Phase → Bool
    silent q = is_waiting q && not what.even_after_fault

    by_silent : (b : Bool) → let next = after_next output sets unit x.phase what.next in Gives front (unless_silent b x' next) (unless_silent b x next)
    by_silent true = g
    by_silent false = record {
      events =
          ap (λ es. es ++ (after_next output sets unit x.phase what.next).events) g.events
          ∙ append_assoc front x.events (after_next output sets unit x.phase what.next).events;
      phase = refl;
    }

by_closes : (output : Output) (before : History) (closes : Bool) (next : Next) (a' a b' b : Outcome) → KeepsPicture closes next
    → IsTrue (list_all is_picture (chosen closes a' b').events)
    → Gives (due output before) a' a
    → (StaysInPicture next → IsTrue (list_all is_picture b'.events) → Owed output before b' b)
    → Owed output before (chosen closes a' b') (chosen closes a b)
by_closes output before true next a' a b' b keeps shown paid stays = Paid paid
by_closes output before false next a' a b' b keeps shown paid stays = stays keeps shown

pub in_first : (output : Output) (before : History) (o : OpenPicture) → IsFirstPicture o → (sets : Sets) (unit : ℕ) (what : Step)
    → KeepsPicture what.closes what.next
    → IsTrue (list_all is_picture (in_phase output sets unit what (running before (Some (picture_on before o)))).events)
    → Owed output before
    (in_phase output sets unit what (running before (Some (picture_on before o))))
    (in_phase output sets unit what (running [] (Some (picture_on [] o))))
in_first output before o first sets unit what keeps shown =
    by_closes output before what.closes what.next _ _ _ _ keeps shown
    (after_closing_first output (due output before) sets unit what _ _ (closed_first output before o first))
    (λ stays shows. next_first output before o first sets unit what.next stays shows)

-- ---- a unit with which decoding could start, while it runs: what is held goes out, and then decoding goes on as from a new start: events that are pictures

abbrev AllPictures : List Event → Type 0
AllPictures es = IsTrue (list_all is_picture es)

front_shown : (a b : List Event) → AllPictures (a ++ b) → AllPictures a
front_shown a b e = first_so (list_all is_picture a) (list_all is_picture b) (sym (list_all-append is_picture a b) ∙ e)

back_shown : (a b : List Event) → AllPictures (a ++ b) → AllPictures b
back_shown a b e = second_so (list_all is_picture a) (list_all is_picture b) (sym (list_all-append is_picture a b) ∙ e)

not_refused : (es : List Event) (unit : ℕ) (f : Fault) → AllPictures (es ++ Refused unit f ∷ []) → false ≡ true
not_refused es unit f e = back_shown es (Refused unit f ∷ []) e

-- ---- what a unit says while an IDR picture is open

keeps_by : (sets : Sets) (u : Piece) (facts : OpenPictureFacts) → is_idr facts.last ≡ true → (closes : Bool) (n : Next)
    → BringsNext (slice_in sets u) (Some facts) closes n → KeepsPicture closes n
keeps_by sets u facts idr true n b = tt
keeps_by sets u facts idr false (Begins s) b = cc b.0
keeps_by sets u facts idr false (Continues s) b =
    let continues = idr_continues facts.last s.header idr b.1 in
    ((rules_in sets u s b.2).intra continues, continues)
keeps_by sets u facts idr false _ b = tt

step_keeps : (sets : Sets) (facts : OpenPictureFacts) (u : Piece) → is_idr facts.last ≡ true
    → let what = step sets true (Some facts) u in KeepsPicture what.closes what.next
step_keeps sets facts u idr =
    keeps_by sets u facts idr _ _ (brings_step sets true (Some facts) u (λ e. absurd (false≢true (sym e)))).brings

-- ---- from the IDR picture on

-- the open picture, where it came to this history
abbrev open_on : (before : History) → OpenPicture → Phase
open_on before o = running before (Some (picture_on before o))

-- From an open IDR picture on the events are those without the sequence before it, behind what that held.
abbrev OpenGives : Output → (before : History) → List Piece → Type 0
OpenGives output before us =
    (units : List SetUnit) (o : OpenPicture) → IsFirstPicture o → AllPictures (events_from (state_of output units (open_on before o)) us true)
    → events_from (state_of output units (open_on before o)) us true
    ≡ due output before ++ events_from (state_of output units (open_on [] o)) us true

owed_gives : (output : Output) (before : History) (us : List Piece) → OpenGives output before us
    → (units : List SetUnit) (x' x : Outcome)
    → Owed output before x' x → AllPictures (x'.events ++ events_from (state_of output units x'.phase) us true)
    → x'.events ++ events_from (state_of output units x'.phase) us true
    ≡ due output before ++ (x.events ++ events_from (state_of output units x.phase) us true)
owed_gives output before us gives units x' x (Still o first none' none is' is) shown =
    let from : Phase → List Event = λ p. events_from (state_of output units p) us true in
    let shown_open : AllPictures (from (open_on before o)) = subst (λ p. AllPictures (from p)) is' (back_shown x'.events (from x'.phase) shown) in
    ap₂ (λ es p. es ++ from p) none' is'
    ∙ gives units o first shown_open
    ∙ sym (ap₂ (λ es p. due output before ++ (es ++ from p)) none is)
owed_gives output before us gives units x' x (Paid paid) shown =
    let from : Phase → List Event = λ p. events_from (state_of output units p) us true in
    ap₂ (λ es p. es ++ from p) paid.events paid.phase ∙ append_assoc (due output before) x.events (from x.phase)

unit_owed : (output : Output) (before : History) (units : List SetUnit) (o : OpenPicture) (u : Piece)
    → IsFirstPicture o → AllPictures (after_unit (state_of output units (open_on before o)) u).events
    → Owed output before (after_unit (state_of output units (open_on before o)) u) (after_unit (state_of output units (open_on [] o)) u)
unit_owed output before units o u first =
    let sets = sets_after units in
    let by_facts : OpenPictureFacts → Outcome = λ f. in_phase output sets u.index (step sets true (Some f) u) (open_on before o) in
    let x = after_unit (state_of output units (open_on [] o)) u in
    subst (λ f. AllPictures (by_facts f).events → Owed output before (by_facts f) x) (sym (facts_first before o first))
    (in_first output before o first sets u.index (step sets true (Some (open_picture_facts (picture_on [] o))) u)
    (step_keeps sets (open_picture_facts (picture_on [] o)) u first.last_idr))

end_gives : (output : Output) (front : List Event) (x' x : Outcome) → Gives front x' x
    → events_and_held output x' ≡ front ++ events_and_held output x
end_gives output front x' x g = ap₂ (λ es p. es ++ held_after output p) g.events g.phase ∙ append_assoc front x.events (held_after output x.phase)

open_gives : (output : Output) (before : History) (us : List Piece) → OpenGives output before us
open_gives output before [] units o first shown = end_gives output (due output before) _ _ (closed_first output before o first)
open_gives output before (u ∷ us) units o first shown =
    let x' = after_unit (state_of output units (open_on before o)) u in
    let x = after_unit (state_of output units (open_on [] o)) u in
    let after = units ++ set_units (u ∷ []) in
    owed_gives output before us (open_gives output before us) after x' x
    (unit_owed output before units o u first (front_shown x'.events (events_from (state_of output after x'.phase) us true) shown))
    shown

-- ---- the unit itself

-- what it says, while no picture is open or none is known of
pub record Says (sets : Sets) (u : Piece) : Type 0 where
  pub runs : (o : Option OpenPictureFacts) → step sets true o u ≡ slice_step o true (slice_in sets u)
  pub waits : step sets false None u ≡ slice_step None true (slice_in sets u)

pub says : (sets : Sets) (u : Piece) → is_start u ≡ true → Says sets u
says sets u e =
    let s = starts u e in
    let kind_is : kind u ≡ slice true = ap kind_of s.of_idr in
    record { runs = λ o. cc (s.allowed, kind_is, e); waits = cc (s.allowed, kind_is, e) }

-- what is known of its slice
record IsBeginning (sets : Sets) (s : Slice) : Type 0 where
  named : is_some (sets_named sets s.header) ≡ true
  address : (s.header).first_mb_in_slice ≡ 0
  idr : is_idr s.header ≡ true
  intra : KeepsIdrRules s.header
  keeps : no_output_of_prior_pics (s.header).marking ≡ false

-- it lets the pictures before go out
abbrev LetsOut : Sets → Piece → Type 0
LetsOut sets u = (s : Slice) → slice_in sets u ≡ Ok s → no_output_of_prior_pics (s.header).marking ≡ false

beginning : (sets : Sets) (u : Piece) → is_start u ≡ true → LetsOut sets u → (s : Slice) → slice_in sets u ≡ Ok s
    → IsBeginning sets s
beginning sets u e lets s read =
    let unit_starts = starts u e in
    let of_unit = slice_of_unit sets u s read in
    let is = of_unit.2 in
    record {
      named = is.named;
      address = is.address (unit_starts.reads of_unit.0 of_unit.1);
      idr = is.of_idr (ap (λ t. t == 5) unit_starts.of_idr);
      intra = is.rules;
      keeps = lets s read;
    }

first_owed : (output : Output) (h : History) (sets : Sets) (s : Slice) → IsBeginning sets s
    → Owed output h (after_first_slice output (sets_named sets s.header) h s) (after_first_slice output (sets_named sets s.header) [] s)
first_owed output h sets s is = by_named (sets_named sets s.header) is.named
  where
    by_named : (named : Option (Pps × Sps)) → is_some named ≡ true
        → Owed output h (after_first_slice output named h s) (after_first_slice output named [] s)
    by_named None e = cc
    by_named (Some named) e =
        slice_first output h (record { before = []; sps = named.1; pps = named.0; last = s; earlier = [] })
        (record {
          idr = is.idr;
          intra = All-cons IsISlice s [] ((is.intra).intra is.idr) (All-nil IsISlice);
          last_idr = is.idr;
          keeps = is.keeps;
        })
        h [] 0 0 refl refl

-- ---- no picture is open

-- an outcome after so many units, and then the others
abbrev and_others : Output → List SetUnit → List Piece → Outcome → List Event
and_others output units us x = x.events ++ events_from (state_of output units x.phase) us true

-- that slice where decoding waits
abbrev begun : Output → Sets → (unit : ℕ) → Slice → Outcome
begun output sets unit s = after_next output sets unit waiting (Begins s)

closed_begins : (output : Output) (sets : Sets) (unit : ℕ) (units : List SetUnit) (us : List Piece) (s : Slice)
    → IsBeginning sets s → (h : History) → AllPictures (and_others output units us (after_next output sets unit (running h None) (Begins s)))
    → and_others output units us (after_next output sets unit (running h None) (Begins s))
    ≡ due output h ++ and_others output units us (begun output sets unit s)
closed_begins output sets unit units us s is h shown =
    owed_gives output h us (open_gives output h us) units
    (after_first_slice output (sets_named sets s.header) h s) (after_first_slice output (sets_named sets s.header) [] s)
    (first_owed output h sets s is) shown

-- ---- where the open picture is closed first

-- the unit's slice begins a picture, whatever closing gave
abbrev begins_after : Output → Sets → (unit : ℕ) → Slice → Outcome → Outcome
begins_after output sets unit s closed =
    after_closing output sets unit (record { closes = true; next = Begins s; even_after_fault = true }) closed

closed_gives : (output : Output) (sets : Sets) (unit : ℕ) (units : List SetUnit) (us : List Piece) (s : Slice)
    → IsBeginning sets s → (o : OpenPicture) (r : Result History (ℕ × Fault))
    → let x = begins_after output sets unit s (closed_outcome output o r) in
    AllPictures (and_others output units us x)
    → and_others output units us x
    ≡ events_and_held output (closed_outcome output o r) ++ and_others output units us (begun output sets unit s)
closed_gives output sets unit units us s is o (Ok h) shown =
    let out = (closed_outcome output o (Ok h)).events in
    let x = after_next output sets unit (running h None) (Begins s) in
    let behind = append_assoc out x.events (events_from (state_of output units x.phase) us true) in
    let shown_behind = back_shown out (and_others output units us x) (subst AllPictures behind shown) in
    behind
    ∙ ap (λ es. out ++ es) (closed_begins output sets unit units us s is h shown_behind)
    ∙ sym (append_assoc out (due output h) (and_others output units us (begun output sets unit s)))
closed_gives output sets unit units us s is o (Err found) shown =
    let out = (closed_outcome output o (Err found)).events in
    let x = begun output sets unit s in
    append_assoc out x.events (events_from (state_of output units x.phase) us true)
    ∙ ap (λ es. es ++ and_others output units us x) (sym (append-nil out))

-- ---- one state

-- that of one state
abbrev StartsAnewIn : Output → List SetUnit → Piece → List Piece → Phase → Type 0
StartsAnewIn output units u us p =
    AllPictures (events_from (state_of output units p) (u ∷ us) true)
    → events_from (state_of output units p) (u ∷ us) true ≡ at_end output p ++ events_from (state_of output units waiting) (u ∷ us) true

-- by what the unit does
abbrev by_step : Output → List SetUnit → Piece → List Piece → Phase → Step → List Event
by_step output units u us p what =
    and_others output (units ++ set_units (u ∷ [])) us (in_phase output (sets_after units) u.index what p)

abbrev GivesIn : Output → List SetUnit → Piece → List Piece → Phase → (what here : Step) → Type 0
GivesIn output units u us p what here =
    AllPictures (by_step output units u us p what) → by_step output units u us p what ≡ at_end output p ++ by_step output units u us waiting here

-- a slice that cannot be read is refused
abbrev refused_by : (output : Output) → (sets : Sets) (unit : ℕ) → History → OpenPicture → Step → Type 0
refused_by output sets unit h o what = AllPictures (in_phase output sets unit what (running h (Some o))).events → false ≡ true

abbrev unreadable_by : Fault → (full : Bool) → Step
unreadable_by f full =
    elim full [
      | true ↦ record { closes = true; next = FaultOfOwn f; even_after_fault = false }
      | false ↦ record { closes = false; next = FaultOfOpen f; even_after_fault = false }
    ]

unreadable_refused : (output : Output) (sets : Sets) (unit : ℕ) (h : History) (o : OpenPicture) (f : Fault) (full : Bool)
    → refused_by output sets unit h o (unreadable_by f full)
unreadable_refused output sets unit h o f true shown = by_closed (closing_result o) shown
  where
    by_closed : (r : Result History (ℕ × Fault))
        → AllPictures (after_closing output sets unit (unreadable_by f true) (closed_outcome output o r)).events → false ≡ true
    by_closed (Ok full) shown =
        let out = (closed_outcome output o (Ok full)).events in
        not_refused (due output full) unit f (back_shown out (due output full ++ Refused unit f ∷ []) shown)
    by_closed (Err found) shown = not_refused (due output (history_of o)) found.0 found.1 shown
unreadable_refused output sets unit h o f false shown = not_refused (due output (history_of o)) unit f shown

gives : (output : Output) (units : List SetUnit) (u : Piece) (us : List Piece) (h : History) (o : Option OpenPicture)
    → (read : Result Slice Fault) → ((s : Slice) → read ≡ Ok s → IsBeginning (sets_after units) s)
    → GivesIn output units u us (running h o) (slice_step (open_facts_in (running h o)) true read) (slice_step None true read)
gives output units u us h None (Ok s) is shown =
    closed_begins output (sets_after units) u.index (units ++ set_units (u ∷ [])) us s (is s refl) h shown
gives output units u us h None (Err f) is shown =
    let after = units ++ set_units (u ∷ []) in
    owed_gives output h us (open_gives output h us) after (failed_at output h u.index f 0) (failed_at output [] u.index f 0)
    (Paid (record { events = refl; phase = refl })) shown
gives output units u us h (Some o) (Ok s) is shown =
    let begun_by : Bool → Step = λ b. elim b [
      | true ↦ record { closes = true; next = Begins s; even_after_fault = true }
      | false ↦ record { closes = false; next = Continues s; even_after_fault = false }
    ] in
    subst (λ b. GivesIn output units u us (running h (Some o)) (begun_by b) (slice_step None true (Ok s)))
    (sym (begins_at_zero (o.last).header s.header (is s refl).address))
    (closed_gives output (sets_after units) u.index (units ++ set_units (u ∷ [])) us s (is s refl) o (closing_result o)) shown
gives output units u us h (Some o) (Err f) is shown =
    let sets = sets_after units in
    let full = (open_picture_facts o).full in
    let x = in_phase output sets u.index (unreadable_by f full) (running h (Some o)) in
    let after = units ++ set_units (u ∷ []) in
    let no : false ≡ true =
    unreadable_refused output sets u.index h o f full (front_shown x.events (events_from (state_of output after x.phase) us true) shown) in
    (cc no)

starts_in : (output : Output) (units : List SetUnit) (u : Piece) (us : List Piece) → is_start u ≡ true
    → (p : Phase) → (is_running p ≡ true → LetsOut (sets_after units) u) → StartsAnewIn output units u us p
starts_in output units u us e waiting lets = λ shown. refl
starts_in output units u us e (running h o) lets =
    let sets = sets_after units in
    let read = slice_in sets u in
    let facts = open_facts_in (running h o) in
    subst (λ what. GivesIn output units u us (running h o) what (step sets false None u)) (sym ((says sets u e).runs facts))
    (subst (λ here. GivesIn output units u us (running h o) (slice_step facts true read) here) (sym (says sets u e).waits)
    (gives output units u us h o read (beginning sets u e (lets refl))))

-- ---- the law

-- the pictures before go out where the flag is 0
flag_is : (m : Option Marking) → ((n l : Bool) → m ≡ Some (Idr n l) → n ≡ false) → no_output_of_prior_pics m ≡ false
flag_is None f = refl
flag_is (Some (Idr n l)) f = f n l refl
flag_is (Some SlidingWindow) f = refl
flag_is (Some (Adaptive operations)) f = refl

pub start_units : StartUnitsBeginAnew
start_units output before us u e prior shown =
    let first = first_state output in
    let s = state_through first before in
    let p = s.phase in
    let all = set_units before in
    let state_is : (q : Phase) → events_from (state_of s.output s.sets q) (u ∷ us) true ≡ events_from (state_of output all q) (u ∷ us) true = λ q.
    ap₂ (λ m units. events_from (state_of m units q) (u ∷ us) true) (output_through first before) (sets_through first before) in
    let lets : is_running p ≡ true → LetsOut (sets_after all) u = λ runs t read. flag_is (t.header).marking (λ n l. prior runs t n l read) in
    state_is p
    ∙ starts_in output all u us e p lets (subst AllPictures (state_is p) shown)
    ∙ ap (λ m. at_end m p ++ events_from (state_of output all waiting) (u ∷ us) true) (sym (output_through first before))
    ∙ ap (λ es. at_end s.output p ++ es) (sym (state_is waiting))

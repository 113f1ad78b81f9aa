-- Histories whose pictures have units with other numbers: for order counts, marking and output they are the same, and what goes out of
-- them is the same but for these numbers.
use Rattle.std.proofs.Common.{ap, sym, ◌∙◌, ap₂}
use Rattle.std.proofs.lemmas.List.{map-append, length-map}
use Rattle.std.proofs.lemmas.Option.{slice_get-map}
use Rattle.std.specs.Prelude.{◌≡◌, refl, ℕ, zero, suc, ◌-◌, Bool, true, false, if◌then◌else◌, List, [], ◌∷◌, ◌++◌, length, map, drop}
use Rattle.std.specs.Prelude.{Option, Some, None, Result, Ok, Err, slice_get}
use Rattle.std.specs.Option.{option_map}
use Rattle.avc_types.specs.References.{Reference}
use Rattle.avc_types.specs.Results.{◌>>=◌}
use Rattle.avc_types.specs.declared.fault.Fault.{Fault}
use Rattle.avc_types.specs.declared.fault.Fault.TheVariants as faults
use Rattle.avc_types.specs.declared.picture.Picture.{Picture as Decoded}
use Rattle.avc_types.specs.declared.picture_info.PictureInfo.{PictureInfo}
use Rattle.avc_plane.specs.Planes.{Planes}
use Rattle.avc_params.specs.declared.sps.Sps.{Sps}
use Rattle.avc_slice.specs.Header.{is_idr}
use Rattle.avc_slice.specs.declared.header.Header.{Header}
use Rattle.avc_poc.specs.OrderCounts.{Past, picture, missing, order_counts}
use Rattle.avc_marking.specs.Marks.{MarkingEntry, Marks, marks, prev_ref_frame_num, missing_frame_nums}
use Rattle.avc_dpb.specs.Bumping.{Buffer, buffer_after, needed_in_output_order}
use Rattle.avc_dpb.specs.declared.output.Output.{Output}
use Rattle.avc_decoder_core.specs.History.{Entry, History, decoded_picture, missing_frame, pasts, marking_entry, marking_entries, marks_of, references_of}
use Rattle.avc_decoder_core.specs.History.{or_no_references, order_or_0, arrival, arrivals, buffer_of, new_output, all_held, entry_at, planes_in, stored}
use Rattle.avc_decoder_core.specs.History.{stored_frames, earlier_in_sequence, info_with, info_of, with_picture, sequence_sps, is_same_sps, with_missing}
use Rattle.avc_decoder_core.specs.History.{with_order_counts, history_at_opening, history_after_closing, picture_entry}
use Rattle.avc_decoder_core.specs.Pictures.{entry_pictures, pictures_at, output_pictures, held_pictures, no_output_of_prior_pics, prior_output}
use Rattle.avc_decoder_core.specs.Pictures.{output_at_closing}

-- ---- the same entries and pictures, but for the numbers of units

abbrev pub renumbered_info : (ℕ → ℕ) → PictureInfo → PictureInfo
renumbered_info r info = record info { unit = r info.unit }

abbrev pub renumbered_entry : (ℕ → ℕ) → Entry → Entry
renumbered_entry r (decoded_picture sps h info planes) = decoded_picture sps h (renumbered_info r info) planes
renumbered_entry r (missing_frame sps frame_num) = missing_frame sps frame_num

abbrev pub renumbered_history : (ℕ → ℕ) → History → History
renumbered_history r h = map (renumbered_entry r) h

abbrev pub renumbered_opening : (ℕ → ℕ) → Result History Fault → Result History Fault
renumbered_opening r (Ok h) = Ok (renumbered_history r h)
renumbered_opening r (Err f) = Err f

abbrev pub renumbered_decoded : (ℕ → ℕ) → Decoded → Decoded
renumbered_decoded r p = record p { info = renumbered_info r p.info }

-- ---- by a test, or by a fault, where it is the same in each case

pub either-same : {A : Type 0} (f : A → A) (b : Bool) (x' x y' y : A) → x' ≡ f x → y' ≡ f y
    → ◌≡◌ {A = A} (elim b [ true ↦ x' | false ↦ y' ]) (f (elim b [ true ↦ x | false ↦ y ]))
either-same f true x' x y' y e g = e
either-same f false x' x y' y e g = g

then-same : {A : Type 0} (r : ℕ → ℕ) (x : Result A Fault) (a' a : A → Result History Fault) → ((y : A) → a' y ≡ renumbered_opening r (a y))
    → (x >>= a') ≡ renumbered_opening r (x >>= a)
then-same r (Ok y) a' a e = e y
then-same r (Err f) a' a e = refl

-- ---- order counts and marking (8.2.1, 8.2.5)

pasts-same : (r : ℕ → ℕ) (h : History) → pasts (renumbered_history r h) ≡ pasts h
pasts-same r [] = refl
pasts-same r (decoded_picture sps h info planes ∷ older) = ap (λ ps. picture sps h ∷ ps) (pasts-same r older)
pasts-same r (missing_frame sps frame_num ∷ older) = ap (λ ps. missing sps frame_num ∷ ps) (pasts-same r older)

marking_entries-same : (r : ℕ → ℕ) (h : History) → marking_entries (renumbered_history r h) ≡ marking_entries h
marking_entries-same r [] = refl
marking_entries-same r (decoded_picture sps h info planes ∷ older) = ap (λ es. picture_entry sps h ∷ es) (marking_entries-same r older)
marking_entries-same r (missing_frame sps frame_num ∷ older) =
    ap (λ es. marking_entry (missing_frame sps frame_num) ∷ es) (marking_entries-same r older)

marks-same : (r : ℕ → ℕ) (h : History) → marks_of (renumbered_history r h) ≡ marks_of h
marks-same r h = ap marks (marking_entries-same r h)

references-same : (r : ℕ → ℕ) (h : History) → references_of (renumbered_history r h) ≡ references_of h
references-same r h = ap or_no_references (marks-same r h)

-- ---- output (C.4)

arrival-same : (r : ℕ → ℕ) (e : Entry) (older : History) → arrival (renumbered_entry r e) (renumbered_history r older) ≡ arrival e older
arrival-same r (decoded_picture sps h info planes) older =
    let e = decoded_picture sps h info planes in
    ap₂ (λ (ps : List Past) (rs : List Reference).
    record (arrival e older) { pic_order_cnt = order_or_0 (order_counts sps h ps); references = map (λ x. x.decoding_index) rs })
    (pasts-same r older) (references-same r (e ∷ older))
arrival-same r (missing_frame sps frame_num) older =
    let e = missing_frame sps frame_num in
    ap (λ (rs : List Reference). record (arrival e older) { references = map (λ x. x.decoding_index) rs }) (references-same r (e ∷ older))

arrivals-same : (r : ℕ → ℕ) (h : History) → arrivals (renumbered_history r h) ≡ arrivals h
arrivals-same r [] = refl
arrivals-same r (e ∷ older) = ap₂ (λ a others. a ∷ others) (arrival-same r e older) (arrivals-same r older)

buffer-same : (output : Output) (r : ℕ → ℕ) (h : History) → buffer_of output (renumbered_history r h) ≡ buffer_of output h
buffer-same output r h = ap (buffer_after output) (arrivals-same r h)

new_output-same : (output : Output) (r : ℕ → ℕ) (old new : History)
    → new_output output (renumbered_history r old) (renumbered_history r new) ≡ new_output output old new
new_output-same output r old new = ap₂ (λ (a b : Buffer). drop (length a.out) b.out) (buffer-same output r old) (buffer-same output r new)

all_held-same : (output : Output) (r : ℕ → ℕ) (h : History) → all_held output (renumbered_history r h) ≡ all_held output h
all_held-same output r h = ap (λ (b : Buffer). map (λ s. s.decoding_index) (needed_in_output_order b.frames)) (buffer-same output r h)

-- ---- entries by their decoding indices

entry_at-same : (r : ℕ → ℕ) (h : History) (index : ℕ) → entry_at (renumbered_history r h) index ≡ option_map (renumbered_entry r) (entry_at h index)
entry_at-same r h index = ap (λ n. by_place (n - index)) (length-map h (renumbered_entry r)) ∙ by_cases (length h - index)
  where
    by_place : ℕ → Option Entry
    by_place d = elim d [ zero ↦ None | suc n ↦ slice_get (renumbered_history r h) n ]

    by_cases : (d : ℕ) → by_place d ≡ option_map (renumbered_entry r) (elim d [ zero ↦ None | suc n ↦ slice_get h n ])
    by_cases zero = refl
    by_cases (suc n) = slice_get-map (renumbered_entry r) h n

planes_in-same : (r : ℕ → ℕ) (e : Option Entry) → planes_in (option_map (renumbered_entry r) e) ≡ planes_in e
planes_in-same r (Some (decoded_picture sps h info planes)) = refl
planes_in-same r (Some (missing_frame sps frame_num)) = refl
planes_in-same r None = refl

stored-same : (r : ℕ → ℕ) (h : History) (x : Reference) → stored (renumbered_history r h) x ≡ stored h x
stored-same r h x =
    ap (λ ps. record (stored h x) { planes = ps })
    (ap planes_in (entry_at-same r h x.decoding_index) ∙ planes_in-same r (entry_at h x.decoding_index))

all_stored-same : (r : ℕ → ℕ) (h : History) (xs : List Reference) → map (stored (renumbered_history r h)) xs ≡ map (stored h) xs
all_stored-same r h [] = refl
all_stored-same r h (x ∷ xs) = ap₂ (λ s others. s ∷ others) (stored-same r h x) (all_stored-same r h xs)

pub stored_frames-same : (r : ℕ → ℕ) (h : History) → stored_frames (renumbered_history r h) ≡ stored_frames h
stored_frames-same r h = ap (map (stored (renumbered_history r h))) (references-same r h) ∙ all_stored-same r h (references_of h)

-- ---- a picture that is opened (7.4.1.2.1, 7.4.3, 8.2.5.2)

sequence_sps-same : (r : ℕ → ℕ) (h : History) → sequence_sps (renumbered_history r h) ≡ sequence_sps h
sequence_sps-same r [] = refl
sequence_sps-same r (decoded_picture sps h info planes ∷ older) =
    ap (λ (set : Option Sps). elim (is_idr h) as (λ _. Option Sps) [ true ↦ Some sps | false ↦ set ]) (sequence_sps-same r older)
sequence_sps-same r (missing_frame sps frame_num ∷ older) = sequence_sps-same r older

with_missing-same : (r : ℕ → ℕ) (sps : Sps) (numbers : List ℕ) (h : History)
    → with_missing sps numbers (renumbered_history r h) ≡ renumbered_opening r (with_missing sps numbers h)
with_missing-same r sps [] h = refl
with_missing-same r sps (n ∷ numbers) h =
    let next = missing_frame sps n ∷ h in
    ap (λ (ms : Result Marks Fault). ms >>= λ m. with_missing sps numbers (renumbered_history r next)) (marks-same r next)
    ∙ then-same r (marks_of next) _ _ (λ m. with_missing-same r sps numbers next)

with_order_counts-same : (r : ℕ → ℕ) (sps : Sps) (hd : Header) (h : History)
    → with_order_counts sps hd (renumbered_history r h) ≡ renumbered_opening r (with_order_counts sps hd h)
with_order_counts-same r sps hd h =
    ap (λ (ps : List Past). order_counts sps hd ps >>= λ c. Ok (renumbered_history r h)) (pasts-same r h)
    ∙ then-same r (order_counts sps hd (pasts h)) _ _ (λ c. refl)

-- once the missing numbers are taken in
counted-same : (r : ℕ → ℕ) (sps : Sps) (hd : Header) (x : Result History Fault)
    → (renumbered_opening r x >>= λ full. with_order_counts sps hd full) ≡ renumbered_opening r (x >>= λ full. with_order_counts sps hd full)
counted-same r sps hd (Ok full) = with_order_counts-same r sps hd full
counted-same r sps hd (Err f) = refl

-- by the sequence's parameter set, and by what marking asks of its entries
abbrev opening_by : Sps → Header → History → Option Sps → List MarkingEntry → Result History Fault
opening_by sps hd h set entries = elim (is_same_sps set sps) [
  | false ↦ Err faults.ParameterSetChanged
  | true ↦ missing_frame_nums (prev_ref_frame_num entries) sps.gaps_in_frame_num_value_allowed_flag (picture_entry sps hd)
      >>= λ numbers. with_missing sps numbers h >>= λ full. with_order_counts sps hd full
]

opening_by-same : (r : ℕ → ℕ) (sps : Sps) (hd : Header) (h : History) (set : Option Sps) (entries : List MarkingEntry)
    → opening_by sps hd (renumbered_history r h) set entries ≡ renumbered_opening r (opening_by sps hd h set entries)
opening_by-same r sps hd h set entries =
    either-same (renumbered_opening r) (is_same_sps set sps) _ _ _ _
    (then-same r (missing_frame_nums (prev_ref_frame_num entries) sps.gaps_in_frame_num_value_allowed_flag (picture_entry sps hd)) _ _
    (λ numbers.
    ap (λ (x : Result History Fault). x >>= λ full. with_order_counts sps hd full) (with_missing-same r sps numbers h)
    ∙ counted-same r sps hd (with_missing sps numbers h)))
    refl

pub opening-same : (r : ℕ → ℕ) (sps : Sps) (hd : Header) (h : History)
    → history_at_opening sps hd (renumbered_history r h) ≡ renumbered_opening r (history_at_opening sps hd h)
opening-same r sps hd h =
    either-same (renumbered_opening r) (is_idr hd) _ _ _ _
    (then-same r (with_order_counts sps hd []) _ _ (λ none. refl))
    (ap₂ (opening_by sps hd (renumbered_history r h)) (sequence_sps-same r h) (marking_entries-same r h)
    ∙ opening_by-same r sps hd h (sequence_sps h) (marking_entries h))

-- ---- a picture that is closed (8.2.5)

earlier-same : (r : ℕ → ℕ) (hd : Header) (before : History)
    → earlier_in_sequence hd (renumbered_history r before) ≡ renumbered_history r (earlier_in_sequence hd before)
earlier-same r hd before = either-same (renumbered_history r) (is_idr hd) _ _ _ _ refl refl

info-same : (r : ℕ → ℕ) (sps : Sps) (hd : Header) (unit : ℕ) (older : History)
    → info_of sps hd (r unit) (renumbered_history r older) ≡ renumbered_info r (info_of sps hd unit older)
info-same r sps hd unit older = ap (λ (ps : List Past). info_with sps hd (r unit) (order_or_0 (order_counts sps hd ps))) (pasts-same r older)

with_picture-same : (r : ℕ → ℕ) (sps : Sps) (hd : Header) (unit : ℕ) (planes : Planes) (before : History)
    → with_picture sps hd (r unit) planes (renumbered_history r before) ≡ renumbered_history r (with_picture sps hd unit planes before)
with_picture-same r sps hd unit planes before =
    let older = earlier_in_sequence hd before in
    ap (λ (l : History). decoded_picture sps hd (info_of sps hd (r unit) l) planes ∷ l) (earlier-same r hd before)
    ∙ ap (λ info. decoded_picture sps hd info planes ∷ renumbered_history r older) (info-same r sps hd unit older)

marked-same : (r : ℕ → ℕ) (h : History)
    → (marks_of (renumbered_history r h) >>= λ m. Ok (renumbered_history r h)) ≡ renumbered_opening r (marks_of h >>= λ m. Ok h)
marked-same r h =
    ap (λ (ms : Result Marks Fault). ms >>= λ m. Ok (renumbered_history r h)) (marks-same r h) ∙ then-same r (marks_of h) _ _ (λ m. refl)

pub closing-same : (r : ℕ → ℕ) (sps : Sps) (hd : Header) (unit : ℕ) (planes : Planes) (before : History)
    → history_after_closing sps hd (r unit) planes (renumbered_history r before)
    ≡ renumbered_opening r (history_after_closing sps hd unit planes before)
closing-same r sps hd unit planes before =
    ap (λ (h : History). marks_of h >>= λ m. Ok h) (with_picture-same r sps hd unit planes before)
    ∙ marked-same r (with_picture sps hd unit planes before)

-- ---- the pictures that go out (C.4.4, C.4.5)

entry_pictures-same : (r : ℕ → ℕ) (e : Option Entry)
    → entry_pictures (option_map (renumbered_entry r) e) ≡ map (renumbered_decoded r) (entry_pictures e)
entry_pictures-same r (Some (decoded_picture sps h info planes)) = refl
entry_pictures-same r (Some (missing_frame sps frame_num)) = refl
entry_pictures-same r None = refl

pictures_at-same : (r : ℕ → ℕ) (h : History) (indices : List ℕ)
    → pictures_at (renumbered_history r h) indices ≡ map (renumbered_decoded r) (pictures_at h indices)
pictures_at-same r h [] = refl
pictures_at-same r h (index ∷ indices) =
    ap₂ (λ a b. a ++ b)
    (ap entry_pictures (entry_at-same r h index) ∙ entry_pictures-same r (entry_at h index))
    (pictures_at-same r h indices)
    ∙ sym (map-append (renumbered_decoded r) (entry_pictures (entry_at h index)) (pictures_at h indices))

pub output_pictures-same : (output : Output) (r : ℕ → ℕ) (old new : History)
    → output_pictures output (renumbered_history r old) (renumbered_history r new) ≡ map (renumbered_decoded r) (output_pictures output old new)
output_pictures-same output r old new =
    ap (pictures_at (renumbered_history r new)) (new_output-same output r old new) ∙ pictures_at-same r new (new_output output old new)

pub held_pictures-same : (output : Output) (r : ℕ → ℕ) (h : History)
    → held_pictures output (renumbered_history r h) ≡ map (renumbered_decoded r) (held_pictures output h)
held_pictures-same output r h =
    ap (pictures_at (renumbered_history r h)) (all_held-same output r h) ∙ pictures_at-same r h (all_held output h)

prior_output-same : (output : Output) (r : ℕ → ℕ) (hd : Header) (before : History)
    → prior_output output hd (renumbered_history r before) ≡ map (renumbered_decoded r) (prior_output output hd before)
prior_output-same output r hd before =
    by_cases (held_pictures output (renumbered_history r before)) (held_pictures output before) (is_idr hd) (no_output_of_prior_pics hd.marking)
    (held_pictures-same output r before)
  where
    by_cases : (held' held : List Decoded) (idr drops : Bool) → held' ≡ map (renumbered_decoded r) held
        → elim idr as (λ _. List Decoded) [ true ↦ (if drops then [] else held') | false ↦ [] ]
        ≡ map (renumbered_decoded r) (elim idr as (λ _. List Decoded) [ true ↦ (if drops then [] else held) | false ↦ [] ])
    by_cases held' held true true e = refl
    by_cases held' held true false e = e
    by_cases held' held false drops e = refl

pub output_at_closing-same : (output : Output) (r : ℕ → ℕ) (hd : Header) (before after : History)
    → output_at_closing output hd (renumbered_history r before) (renumbered_history r after)
    ≡ map (renumbered_decoded r) (output_at_closing output hd before after)
output_at_closing-same output r hd before after =
    let older = earlier_in_sequence hd before in
    ap₂ (λ a b. a ++ b)
    (prior_output-same output r hd before)
    (ap (λ (h : History). output_pictures output h (renumbered_history r after)) (earlier-same r hd before) ∙ output_pictures-same output r older after)
    ∙ sym (map-append (renumbered_decoded r) (prior_output output hd before) (output_pictures output older after))

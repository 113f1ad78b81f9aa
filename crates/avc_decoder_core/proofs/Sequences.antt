-- Coded video sequences: their reference frames, and the order in which their pictures go out.
pub mod MissingNumbers
unfoldable pub use MissingNumbers.*
use Rattle.avc_decoder_core.specs.History.{marking_entry}
use Rattle.avc_decoder_core.specs.FrameBufferState.{Stores}

-- ---- an entry adds no reference frame but its own: the marks of a history

-- it could be marked
record AreMarked (h : History) : Type 0 where
  marks : Marks
  is : marks_of h ≡ Ok marks

marked : (h : History) → is_ok (marks_of h) ≡ true → AreMarked h
marked h ok = grind (arith, wrong)

-- so could all entries but the newest
pub marked_before : (e : Entry) (older : History) → is_ok (marks_of (e ∷ older)) ≡ true → is_ok (marks_of older) ≡ true
marked_before e older ok = unless_fault (marks_of older) _ ok

-- the newest entry is marked after the others
marked_after : (e : Entry) (older : History) (a : AreMarked older) (b : AreMarked (e ∷ older)) →
    marks_after (marking_entry e) (length older) (marking_entry e).marking a.marks ≡ Ok b.marks
marked_after e older a b = sym (marks_then e older a.marks a.is) ∙ b.is

-- the marks with the newest entry are those before it, and its own frame
part_of_older : AddsOwnFrameAlone → (e : Entry) (older : History) (a : AreMarked older) (b : AreMarked (e ∷ older)) →
    Each (λ r. r.decoding_index < length older) (a.marks).references →
    IsPartUpToMarks (b.marks).references ((a.marks).references ++ current_frame (marking_entry e) (length older) Short ∷ [])
part_of_older law e older a b low =
    law (marking_entry e) (length older) a.marks b.marks (each_all (λ r. r.decoding_index < length older) (a.marks).references low) (marked_after e older a b)

-- the decoding indices of the reference frames are those of entries of the history
marked_below : AddsOwnFrameAlone → (h : History) → is_ok (marks_of h) ≡ true → (b : AreMarked h) → Each (λ r. r.decoding_index < length h) (b.marks).references
marked_below law [] ok b = subst (Each (λ r. r.decoding_index < 0)) (ap or_no_references b.is) tt
marked_below law (e ∷ older) ok b =
    let n = length older in
    let before = marked_before e older ok in
    let a = marked older before in
    let low = marked_below law older before a in
    part_each (λ r. r.decoding_index < length (e ∷ older)) (λ r s same at. subst (λ k. k < length (e ∷ older)) (sym same.same_decoding_index) at)
    (b.marks).references ((a.marks).references ++ current_frame (marking_entry e) n Short ∷ [])
    (part_of_older law e older a b low)
    (each_append (λ r. r.decoding_index < length (e ∷ older)) (a.marks).references (current_frame (marking_entry e) n Short ∷ [])
    (each_implies (λ r. r.decoding_index < n) (λ r. r.decoding_index < length (e ∷ older)) (a.marks).references (λ r at. omega (arith, at)) low)
    (omega arith, tt))

-- ---- an entry adds no reference frame but its own

-- a decoding index of the first frames is one of the others
index_of_part : (index : ℕ) (new old : List Reference) → IsPartUpToMarks new old → is_index_of new index ≡ true → is_index_of old index ≡ true
index_of_part index [] old part here = wrong here
index_of_part index (r ∷ new) [] part here = absurd part
index_of_part index (r ∷ new) (s ∷ old) (inl both) here = grind (arith, nat_tests, both, index_of_part index new old both.1)
index_of_part index (r ∷ new) (s ∷ old) (inr part) here = grind (arith, index_of_part index (r ∷ new) old part here)

own_or_other : (index : ℕ) (old : List Reference) (own : Reference) → is_index_of (old ++ own ∷ []) index ≡ true →
    (index ≡ own.decoding_index) ⊎ (is_index_of old index ≡ true)
own_or_other index [] own here = grind (arith, nat_tests)
own_or_other index (s ∷ old) own here = grind (arith, nat_tests, own_or_other index old own)

arriving_references : (e : Entry) (older : History) → (arrival e older).references ≡ indices_of (references_of (e ∷ older))
arriving_references (decoded_picture sps h info planes) older = refl
arriving_references (missing_frame sps frame_num) older = refl

references_before : (h : History) → references_after (arrivals h) ≡ indices_of (references_of h)
references_before [] = refl
references_before (e ∷ older) = arriving_references e older

-- the decoding indices of the reference frames of a history
abbrev is_reference_index : History → (index : ℕ) → Bool
is_reference_index h index = is_index_of (references_of h) index

adds_own : AddsOwnFrameAlone → (e : Entry) (older : History) → is_ok (marks_of (e ∷ older)) ≡ true → (index : ℕ) →
    is_reference_index (e ∷ older) index ≡ true → (index ≡ length older) ⊎ (is_reference_index older index ≡ true)
adds_own law e older ok index here =
    let before = marked_before e older ok in
    let a = marked older before in
    let b = marked (e ∷ older) ok in
    let own = current_frame (marking_entry e) (length older) Short in
    let part = part_of_older law e older a b (marked_below law older before a) in
    let now : is_index_of (b.marks).references index ≡ true = sym (ap (λ r. is_index_of (or_no_references r) index) b.is) ∙ here in
    subst (λ rs. (index ≡ length older) ⊎ (is_index_of rs index ≡ true)) (sym (ap or_no_references a.is))
    (own_or_other index (a.marks).references own
    (index_of_part index (b.marks).references ((a.marks).references ++ own ∷ []) part now))

pub adds_own_index : AddsOwnFrameAlone → (e : Entry) (older : History) → is_ok (marks_of (e ∷ older)) ≡ true → (index : ℕ) →
    list_any (λ p. p == index) (arrival e older).references ≡ true →
    (index ≡ length (arrivals older)) ⊎ (list_any (λ p. p == index) (references_after (arrivals older)) ≡ true)
adds_own_index law e older ok index here =
    let now : is_reference_index (e ∷ older) index ≡ true = sym (ap (list_any (λ p. p == index)) (arriving_references e older)) ∙ here in
    subst (λ n. (index ≡ n) ⊎ (list_any (λ p. p == index) (references_after (arrivals older)) ≡ true)) (sym (length-arrivals older))
    (subst (λ ps. (index ≡ length older) ⊎ (list_any (λ p. p == index) ps ≡ true)) (sym (references_before older))
    (adds_own law e older ok index now))

-- ---- a non-existing frame is a reference frame

own_is_index_of : (old : List Reference) (own : Reference) → is_index_of (old ++ own ∷ []) own.decoding_index ≡ true
own_is_index_of [] own = grind (arith, nat_tests)
own_is_index_of (s ∷ old) own = grind (arith, own_is_index_of old own)

slid : (s : MarkingEntry) (n : ℕ) (m m' : Marks) → marks_after s n (Some SlidingWindow) m ≡ Ok m' → is_index_of m'.references n ≡ true
slid s n m m' is = by (after_sliding_window s m.references) is
  where
    by : (r : Result (List Reference) Fault) → (r >>= λ references. Ok (record m { references = references ++ current_frame s n Short ∷ [] })) ≡ Ok m' → is_index_of m'.references n ≡ true
    by r is = let own = λ (rs : List Reference). own_is_index_of rs (current_frame s n Short) in grind (arith, own)

pub missing_is_reference : (sps : Sps) (frame_num : ℕ) (older : History) → is_ok (marks_of (missing_frame sps frame_num ∷ older)) ≡ true →
    list_any (λ p. p == length (arrivals older)) (arrival (missing_frame sps frame_num) older).references ≡ true
missing_is_reference sps frame_num older ok =
    let e = missing_frame sps frame_num in
    let a = marked older (marked_before e older ok) in
    let b = marked (e ∷ older) ok in
    subst (λ n. is_reference_index (e ∷ older) n ≡ true) (sym (length-arrivals older))
    (ap (λ r. is_index_of (or_no_references r) (length older)) b.is
    ∙ slid (marking_entry e) (length older) a.marks b.marks (marked_after e older a b))

-- ---- where the reordering of pictures stays within its limits, early output hands them out in the order of full output: the limit of a sequence

-- parameter sets with the same contents give the same limit
same_limits : (a b : Sps) → same_sps a b ≡ true → reorder_limit a ≡ reorder_limit b
same_limits a b e = by_vui a.vui b.vui (search (left, right) depth 16)
  where
    limit : Option Restriction → Option ℕ
    limit o = option_map (λ r. r.max_num_reorder_frames) o

    by_restriction : (o p : Option Restriction) → option_eq same_restriction o p ≡ true → limit o ≡ limit p
    by_restriction None None e = refl
    by_restriction None (Some s) e = wrong e
    by_restriction (Some r) None e = wrong e
    by_restriction (Some r) (Some s) e = ap Some (eqb-true r.max_num_reorder_frames s.max_num_reorder_frames (search (left, right) depth 16))

    by_vui : (o p : Option Vui) → option_eq same_vui o p ≡ true →
        limit (elim o as (λ _. Option Restriction) [ None ↦ None | Some v ↦ v.restriction ])
        ≡ limit (elim p as (λ _. Option Restriction) [ None ↦ None | Some v ↦ v.restriction ])
    by_vui None None e = refl
    by_vui None (Some w) e = wrong e
    by_vui (Some v) None e = wrong e
    by_vui (Some v) (Some w) e = by_restriction v.restriction w.restriction (search (left, right) depth 16)

-- the limit after entries is that of each parameter set of their sequence
limit_in_sequence : (older : History) → EachCanCome older → (sps : Sps) → is_same_sps (sequence_sps older) sps ≡ true →
    reorder_limit sps ≡ limit_after (arrivals older)
limit_in_sequence [] come sps same = wrong same
limit_in_sequence (decoded_picture before h info planes ∷ older) come sps same = by (is_idr h) refl same (limit_in_sequence older come.1)
  where
    by : (idr : Bool) → is_idr h ≡ idr →
        is_same_sps (elim idr as (λ _. Option Sps) [ true ↦ Some before | false ↦ sequence_sps older ]) sps ≡ true →
        ((set : Sps) → is_same_sps (sequence_sps older) set ≡ true → reorder_limit set ≡ limit_after (arrivals older)) →
        reorder_limit sps ≡ reorder_limit before
    by true is same rest = sym (same_limits before sps same)
    by false is same rest = rest sps same ∙ sym (rest before ((come.0).same is))
limit_in_sequence (missing_frame set frame_num ∷ older) come sps same = limit_in_sequence older come sps same

-- the limit before a picture is its own, where it is not the first
limit_before : (sps : Sps) (h : Header) (older : History) → EachCanCome older → CanCome sps h older →
    (arrivals older ≡ []) ⊎ (reorder_limit sps ≡ limit_after (arrivals older))
limit_before sps h older each come = grind (arith, limit_in_sequence)

-- ---- the pictures that go out late

count_less : (first later index : ℕ) → first ≤ later → (ps : List ℕ) →
    count_by (λ p. nat_le later p && nat_lt p index) ps ≤ count_by (λ p. nat_le first p && nat_lt p index) ps
count_less first later index low [] = omega arith
count_less first later index low (p ∷ ps) =
    let fewer = sum_by-cons (λ p. cond (nat_le later p && nat_lt p index) 1 0) p ps in
    let more = sum_by-cons (λ p. cond (nat_le first p && nat_lt p index) 1 0) p ps in
    grind (arith, nat_tests, fewer, more, count_less first later index low ps)

-- from a later decoding index on there are no more of them
reordered_less : (first later index : ℕ) (order : List ℕ) → first ≤ later → reordered later index order ≤ reordered first index order
reordered_less first later index order low = count_less first later index low (indices_after index order)

newest_within : (order : List ℕ) (sps : Sps) (h : Header) (info : PictureInfo) (planes : Planes) (older : History) →
    NewestIsWithin order (decoded_picture sps h info planes ∷ older) →
    IfSome (reorder_limit sps) (λ most. reordered (last_emptying (arrivals (decoded_picture sps h info planes ∷ older))) (length (arrivals older)) order ≤ most)
newest_within order sps h info planes older within =
    let later = last_emptying (arrivals (decoded_picture sps h info planes ∷ older)) in
    let less = reordered_less 0 later (length older) order (omega arith) in
    subst (λ n. IfSome (reorder_limit sps) (λ most. reordered later n order ≤ most)) (sym (length-arrivals older))
    (if_some (λ most. reordered 0 (length older) order ≤ most) (λ most. reordered later (length older) order ≤ most) (reorder_limit sps)
    (λ most is few. omega (arith, less, few)) within)

-- ---- each entry

can_go_out_early : AddsOwnFrameAlone → (order : List ℕ) (e : Entry) (older : History) → EachCanCome (e ∷ older) →
    is_ok (marks_of (e ∷ older)) ≡ true → NewestIsWithin order (e ∷ older) →
    CanGoOutEarly order (arrival e older) (arrivals older)
can_go_out_early law order (decoded_picture sps h info planes) older come ok within = record {
  references = adds_own_index law (decoded_picture sps h info planes) older ok;
  non_existing = λ missing. wrong (sym missing);
  no_limit = λ missing. wrong (sym missing);
  limit = λ _. limit_before sps h older come.1 come.0;
  within = λ _. newest_within order sps h info planes older within;
}
can_go_out_early law order (missing_frame sps frame_num) older come ok within = record {
  references = adds_own_index law (missing_frame sps frame_num) older ok;
  non_existing = λ _. missing_is_reference sps frame_num older ok;
  no_limit = λ _. refl;
  limit = λ existing. wrong existing;
  within = λ existing. wrong existing;
}

come_before : (e : Entry) (older : History) → EachCanCome (e ∷ older) → EachCanCome older
come_before e older come = grind arith

all_can_go_out_early : AddsOwnFrameAlone → (order : List ℕ) (h : History) → EachCanCome h → is_ok (marks_of h) ≡ true →
    EachIsWithin order h → AllCanGoOutEarly order (arrivals h)
all_can_go_out_early law order [] come ok within = tt
all_can_go_out_early law order (e ∷ older) come ok within = (
  can_go_out_early law order e older come ok within.0,
  all_can_go_out_early law order older (come_before e older come) (marked_before e older ok) within.1,
)

pub early_output_keeps_histories : EarlyOutputKeepsTheOrder → AddsOwnFrameAlone → EarlyOutputKeepsHistories
early_output_keeps_histories early law h come ok within = grind (arith, all_can_go_out_early)

-- ---- the state of a sequence as pictures are opened and closed: with no open picture

pub at_rest : (closed history : History) (o : Option OpenPicture) → option_map open_picture_of o ≡ None → StandsOnIf closed history o → closed ≡ history
at_rest closed history o e s = grind (arith, none-some)

pub counted_at_rest : (history : History) (o : Option OpenPicture) → option_map open_picture_of o ≡ None → counted history o ≡ pasts history
counted_at_rest history o e = grind (arith, none-some)

-- ---- the history that the open picture stands on

pub current_is : (closed history : History) (o : Option OpenPicture) (frames : List (Frame 16)) (output : Output) (failed : Bool) (s : SequenceState) → StandsOnIf closed history o
    → record { history = closed; open_picture = option_map open_picture_of o; frames = frames; output = output; failed = failed } ≡ s → current_history s ≡ history
current_is closed history o frames output failed s stands e = grind arith

-- ---- a picture is opened

pub opened_on : (sps : Sps) (h : Header) (closed history : History) (o : Opening) (reached : History) → closed ≡ history → IsOpening sps h closed o
    → with_missing sps o.missing history ≡ Ok reached → history_at_opening sps h closed ≡ Ok reached
opened_on sps h closed history o reached rest found stored = found.opens ∙ sym found.missing ∙ ap (with_missing sps o.missing) rest ∙ stored

pub opened_state : (sps : Sps) (h : Header) (unit : ℕ) (closed history : History) (o : Opening) (buffer : FrameBufferState) (set : Option Sps)
    → IsSps sps → (is_idr h ≡ true → has_idr_marking h ≡ true) → is_some h.marking ≡ is_reference h → buffer.failed ≡ false → closed ≡ history → set ≡ sequence_sps history
    → IsOpening sps h closed o → with_missing sps o.missing history ≡ Ok buffer.history
    → IsStateOf closed (Some (record { sps = sps; header = h; unit = unit; pic_order_cnt = o.pic_order_cnt })) buffer o.poc set
opened_state sps h unit closed history o buffer set limits marking reference going rest is_set found stored = grind (arith, opened_on, ok_same, can_follow, set_at_opening)

-- ---- a picture is closed

-- what an IDR picture finds
history_there : (h : Header) (b : FrameBufferState) → (at_sequence_of h b).history ≡ earlier_in_sequence h b.history
history_there h b = grind arith

output_there : (h : Header) (b : FrameBufferState) → (at_sequence_of h b).output ≡ b.output
output_there h b = grind arith

going_there : (h : Header) (b : FrameBufferState) → b.failed ≡ false → (at_sequence_of h b).failed ≡ false
going_there h b going = grind arith

-- The picture can be stored there.
pub record CanStore (sps : Sps) (h : Header) (b : FrameBufferState) (order : ℤ) : Type 0 where
  pub going : b.failed ≡ false
  pub follows : CanFollow b.history sps h
  pub order_is : order ≡ order_or_0 (order_counts sps h (pasts b.history))
  pub first : is_idr h ≡ true → b.history ≡ []

none_before : (h : Header) (before : History) → is_idr h ≡ true → earlier_in_sequence h before ≡ []
none_before h before idr = grind arith

all_before : (h : Header) (before : History) → is_idr h ≡ false → earlier_in_sequence h before ≡ before
all_before h before other = grind arith

-- what is known of it
pub known : (p : OpenPicture) (there : FrameBufferState) (info : PictureInfo) → info ≡ info_with p.sps p.header p.unit p.pic_order_cnt
    → CanStore p.sps p.header there p.pic_order_cnt → info ≡ info_of p.sps p.header p.unit there.history
known p there info is can = is ∙ ap (info_with p.sps p.header p.unit) can.order_is

pub can_store : (closed : History) (p : OpenPicture) (b there : FrameBufferState) (prior : List Picture) → b.failed ≡ false → StandsOn closed b.history p
    → BeginsSequence b p.header prior there → CanStore p.sps p.header there p.pic_order_cnt
can_store closed p b there prior going stands begins = grind (arith, history_there, going_there, all_before, none_before)

-- It was stored, and these pictures go out.
pub record IsStoredOn (sps : Sps) (h : Header) (unit : ℕ) (planes : Planes) (b : FrameBufferState) (out : List Picture) (after : FrameBufferState) : Type 0 where
  pub going : after.failed ≡ false
  pub history : after.history ≡ with_picture sps h unit planes b.history
  pub output : after.output ≡ b.output
  pub marked : is_ok (marks_of (with_picture sps h unit planes b.history)) ≡ true
  pub pictures : out ≡ output_at_closing b.output h b.history (with_picture sps h unit planes b.history)

pub stored_on : (sps : Sps) (h : Header) (unit : ℕ) (info : PictureInfo) (planes : Planes) (b there after : FrameBufferState) (prior more out : List Picture) → BeginsSequence b h prior there
    → info ≡ info_of sps h unit there.history → Stores there (decoded_picture sps h info planes) more after → out ≡ prior ++ more → IsStoredOn sps h unit planes b out after
stored_on sps h unit info planes b there after prior more out begins known stores all = grind (arith, history_there, output_there)

-- Nothing changed, and it could not be marked.
pub record IsRefusedOn (sps : Sps) (h : Header) (unit : ℕ) (planes : Planes) (b : FrameBufferState) (f : Fault) (after : FrameBufferState) : Type 0 where
  pub same : after ≡ b
  pub refused : marks_of (with_picture sps h unit planes b.history) ≡ Err f

pub refused_on : (sps : Sps) (h : Header) (unit : ℕ) (info : PictureInfo) (planes : Planes) (b there after : FrameBufferState) (prior : List Picture) (f : Fault) → (is_idr h ≡ true → has_idr_marking h ≡ true)
    → BeginsSequence b h prior there → info ≡ info_of sps h unit there.history → after ≡ there → marks_of (decoded_picture sps h info planes ∷ there.history) ≡ Err f → IsRefusedOn sps h unit planes b f after
refused_on sps h unit info planes b there after prior f marking begins known same refused = grind (arith, history_there, idr_not_refused, none_before)

-- the parameter set of the sequence then
pub set_then : (sps : Sps) (h : Header) (unit : ℕ) (planes : Planes) (before : History) (set : Option Sps) → set ≡ sequence_sps before
    → set_with sps h set ≡ sequence_sps (with_picture sps h unit planes before)
set_then sps h unit planes before set is = grind arith

pub is_closed : (old new : SequenceState) (o : OpenPictureStart) (planes : Planes) (frames : List (Frame 16)) (history : History) (out : List Picture) → old.failed ≡ false
    → current_history old ≡ history → is_ok (marks_of (with_picture o.sps o.header o.unit planes history)) ≡ true
    → new ≡ record { history = with_picture o.sps o.header o.unit planes history; open_picture = None; frames = frames; output = old.output; failed = false }
    → out ≡ output_at_closing old.output o.header history (with_picture o.sps o.header o.unit planes history) → IsClosed old o planes out new
is_closed old new o planes frames history out going current can_mark state goes_out =
    let full = with_picture o.sps o.header o.unit planes history in
    rw state (record {
      going = going;
      state = refl;
      closes = ap (history_after_closing o.sps o.header o.unit planes) current ∙ follows (marks_of full) (Ok full) can_mark;
      pictures = goes_out ∙ ap (λ (h : History). output_at_closing old.output o.header h full) (sym current);
    })

-- `o` is the open picture
pub open_is : (p : OpenPicture) (opened : Option OpenPicture) (o : OpenPictureStart) (s : SequenceState) → opened ≡ Some p → option_map open_picture_of opened ≡ s.open_picture
    → s.open_picture ≡ Some o → open_picture_of p ≡ o
open_is p opened o s is seen told = same_Some (open_picture_of p) o (ap (option_map open_picture_of) (sym is) ∙ seen ∙ told)

-- it can't be closed
pub closing_refused : (o : OpenPictureStart) (planes : Planes) (s : SequenceState) (history : History) (f : Fault) → current_history s ≡ history
    → marks_of (with_picture o.sps o.header o.unit planes history) ≡ Err f → history_after_closing o.sps o.header o.unit planes (current_history s) ≡ Err f
closing_refused o planes s history f current told = grind (arith, fault_stays)

pub unchanged : (closed : History) (o o' : Option OpenPicture) (frames frames' : List (Frame 16)) (output output' : Output) (failed : Bool) (s : SequenceState) → o ≡ o' → frames' ≡ frames → output' ≡ output → failed ≡ false
    → record { history = closed; open_picture = option_map open_picture_of o; frames = frames; output = output; failed = failed } ≡ s
    → record { history = closed; open_picture = option_map open_picture_of o'; frames = frames'; output = output'; failed = false } ≡ s
unchanged closed o o' frames frames' output output' failed s same_open same_frames same_output going seen = cc

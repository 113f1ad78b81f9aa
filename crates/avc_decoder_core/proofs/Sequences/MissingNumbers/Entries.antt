-- An entry of the history is stored: the buffer, the state, and the pictures that go out.
pub mod Frames
unfoldable pub use Frames.*
use Rattle.avc_dpb.specs.Contents.{Stores}
use Rattle.avc_decoder_core.specs.History.{marking_entry}

-- ---- what goes out entry after entry: all decoding indices of a history are below its length

pub length-arrivals : (history : History) → length (arrivals history) ≡ length history
length-arrivals [] = refl
length-arrivals (e ∷ older) = ap suc (length-arrivals older)

below_unless : (n x : ℕ) (xs : List ℕ) → (n ≤ x → occurrences x (x ∷ xs) ≡ 0) → x < n
below_unless n x xs f = grind (arith, nat_tests)

all_below : (n : ℕ) (xs : List ℕ) → ((index : ℕ) → n ≤ index → occurrences index xs ≡ 0) → All (λ p. p < n) xs
all_below n [] f = All-nil (λ p. p < n)
all_below n (x ∷ xs) f =
    All-cons (λ p. p < n) x xs (below_unless n x xs (f x)) (all_below n xs (λ index low. let none = f index low in omega (arith, none)))

occurrences-append : (index : ℕ) (xs ys : List ℕ) → occurrences index (xs ++ ys) ≡ occurrences index xs + occurrences index ys
occurrences-append index [] ys = omega arith
occurrences-append index (x ∷ xs) ys = grind (arith, occurrences-append index xs ys)

none_above : (history : List Arrival) (index : ℕ) → length history ≤ index → occurrences index (pictures history) ≡ 0
none_above [] index low = refl
none_above (a ∷ older) index low = let none = none_above older index (omega arith) in grind (arith, nat_tests, occurrences-append, none)

-- of the pictures that have gone out and of those that are needed for output
pub all_indices_below : (output : Output) (history : History) → All (λ p. p < length history) ((buffer_of output history).out ++ all_held output history)
all_indices_below output history = grind (arith, length-arrivals, all_below, goes_out_once, none_above)

all_parts : (P : ℕ → Type 0) (xs ys : List ℕ) → All P (xs ++ ys) → All P xs × All P ys
all_parts P [] ys a = (All-nil P, a)
all_parts P (x ∷ xs) ys a =
    let rest = all_parts P xs ys (All-tail P x (xs ++ ys) a) in (All-cons P x xs (All-head P x (xs ++ ys) a) rest.0, rest.1)

pub pictures_stay : (e : Entry) (history : History) (indices : List ℕ) → All (λ p. p < length history) indices → pictures_at (e ∷ history) indices ≡ pictures_at history indices
pictures_stay e history [] a = refl
pictures_stay e history (p ∷ indices) a =
    ap₂ (λ x rest. entry_pictures x ++ rest) (entry_before e history p (All-head (λ p. p < length history) p indices a))
    (pictures_stay e history indices (All-tail (λ p. p < length history) p indices a))

-- ---- what goes out over several entries

-- the new history has put out what the old one has, and then more
abbrev pub Extends : Output → (old new : History) → Type 0
Extends output old new = (buffer_of output new).out ≡ (buffer_of output old).out ++ new_output output old new

nothing_new : (output : Output) (history : History) → new_output output history history ≡ []
nothing_new output history = drop-length (buffer_of output history).out

pub extends_itself : (output : Output) (history : History) → Extends output history history
extends_itself output history = sym (ap (λ l. (buffer_of output history).out ++ l) (nothing_new output history) ∙ append-nil (buffer_of output history).out)

pub nothing_goes_out : (output : Output) (history : History) → [] ≡ output_pictures output history history
nothing_goes_out output history = sym (ap (pictures_at history) (nothing_new output history))

output_longer : (output : Output) (e : Entry) (old history : History) → Extends output old history
    → (buffer_of output (e ∷ history)).out ≡ (buffer_of output old).out ++ (new_output output old history ++ new_output output history (e ∷ history))
output_longer output e old history x =
    out_only_grows output (length (arrivals history)) (arrival e history) (buffer_of output history)
    ∙ ap (λ l. l ++ new_output output history (e ∷ history)) x
    ∙ append_assoc (buffer_of output old).out (new_output output old history) (new_output output history (e ∷ history))

new_longer : (output : Output) (e : Entry) (old history : History) → Extends output old history
    → new_output output old (e ∷ history) ≡ new_output output old history ++ new_output output history (e ∷ history)
new_longer output e old history x = grind (arith, output_longer, drop-append_seam)

pub extends_more : (output : Output) (e : Entry) (old history : History) → Extends output old history → Extends output old (e ∷ history)
extends_more output e old history x = output_longer output e old history x ∙ ap (λ l. (buffer_of output old).out ++ l) (sym (new_longer output e old history x))

out_below : (output : Output) (old history : History) → Extends output old history → All (λ p. p < length history) (new_output output old history)
out_below output old history x =
    let out = (all_parts (λ p. p < length history) (buffer_of output history).out (all_held output history) (all_indices_below output history)).0 in
    (all_parts (λ p. p < length history) (buffer_of output old).out (new_output output old history) (subst (All (λ p. p < length history)) x out)).1

pub needed_below : (output : Output) (history : History) → All (λ p. p < length history) (all_held output history)
needed_below output history = (all_parts (λ p. p < length history) (buffer_of output history).out (all_held output history) (all_indices_below output history)).1

-- what goes out with one entry more
pub output_more : (output : Output) (e : Entry) (old history : History) → Extends output old history
    → output_pictures output old (e ∷ history) ≡ output_pictures output old history ++ output_pictures output history (e ∷ history)
output_more output e old history x =
    ap (pictures_at (e ∷ history)) (new_longer output e old history x)
    ∙ flat_map-append (λ index. entry_pictures (entry_at (e ∷ history) index)) (new_output output old history) (new_output output history (e ∷ history))
    ∙ ap (λ l. l ++ output_pictures output history (e ∷ history)) (pictures_stay e history (new_output output old history) (out_below output old history x))

-- ---- entries of one sequence have one size, and no more reference frames than its parameter set allows

pub wrong : {A : Type 0} → false ≡ true → A
wrong e = absurd (let q : false ≡ true = e in cc)

-- the two parts of a test
pub left : (x y : Bool) → (x && y) ≡ true → x ≡ true
left x y e = (and_parts x y e).0

pub right : (x y : Bool) → (x && y) ≡ true → y ≡ true
right x y e = (and_parts x y e).1

-- the sizes that two parameter sets agree on
pub record SameSizes (a b : Sps) : Type 0 where
  pub references : a.max_num_ref_frames ≡ b.max_num_ref_frames
  pub width : width_in_mbs a ≡ width_in_mbs b
  pub height : height_in_mbs a ≡ height_in_mbs b

pub same_sizes : (a b : Sps) → same_sps a b ≡ true → SameSizes a b
same_sizes a b e = record {
  references = eqb-true a.max_num_ref_frames b.max_num_ref_frames (search (left, right) depth 16);
  width = ap (λ n. n + 1) (eqb-true a.pic_width_in_mbs_minus1 b.pic_width_in_mbs_minus1 (search (left, right) depth 16));
  height = ap (λ n. n + 1) (eqb-true a.pic_height_in_map_units_minus1 b.pic_height_in_map_units_minus1 (search (left, right) depth 16));
}

pub if_some : {A : Type 0} (P Q : A → Type 0) (o : Option A) → ((x : A) → o ≡ Some x → P x → Q x) → IfSome o P → IfSome o Q
if_some P Q None f h = h
if_some P Q (Some x) f h = f x refl h

pub same_from : (o : Option Sps) (before sps : Sps) → o ≡ Some before → is_same_sps o sps ≡ true → SameSizes before sps
same_from o before sps is same = same_sizes before sps (ap (λ o. is_same_sps o sps) (sym is) ∙ same)

-- ---- what becomes of the pictures before

-- an entry that keeps the frames before lets no picture out
same_operations : (operations : List Operation) → list_any is_operation_5 operations ≡ list_any is_unmark_all operations
same_operations [] = refl
same_operations (o ∷ operations) = grind (arith, same_operations operations)

pub prior_remains : (h : Header) → unmarks_all h.marking ≡ false → prior_pictures_of h ≡ remain
prior_remains h e = grind (arith, same_operations)

-- one frame is used for reference after an IDR picture
pub one_after_idr : (h : Header) (s : MarkingEntry) (n : ℕ) (m m' : Marks) → has_idr_marking h ≡ true → marks_after s n h.marking m ≡ Ok m' → length m'.references ≡ 1
one_after_idr h s n m m' e is = grind arith

-- it can be marked after every history
pub idr_not_refused : (h : Header) (s : MarkingEntry) (n : ℕ) (m : Marks) (f : Fault) → has_idr_marking h ≡ true → marks_after s n h.marking m ≡ Err f → ⊥
idr_not_refused h s n m f e is = grind arith

-- ---- an entry's frame is stored: the buffer of the longer history

-- the stored frames once they are marked
pub marked_buffer : (e : Entry) (h : History) (c : Contents) (idx : Option ℕ) (previous : ℕ) (s : IsStateAfter h c idx previous) (m : Marks) (marked : List MarkedFrame) →
    IsMarked c.output e h m marked → (new : Contents) → new ≡ with_all_marks c marked → IsBuffer new (buffer_of c.output h) (length h) (frame_at (e ∷ h) m.references)
marked_buffer e h c idx previous s m marked is new set =
    let b = buffer_of c.output h in
    let old = frame_at h (s.marks).references in
    let frame = frame_at (e ∷ h) m.references in
    let low = below (indices_in b) (length h) (rise b.frames (length h) (s.buffer).rising) in
    let there : IsBuffer (with_all_marks c marked) b (length h) frame = record {
      works = (s.buffer).works;
      slots = (s.buffer).slots;
      frames =
          ap (λ fs. with_marks fs marked) ((s.buffer).frames ∙ sym (map-map old (λ t. t.decoding_index) b.frames))
          ∙ marked_again e h (s.marks).references m.references (indices_in b) (length h ∷ []) marked low is.marks
          ∙ map-map frame (λ t. t.decoding_index) b.frames;
      rising = (s.buffer).rising;
    } in
    subst (λ v. IsBuffer v b (length h) frame) (sym set) there

-- ---- the reference frames before the entry's own

kept_remain : (rs : List Reference) (b : Buffer) → indices_of_references (indices_of rs) b ≡ filter (is_index_of rs) (indices_in b)
kept_remain rs b = sym (filter_map_indices (λ s. s.decoding_index) (is_index_of rs) b.frames)

kept_alone : (rs : List Reference) (n : ℕ) (ps : List ℕ) → Each (λ r. r.decoding_index ≡ n) rs → Each (λ p. p < n) ps → [] ≡ filter (is_index_of rs) ps
kept_alone rs n ps alone low = sym (no_filter (is_index_of rs) ps (each_implies (λ p. p < n) (λ p. is_index_of rs p ≡ false) ps (λ p l. no_index_of rs n p l alone) low))

-- they are in the buffer once the pictures before have gone out, or are none
pub kept : (rs : List Reference) (n : ℕ) (b : Buffer) (prior : PriorPictures) (all : Bool) → (all ≡ true → Each (λ r. r.decoding_index ≡ n) rs) → (all ≡ false → prior ≡ remain) →
    Each (λ p. p < n) (indices_in b) → indices_of_references (indices_of rs) (after_prior_pictures prior b) ≡ filter (is_index_of rs) (indices_in b)
kept rs n b prior all alone stays low = grind (arith, kept_remain, kept_alone)

-- ---- the entry's own

-- the call knows of the arriving frame what the history says of the entry
abbrev pub Arrives : Entry → History → ArrivingFrame → Marks → Type 0
Arrives e h arriving m = arrival e h ≡ record (arrival_of arriving (indices_of m.references)) { prior_pictures = (arrival e h).prior_pictures }

-- the buffer once the pictures before have gone out
abbrev pub emptied : Output → Entry → History → Buffer
emptied output e h = after_prior_pictures (arrival e h).prior_pictures (buffer_of output h)

buffer_is : (output : Output) (e : Entry) (h : History) (arriving : ArrivingFrame) (m : Marks) → Arrives e h arriving m →
    after_frame output (length h) (arrival_of arriving (indices_of m.references)) (emptied output e h) ≡ buffer_of output (e ∷ h)
buffer_is output e h arriving m arrives =
    ap (λ a. after_frame output (length h) a (emptied output e h)) (sym arrives)
    ∙ ap (λ n. after_frame output n (arrival e h) (emptied output e h)) (sym (length-arrivals h))

pub stored_buffer : (output : Output) (e : Entry) (h : History) (arriving : ArrivingFrame) (m : Marks) → Arrives e h arriving m →
    (old new : Contents) (frame : Frame 16) (out : List Picture) → IsBuffer old (emptied output e h) (length h) (frame_at (e ∷ h) m.references) → old.output ≡ output →
    frame_at (e ∷ h) m.references (length h) ≡ frame → Stores old frame arriving out new →
    HasBuffer new out (emptied output e h) (buffer_of output (e ∷ h)) (length h + 1) (frame_at (e ∷ h) m.references)
stored_buffer output e h arriving m arrives old new frame out is same own stores =
    let n = length h in
    let at = frame_at (e ∷ h) m.references in
    let has = stores (emptied output e h) n at (indices_of m.references) is
    (ap (map (λ f. is_some f.mark)) is.frames ∙ referenced_are (e ∷ h) m.references (emptied output e h).frames)
    own (ap (λ f. is_some f.mark) (sym own) ∙ referenced_is (e ∷ h) m.references n) in
    subst (λ b. HasBuffer new out (emptied output e h) b (n + 1) at)
    (ap (λ o. after_frame o n (arrival_of arriving (indices_of m.references)) (emptied output e h)) same ∙ buffer_is output e h arriving m arrives) has

-- ---- the reference frames

-- they are those of the decoding indices
by_indices : (h : History) (rs : List Reference) (qs : List ℕ) →
    references_at qs (map (λ p. marked_frame (frame_at h rs p)) qs) ≡ map (λ p. reference_of p (marked_frame (frame_at h rs p))) (filter (is_index_of rs) qs)
by_indices h rs qs = grind (arith, references_by, same_filter, referenced_is)

-- there is room for the entry's own
room : (output : Output) (e : Entry) (h : History) (m : Marks) (marked : List MarkedFrame) → IsMarked output e h m marked → (b : Buffer) →
    indices_of_references (indices_of m.references) b ≡ filter (is_index_of m.references) (indices_in (buffer_of output h)) → is_index_of m.references (length h) ≡ true →
    count_by (is_reference_in (indices_of m.references)) b.frames + 1 ≡ length m.references
room output e h m marked is b same own =
    let n = length h in
    let ps = indices_in (buffer_of output h) in
    let rs = m.references in
    let frame : ℕ → Reference = λ p. reference_of p (marked_frame (frame_at (e ∷ h) rs p)) in
    let counted : count_by (is_reference_in (indices_of rs)) b.frames ≡ length (filter (is_index_of rs) ps) =
    sym (length-filter (is_reference_in (indices_of rs)) b.frames) ∙ sym (length-map (filter (is_reference_in (indices_of rs)) b.frames) (λ s. s.decoding_index)) ∙ ap length same in
    ap (λ k. k + 1) counted
    ∙ ap (λ l. length (filter (is_index_of rs) ps) + length l) (sym (ap (λ t. cond t (n ∷ []) []) own))
    ∙ sym (length-append (filter (is_index_of rs) ps) (filter (is_index_of rs) (n ∷ [])))
    ∙ sym (ap length (filter-append (is_index_of rs) ps (n ∷ [])))
    ∙ sym (length-map (filter (is_index_of rs) (ps ++ n ∷ [])) frame)
    ∙ sym (ap length (is.references ∙ by_indices (e ∷ h) rs (ps ++ n ∷ [])))

last_own : (t : Bool) (n : ℕ) → (if t then n ∷ [] else []) ≡ cond t (n ∷ []) []
last_own t n = grind arith

-- The buffer has the reference frames of the longer history.
pub stored_references : (output : Output) (e : Entry) (h : History) (arriving : ArrivingFrame) (m : Marks) (marked : List MarkedFrame) → Arrives e h arriving m → IsMarked output e h m marked →
    (all : Bool) → (all ≡ true → Each (λ r. r.decoding_index ≡ length h) m.references) → (all ≡ false → (arrival e h).prior_pictures ≡ remain) →
    Each (λ p. p < length h) (indices_in (buffer_of output h)) →
    (is_index_of m.references (length h) ≡ true → (arriving.is_reference || not arriving.existing) ≡ true) → length m.references ≤ arriving.capacity →
    (old new : Contents) → IsBuffer old (emptied output e h) (length h) (frame_at (e ∷ h) m.references) →
    IsBuffer new (buffer_of output (e ∷ h)) (length h + 1) (frame_at (e ∷ h) m.references) →
    references_at (indices_in (buffer_of output (e ∷ h))) (map marked_frame new.frames) ≡ m.references
stored_references output e h arriving m marked arrives is all alone stays low stored limit old new before after =
    let n = length h in
    let rs = m.references in
    let ps = indices_in (buffer_of output h) in
    let b = emptied output e h in
    let b' = buffer_of output (e ∷ h) in
    let at = frame_at (e ∷ h) rs in
    let a = arrival_of arriving (indices_of rs) in
    let same : indices_of_references (indices_of rs) b ≡ filter (is_index_of rs) ps = kept rs n (buffer_of output h) (arrival e h).prior_pictures all alone stays low in
    let has_room : is_index_of rs n ≡ true → HasRoom a b =
    λ own. let count = room output e h m marked is b same own in record { stored = stored own; room = omega (arith, limit, count) } in
    let stay : indices_of_references (indices_of rs) b' ≡ indices_of_references (indices_of rs) b ++ (if is_index_of rs n then n ∷ [] else []) =
    sym (ap (indices_of_references (indices_of rs)) (buffer_is output e h arriving m arrives)) ∙ references_stay output n a b before.rising has_room in
    let indices : filter (is_index_of rs) (indices_in b') ≡ filter (is_index_of rs) (ps ++ n ∷ []) =
    sym (kept_remain rs b') ∙ stay ∙ ap₂ (λ l r. l ++ r) same (last_own (is_index_of rs n) n) ∙ sym (filter-append (is_index_of rs) ps (n ∷ [])) in
    ap (references_at (indices_in b')) (ap (map marked_frame) after.frames ∙ map-map marked_frame (λ s. at s.decoding_index) b'.frames ∙ sym (map-map (λ p. marked_frame (at p)) (λ s. s.decoding_index) b'.frames))
    ∙ by_indices (e ∷ h) rs (indices_in b')
    ∙ ap (map (λ p. reference_of p (marked_frame (at p)))) indices
    ∙ sym (by_indices (e ∷ h) rs (ps ++ n ∷ []))
    ∙ sym is.references

-- ---- the state once an entry's frame is stored, and the pictures that go out

-- The entry may come: it has the parameter set of its sequence, or begins one.
abbrev pub Follows : Entry → History → Type 0
Follows (decoded_picture sps header info planes) h =
    CanFollow h sps header × AreSized (width_in_mbs sps) (height_in_mbs sps) planes × (is_idr header ≡ true → h ≡ [])
Follows (missing_frame sps frame_num) h = is_same_sps (sequence_sps h) sps ≡ true

abbrev pub sps_of : Entry → Sps
sps_of (decoded_picture sps header info planes) = sps
sps_of (missing_frame sps frame_num) = sps

-- ---- no more reference frames than there may be

own_limit : (e : Entry) → limit_of (marking_entry e) ≡ reference_limit (sps_of e)
own_limit e = grind arith

abbrev pub AreFew : Marks → Sps → Type 0
AreFew m sps = length m.references ≤ reference_limit sps

few_in_sequence : (e : Entry) (h : History) (m m' : Marks) → is_same_sps (sequence_sps h) (sps_of e) ≡ true → IfSome (sequence_sps h) (AreFew m) →
    marks_after (marking_entry e) (length h) (marking_entry e).marking m ≡ Ok m' → IfSome (sequence_sps h) (AreFew m') × AreFew m' (sps_of e)
few_in_sequence e h m m' same few after = by (sequence_sps h) same few
  where
    by : (o : Option Sps) → is_same_sps o (sps_of e) ≡ true → IfSome o (AreFew m) → IfSome o (AreFew m') × AreFew m' (sps_of e)
    by None same few = wrong same
    by (Some before) same few =
        let limit : reference_limit before ≡ reference_limit (sps_of e) = ap (λ n. max n 1) (same_sizes before (sps_of e) same).references in
        let less = stays-with_max_long_term_frame_idx (reference_limit before) (marking_entry e) (length h) m m' (omega (arith, limit, own_limit e)) few after in
        (less, omega (arith, limit, less))

-- The reference frames are no more than the sequence's parameter set allows, nor than the entry's own.
pub is_few : (e : Entry) (h : History) (m m' : Marks) → Follows e h → IfSome (sequence_sps h) (AreFew m) →
    marks_after (marking_entry e) (length h) (marking_entry e).marking m ≡ Ok m' → IfSome (sequence_sps (e ∷ h)) (AreFew m') × AreFew m' (sps_of e)
is_few (missing_frame sps frame_num) h m m' follows few after = few_in_sequence (missing_frame sps frame_num) h m m' follows few after
is_few (decoded_picture sps header info planes) h m m' follows few after = by (is_idr header) refl
  where
    by : (idr : Bool) → is_idr header ≡ idr → IfSome (elim idr as (λ _. Option Sps) [ true ↦ Some sps | false ↦ sequence_sps h ]) (AreFew m') × AreFew m' sps
    by true idr =
        let one = one_after_idr header (marking_entry (decoded_picture sps header info planes)) (length h) m m' ((follows.0).idr idr) after in
        (omega (arith, one), omega (arith, one))
    by false idr = few_in_sequence (decoded_picture sps header info planes) h m m' ((follows.0).same idr) few after

-- ---- one size

each_both : {A : Type 0} (P Q R : A → Type 0) (xs : List A) → ((x : A) → P x → Q x → R x) → Each P xs → Each Q xs → Each R xs
each_both P Q R [] f h g = tt
each_both P Q R (x ∷ xs) f h g = (f x h.0 g.0, each_both P Q R xs f h.1 g.1)

-- what holds of the decoding indices before and of the entry's own
sized_after : (output : Output) (P : ℕ → Type 0) (e : Entry) (h : History) → P (length h) → Each (λ s. P s.decoding_index) (emptied output e h).frames → Each P (indices_in (buffer_of output (e ∷ h)))
sized_after output P e h own old =
    each_map P (λ s. s.decoding_index) (buffer_of output (e ∷ h)).frames
    (each_after_frame P output (length (arrivals h)) (arrival e h) (emptied output e h) (subst P (sym (length-arrivals h)) own) old)

own_sized : (e : Entry) (h : History) (width height : ℕ) → IfSome (planes_in (Some e)) (AreSized width height) → IfSome (planes_in (entry_at (e ∷ h) (length h))) (AreSized width height)
own_sized e h width height sized = subst (λ o. IfSome (planes_in o) (AreSized width height)) (sym (entry_newest e h)) sized

old_sized : (output : Output) (e : Entry) (h : History) (sps : Sps) → Each (λ p. p < length h) (indices_in (buffer_of output h)) → Each (IsSizedAt h sps) (indices_in (buffer_of output h)) →
    Each (λ s. IsSizedAt (e ∷ h) sps s.decoding_index) (emptied output e h).frames
old_sized output e h sps low sized =
    each_prior (IsSizedAt (e ∷ h) sps) (arrival e h).prior_pictures (buffer_of output h)
    (each_from_map (IsSizedAt (e ∷ h) sps) (λ s. s.decoding_index) (buffer_of output h).frames
    (each_both (λ p. p < length h) (IsSizedAt h sps) (IsSizedAt (e ∷ h) sps) (indices_in (buffer_of output h))
    (λ p l old. subst (λ o. IfSome (planes_in o) (AreSized (width_in_mbs sps) (height_in_mbs sps))) (sym (entry_before e h p l)) old) low sized))

-- nothing is in the buffer before the first entry
none_emptied : (output : Output) (e : Entry) (h : History) → h ≡ [] → (emptied output e h).frames ≡ []
none_emptied output e h none = grind arith

abbrev IsSized : Output → History → Sps → Type 0
IsSized output h sps = Each (IsSizedAt h sps) (indices_in (buffer_of output h))

-- of an entry with the parameter set of its sequence
sized_in_sequence : (output : Output) (e : Entry) (h : History) → is_same_sps (sequence_sps h) (sps_of e) ≡ true →
    IfSome (planes_in (Some e)) (AreSized (width_in_mbs (sps_of e)) (height_in_mbs (sps_of e))) → Each (λ p. p < length h) (indices_in (buffer_of output h)) →
    IfSome (sequence_sps h) (IsSized output h) → IfSome (sequence_sps h) (IsSized output (e ∷ h))
sized_in_sequence output e h same own low sized =
    if_some (IsSized output h) (IsSized output (e ∷ h)) (sequence_sps h)
    (λ before is old.
    let sizes = same_from (sequence_sps h) before (sps_of e) is same in
    sized_after output (IsSizedAt (e ∷ h) before) e h (own_sized e h (width_in_mbs before) (height_in_mbs before) (rw (sizes.width, sizes.height) own))
    (old_sized output e h before low old))
    sized

pub still_sized : (output : Output) (e : Entry) (h : History) → Follows e h → Each (λ p. p < length h) (indices_in (buffer_of output h)) →
    IfSome (sequence_sps h) (IsSized output h) → IfSome (sequence_sps (e ∷ h)) (IsSized output (e ∷ h))
still_sized output (missing_frame sps frame_num) h follows low sized = sized_in_sequence output (missing_frame sps frame_num) h follows tt low sized
still_sized output (decoded_picture sps header info planes) h follows low sized = by (is_idr header) refl
  where
    e : Entry
    e = decoded_picture sps header info planes

    by : (idr : Bool) → is_idr header ≡ idr → IfSome (elim idr as (λ _. Option Sps) [ true ↦ Some sps | false ↦ sequence_sps h ]) (IsSized output (e ∷ h))
    by true idr =
        sized_after output (IsSizedAt (e ∷ h) sps) e h (own_sized e h (width_in_mbs sps) (height_in_mbs sps) follows.1)
        (subst (Each (λ s. IsSizedAt (e ∷ h) sps s.decoding_index)) (sym (none_emptied output e h (follows.2 idr))) tt)
    by false idr = sized_in_sequence output e h ((follows.0).same idr) follows.1 low sized

-- ---- the pictures that go out

pub output_is : (output : Output) (e : Entry) (h : History) (m : Marks) (prior out : List Picture) → prior ≡ filter_map (λ p. shown_frame (frame_at (e ∷ h) m.references p)) (bumped_output (buffer_of output h) (emptied output e h)) →
    out ≡ filter_map (λ p. shown_frame (frame_at (e ∷ h) m.references p)) (bumped_output (emptied output e h) (buffer_of output (e ∷ h))) → prior ++ out ≡ output_pictures output h (e ∷ h)
output_is output e h m prior out prior_is out_is =
    let shown : ℕ → Option Picture = λ p. shown_frame (frame_at (e ∷ h) m.references p) in
    ap₂ (λ l r. l ++ r) prior_is out_is
    ∙ sym (filter_map-append shown (bumped_output (buffer_of output h) (emptied output e h)) (bumped_output (emptied output e h) (buffer_of output (e ∷ h))))
    ∙ ap (filter_map shown) (sym (goes_out_in_turn output (length (arrivals h)) (arrival e h) (buffer_of output h)))
    ∙ pictures_are (e ∷ h) m.references (bumped_output (buffer_of output h) (buffer_of output (e ∷ h)))

-- ---- what the state of a frame buffer says of its frames, and the state once an entry's frame is stored: the frames of a state

pub few_frames : (h : History) (c : Contents) (idx : Option ℕ) (previous : ℕ) → IsStateAfter h c idx previous → length c.frames ≤ 16
few_frames h c idx previous s = grind (arith, length-map, holds_at_most)

-- a frame buffer that works holds no more, and no more are marked
pub few_needed : (i : FrameBuffer) → IsFrameBufferState i → i.failed ≡ false → length i.dpb.frames ≤ 16
few_needed i invariant on = few_frames (history_of i.history.items) i.dpb i.max_long_term_frame_idx i.prev_ref_frame_num (invariant on)

pub few_marked : (i : FrameBuffer) (frames : List (Frame 16)) (marked : List MarkedFrame) → IsFrameBufferState i → i.failed ≡ false → frames ≡ i.dpb.frames →
    marked ≡ map marked_frame frames → (length frames ≤ 16) × (length marked ≤ 16)
few_marked i frames marked invariant on is marked_is = rw (marked_is, length-map, is) (few_needed i invariant on, few_needed i invariant on)

-- marks for all frames that were there
pub marks_for_all : (kept frames : List (Frame 16)) (old new marked : List MarkedFrame) → frames ≡ kept → old ≡ map marked_frame frames
    → length new ≡ length old + 1 → marked ≡ new → length kept ≤ length marked
marks_for_all kept frames old new marked is old_is more same =
    let long : length old ≡ length kept = ap length old_is ∙ length-map frames marked_frame ∙ ap length is in
    rw same (omega (arith, more, long))

frames_are : (h : History) (c : Contents) (idx : Option ℕ) (previous : ℕ) (s : IsStateAfter h c idx previous) → c.frames ≡ map (frame_at h (s.marks).references) (indices_in (buffer_of c.output h))
frames_are h c idx previous s = (s.buffer).frames ∙ sym (map-map (frame_at h (s.marks).references) (λ t. t.decoding_index) (buffer_of c.output h).frames)

pub are_stored : (h : History) (c : Contents) (idx : Option ℕ) (previous : ℕ) → IsStateAfter h c idx previous → AreStoredIn h c.frames
are_stored h c idx previous s =
    let ps = indices_in (buffer_of c.output h) in
    let rs = (s.marks).references in
    let at = frame_at h rs in
    let frames = frames_are h c idx previous s in
    let references : references_at ps (map (λ p. marked_frame (at p)) ps) ≡ rs =
    ap (references_at ps) (sym (ap (map marked_frame) frames ∙ map-map marked_frame at ps)) ∙ s.references in
    record {
      indices = ps;
      stand = record {
        each = sym (length-map c.frames marked_frame ∙ ap length frames ∙ length-map ps at);
        rising = increasing ps (length h) (rise (buffer_of c.output h).frames (length h) (s.buffer).rising);
      };
      stored = ap (stored_at ps) frames ∙ stored_are h rs ps ∙ ap (map (stored h)) references ∙ ap (λ r. map (stored h) (or_no_references r)) (sym s.marked);
    }

pub are_frames : (h : History) (c : Contents) (idx : Option ℕ) (previous : ℕ) → IsStateAfter h c idx previous → AreFramesIn h c.frames
are_frames h c idx previous s =
    let ps = indices_in (buffer_of c.output h) in
    let rs = (s.marks).references in
    if_some (λ sps. Each (IsSizedAt h sps) ps) (λ sps. AreFrames (width_in_mbs sps) (height_in_mbs sps) c.frames) (sequence_sps h)
    (λ sps is sized.
    let P : Frame 16 → Type 0 = λ f. IfSome f.planes (AreSized (width_in_mbs sps) (height_in_mbs sps)) in
    record {
      few = few_frames h c idx previous s;
      sized = each_all P c.frames (subst (Each P) (sym (frames_are h c idx previous s))
          (each_map P (frame_at h rs) ps
          (each_implies (IsSizedAt h sps) (λ p. P (frame_at h rs p)) ps
          (λ p z. sized_frame (width_in_mbs sps) (height_in_mbs sps) (entry_at h p) (mark_in rs p) z) sized)));
    })
    s.sized

-- ---- what the arriving frame is

pub capacity_of : (sps : Sps) → sps.max_num_ref_frames ≤ 16 → dpb_size sps ≤ 16
capacity_of sps few = grind arith

room_of : (sps : Sps) → reference_limit sps ≤ dpb_size sps
room_of sps = grind arith

capacity_is : (e : Entry) (h : History) → (arrival e h).capacity ≡ dpb_size (sps_of e)
capacity_is e h = grind arith

not_index_of : (rs : List Reference) (n : ℕ) → Each (λ r. r.decoding_index < n) rs → is_index_of rs n ≡ false
not_index_of [] n h = refl
not_index_of (r ∷ rs) n h = grind (arith, nat_tests, not_index_of rs n h.1)

-- an entry whose frame is a reference frame is stored by making room for it
stored_by : (e : Entry) (h : History) (m m' : Marks) → Follows e h → Each (λ r. r.decoding_index < length h) m.references →
    marks_after (marking_entry e) (length h) (marking_entry e).marking m ≡ Ok m' → is_index_of m'.references (length h) ≡ true →
    ((arrival e h).is_reference || not (arrival e h).existing) ≡ true
stored_by (missing_frame sps frame_num) h m m' follows low after own = refl
stored_by (decoded_picture sps header info planes) h m m' follows low after own = ap (λ b. b || false) (by_marking header.marking refl)
  where
    same_marks : marks_after (marking_entry (decoded_picture sps header info planes)) (length h) None m ≡ Ok m' → m.references ≡ m'.references
    same_marks is = ap or_no_references is

    by_marking : (marking : Option Marking) → header.marking ≡ marking → is_reference header ≡ true
    by_marking (Some marking) is = sym (follows.0).reference ∙ ap is_some is
    by_marking None is =
        let same = same_marks (ap (λ x. marks_after (marking_entry (decoded_picture sps header info planes)) (length h) x m) (sym is) ∙ after) in
        wrong (sym (not_index_of m.references (length h) low) ∙ ap (λ rs. is_index_of rs (length h)) same ∙ own)

prior_stays : (e : Entry) (h : History) → unmarks_all (marking_entry e).marking ≡ false → (arrival e h).prior_pictures ≡ remain
prior_stays e h none = grind (arith, prior_remains)

-- ---- an entry's frame is stored

-- The frame of the entry is made of the last mark.
own_frame : (output : Output) (e : Entry) (h : History) (m : Marks) (marked : List MarkedFrame) → IsMarked output e h m marked → (k : ℕ) (d : MarkedFrame) → k + 1 ≡ length marked →
    frame_at (e ∷ h) m.references (length h) ≡ frame_of (Some e) (slice_index_or marked k d).mark
own_frame output e h m marked is k d last = grind (arith, length-append, length-map, entry_newest, last_mark)

-- An entry was marked and its frame stored.
pub record IsTaken (output : Output) (e : Entry) (h : History) (c : Contents) (idx : Option ℕ) (previous : ℕ) (prior out : List Picture) : Type 0 where
  pub ok : is_ok (marks_of (e ∷ h)) ≡ true
  pub state : IsStateAfter (e ∷ h) c idx previous
  pub kept : c.output ≡ output
  pub pictures : prior ++ out ≡ output_pictures output h (e ∷ h)

pub taken : (e : Entry) (h : History) (c : Contents) (idx : Option ℕ) (previous : ℕ) → IsStateAfter h c idx previous → Follows e h → IsSps (sps_of e) →
    (old new : List MarkedFrame) (new_idx : Option ℕ) → old ≡ map marked_frame c.frames → length new ≡ length old + 1 →
    MarksFrame (λ index. marks_after (marking_entry e) index (marking_entry e).marking) old idx (Ok tt) new new_idx →
    (after_marks after_prior after_store : Contents) → after_marks ≡ with_all_marks c new →
    (prior out : List Picture) → OutputsPrior (arrival e h).prior_pictures after_marks prior after_prior → after_prior.output ≡ after_marks.output →
    (frame : Frame 16) (k : ℕ) (d : MarkedFrame) → k + 1 ≡ length new → frame ≡ frame_of (Some e) (slice_index_or new k d).mark →
    (arriving : ArrivingFrame) → ((m : Marks) → marks_of (e ∷ h) ≡ Ok m → Arrives e h arriving m) →
    Stores after_prior frame arriving out after_store → after_store.output ≡ after_prior.output →
    (new_previous : ℕ) → new_previous ≡ prev_ref_frame_num (marking_entries (e ∷ h)) → IsTaken c.output e h after_store new_idx new_previous prior out
taken e h c idx previous s follows limits old new new_idx old_is long marks after_marks after_prior after_store set prior out outputs kept_prior frame k d last made arriving arrives_as stores kept_store new_previous previous_is =
    let n = length h in
    let m = marks_at (indices_in (buffer_of c.output h) ++ n ∷ []) new new_idx in
    let marked : marks_of (e ∷ h) ≡ Ok m = marked_then e h c idx previous s old new (Ok tt) new_idx old_is marks in
    let each : length new ≡ length c.frames + 1 = long ∙ ap (λ l. length l + 1) old_is ∙ ap (λ n. n + 1) (length-map c.frames marked_frame) in
    let is : IsMarked c.output e h m new = is_marked e h c idx previous s m new each marked refl in
    let arrives = arrives_as m marked in
    let rs = m.references in
    let at = frame_at (e ∷ h) rs in
    let needed_for_output : after_prior.output ≡ c.output = kept_prior ∙ ap (λ v. v.output) set in
    let same : after_store.output ≡ c.output = kept_store ∙ needed_for_output in
    let low = below (indices_in (buffer_of c.output h)) n (rise (buffer_of c.output h).frames n (s.buffer).rising) in
    let was = marked_buffer e h c idx previous s m new is after_marks set in
    let before = outputs (buffer_of c.output h) n at was in
    let own = own_frame c.output e h m new is k d last ∙ sym made in
    let has = stored_buffer c.output e h arriving m arrives after_prior after_store frame out before.buffer needed_for_output own stores in
    let after : marks_after (marking_entry e) n (marking_entry e).marking s.marks ≡ Ok m = sym (marks_then e h s.marks s.marked) ∙ marked in
    let old_below : Each (λ r. r.decoding_index < n) (s.marks).references = subst (Each (λ r. r.decoding_index < n)) s.references (each_index (λ p. p < n) (indices_in (buffer_of c.output h)) (map marked_frame c.frames) low) in
    let few = is_few e h s.marks m follows s.few after in
    let capacity : arriving.capacity ≡ dpb_size (sps_of e) = sym (ap (λ a. a.capacity) arrives) ∙ capacity_is e h in
    let limit : length rs ≤ arriving.capacity = omega (arith, few.1, room_of (sps_of e), capacity) in
    let within : (arrival e h).capacity ≤ 16 = subst (λ k. k ≤ 16) (sym (capacity_is e h)) (capacity_of (sps_of e) limits.references) in
    let stored : is_index_of rs n ≡ true → (arriving.is_reference || not arriving.existing) ≡ true =
    λ here. sym (ap (λ a. a.is_reference || not a.existing) arrives) ∙ stored_by e h s.marks m follows old_below after here in
    let next : n + 1 ≡ length (e ∷ h) = omega arith in
    record {
      ok = ap is_ok marked;
      state = record {
        marks = m;
        marked = marked;
        idx_is = refl;
        previous_is = previous_is;
        buffer = subst (λ o. IsBuffer after_store (buffer_of o (e ∷ h)) (length (e ∷ h)) at) (sym same)
            (subst (λ k. IsBuffer after_store (buffer_of c.output (e ∷ h)) k at) next has.buffer);
        references = subst (λ o. references_at (indices_in (buffer_of o (e ∷ h))) (map marked_frame after_store.frames) ≡ rs) (sym same)
            (stored_references c.output e h arriving m new arrives is (unmarks_all (marking_entry e).marking) is.alone (prior_stays e h) low stored limit after_prior after_store before.buffer has.buffer);
        few = few.0;
        within = (within, s.within);
        sized = subst (λ o. IfSome (sequence_sps (e ∷ h)) (λ sps. Each (IsSizedAt (e ∷ h) sps) (indices_in (buffer_of o (e ∷ h))))) (sym same)
            (still_sized c.output e h follows low s.sized);
      };
      kept = same;
      pictures = output_is c.output e h m prior out before.pictures has.pictures;
    }

-- ---- no history

pub empty_state : (output : Output) (items : List HistoryEntry) (c : Contents) → items ≡ [] → c ≡ record { slots = []; frames = []; output = output; failed = false } →
    ((frame_of : ℕ → Frame 16) → IsBuffer c empty_buffer 0 frame_of) → IsStateAfter (history_of items) c None 0
empty_state output items c none is buffer =
    let there : IsStateAfter [] c None 0 = record {
      marks = no_marks;
      marked = refl;
      idx_is = refl;
      previous_is = refl;
      buffer = buffer (frame_at [] []);
      references = ap (λ v. references_at [] (map marked_frame v.frames)) is;
      few = tt;
      within = tt;
      sized = tt;
    } in
    subst (λ items. IsStateAfter (history_of items) c None 0) (sym none) there

-- ---- all pictures go out

pub record IsForgotten (output : Output) (h : History) (c : Contents) (out : List Picture) : Type 0 where
  pub nothing : c ≡ record { slots = []; frames = []; output = output; failed = false }
  pub pictures : out ≡ held_pictures output h

pub emptied_all : (h : History) (c : Contents) (idx : Option ℕ) (previous : ℕ) → IsStateAfter h c idx previous → (out : List Picture) (new : Contents) →
    OutputsAll c out new → new.output ≡ c.output → IsForgotten c.output h new out
emptied_all h c idx previous s out new outputs kept =
    let rs = (s.marks).references in
    let b = buffer_of c.output h in
    let has = outputs b (length h) (frame_at h rs) s.buffer in
    record {
      nothing = ap₂ (λ slots frames. record new { slots = slots; frames = frames }) (has.buffer).slots (has.buffer).frames
          ∙ ap₂ (λ output failed. record { slots = []; frames = []; output = output; failed = failed }) kept (has.buffer).works;
      pictures = has.pictures ∙ ap (filter_map (λ p. shown_frame (frame_at h rs p))) (all_held_go_out b) ∙ pictures_are h rs (all_held c.output h);
    }

-- where none is needed for output, nothing goes out
pub holds_some : (h : History) (c : Contents) (idx : Option ℕ) (previous : ℕ) → IsStateAfter h c idx previous → OutputsSome c → held_pictures c.output h ≢ []
holds_some h c idx previous s some =
    let rs = (s.marks).references in
    let b = buffer_of c.output h in
    λ none. some b (length h) (frame_at h rs) s.buffer
    (ap (filter_map (λ p. shown_frame (frame_at h rs p))) (all_held_go_out b) ∙ pictures_are h rs (all_held c.output h) ∙ none)

pub no_buffer : (output : Output) (c : Contents) → c ≡ record { slots = []; frames = []; output = output; failed = false } → (frame_of : ℕ → Frame 16) → IsBuffer c empty_buffer 0 frame_of
no_buffer output c is frame_of = subst (λ c. IsBuffer c empty_buffer 0 frame_of) (sym is) (record { works = refl; slots = refl; frames = refl; rising = tt })

-- ---- what calls answer

pub answered : (r : Result (Unit {0}) Fault) (m : Marks) → r ≡ result_map (λ _. tt) (or_fault r m)
answered r m = grind arith

pub refused : (old new : FrameBufferState) (marked : Result Marks Fault) (f : Fault) {A : Type 0} (r : Result A PictureError) → r ≡ Err (Faulty f) →
    old.failed ≡ false → new ≡ old → marked ≡ Err f → IfErr r (λ error. Refuses old marked error new)
refused old new marked f r is going same fault = subst (λ r. IfErr r (λ error. Refuses old marked error new)) (sym is) (going, same, fault)

-- ---- an entry's frame is marked and stored, in the terms of the calls that do it

-- the frame that was made of the entry and its mark
pub frame_made : (e made_of : Entry) (marked there : List MarkedFrame) (frame : Frame 16) (k : ℕ) (d : MarkedFrame) → made_of ≡ e → there ≡ marked →
    frame ≡ frame_of (Some made_of) (slice_index_or there k d).mark → frame ≡ frame_of (Some e) (slice_index_or marked k d).mark
frame_made e made_of marked there frame k d same is made = made ∙ ap₂ (λ e ms. frame_of (Some e) (slice_index_or ms k d).mark) same is

-- ---- of a missing number

pub outputs_none : (c : Contents) → OutputsPrior remain c [] c
outputs_none c = λ b next frame is. record { buffer = is; pictures = ap (filter_map (λ p. shown_frame (frame p))) (sym (drop-length b.out)) }

-- what a call made of the buffer where all pictures go out, which operation 5 asks for
pub all_output : (five : Bool) (old new : Contents) (out : List Picture) → five ≡ true → OutputsAll old out new
    → OutputsPrior (if five then are_output else remain) old out new
all_output true old new out is outputs = outputs
all_output false old new out is outputs = wrong is

abbrev pub arrival_of_missing : (capacity : ℕ) → ArrivingFrame
arrival_of_missing capacity = record { pic_order_cnt = pos 0; existing = false; is_reference = true; capacity = capacity; max_num_reorder_frames = None }

pub missing_arrives : (sps : Sps) (frame_num : ℕ) (h : History) (capacity : ℕ) → capacity ≡ dpb_size sps → (m : Marks) → marks_of (missing_frame sps frame_num ∷ h) ≡ Ok m →
    Arrives (missing_frame sps frame_num) h (arrival_of_missing capacity) m
missing_arrives sps frame_num h capacity is m marked = grind arith

-- ---- of a picture

abbrev pub picture_arrival : (order : ℤ) (reference : Bool) (capacity : ℕ) (limit : Option ℕ) → ArrivingFrame
picture_arrival order reference capacity limit = record { pic_order_cnt = order; existing = true; is_reference = reference; capacity = capacity; max_num_reorder_frames = limit }

pub picture_arrives : (sps : Sps) (header : Header) (info : PictureInfo) (planes : Planes) (h : History) (order : ℤ) (reference : Bool) (capacity : ℕ) (limit : Option ℕ) → order ≡ order_or_0 (order_counts sps header (pasts h)) →
    reference ≡ is_reference header → capacity ≡ dpb_size sps → limit ≡ reorder_limit sps → (m : Marks) → marks_of (decoded_picture sps header info planes ∷ h) ≡ Ok m →
    Arrives (decoded_picture sps header info planes) h (picture_arrival order reference capacity limit) m
picture_arrives sps header info planes h order reference capacity limit order_is reference_is is limit_is m marked = grind arith

pub picture_previous : (sps : Sps) (header : Header) (info : PictureInfo) (planes : Planes) (h : History) (previous frame_num new_previous : ℕ) → previous ≡ prev_ref_frame_num (marking_entries h) →
    frame_num ≡ frame_num_after_marking (picture_entry sps header) → new_previous ≡ (if is_some header.marking then frame_num else previous) →
    new_previous ≡ prev_ref_frame_num (marking_entries (decoded_picture sps header info planes ∷ h))
picture_previous sps header info planes h previous frame_num new_previous previous_is number is = grind arith

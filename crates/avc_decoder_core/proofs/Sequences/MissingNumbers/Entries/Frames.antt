-- The frames of a history in the buffer: their marks, those that come, and those that stay.
pub mod Common
unfoldable pub use Common.*
use Rattle.avc_decoder_core.specs.History.{marking_entry}

-- ---- decoding indices of the history that rise

pub each_implies : {A : Type 0} (P Q : A → Type 0) (xs : List A) → ((x : A) → P x → Q x) → Each P xs → Each Q xs
each_implies P Q [] f h = h
each_implies P Q (x ∷ xs) f h = (f x h.0, each_implies P Q xs f h.1)

pub each_append : {A : Type 0} (P : A → Type 0) (xs ys : List A) → Each P xs → Each P ys → Each P (xs ++ ys)
each_append P [] ys h g = g
each_append P (x ∷ xs) ys h g = (h.0, each_append P xs ys h.1 g)

pub each_all : {A : Type 0} (P : A → Type 0) (xs : List A) → Each P xs → All P xs
each_all P [] h = All-nil P
each_all P (x ∷ xs) h = All-cons P x xs h.0 (each_all P xs h.1)

pub each_map : {A B : Type 0} (P : B → Type 0) (f : A → B) (xs : List A) → Each (λ x. P (f x)) xs → Each P (map f xs)
each_map P f [] h = tt
each_map P f (x ∷ xs) h = (h.0, each_map P f xs h.1)

pub each_from_map : {A B : Type 0} (P : B → Type 0) (f : A → B) (xs : List A) → Each P (map f xs) → Each (λ x. P (f x)) xs
each_from_map P f [] h = tt
each_from_map P f (x ∷ xs) h = (h.0, each_from_map P f xs h.1)

pub each_filter : {A : Type 0} (P : A → Type 0) (test : A → Bool) (xs : List A) → Each P xs → Each P (filter test xs)
each_filter P test [] h = tt
each_filter P test (x ∷ xs) h = grind (arith, each_filter P test xs h.1)

-- they rise, and all are below n
abbrev pub Rise : List ℕ → (n : ℕ) → Type 0
Rise [] n = Unit {0}
Rise (p ∷ ps) n = (p < n) × Each (λ q. p < q) ps × Rise ps n

above : (p q : ℕ) → p < q → (ps : List ℕ) → Each (λ r. q < r) ps → Each (λ r. p < r) ps
above p q low ps h = each_implies (λ r. q < r) (λ r. p < r) ps (λ r higher. omega (arith, low, higher)) h

pub rise : (frames : List Stored) (n : ℕ) → IsRising frames n → Rise (map (λ s. s.decoding_index) frames) n
rise [] n h = h
rise (s ∷ []) n h = (h, tt, tt)
rise (s ∷ t ∷ frames) n h =
    let rest = rise (t ∷ frames) n h.1 in
    (omega (arith, h.0, rest.0), (h.0, above s.decoding_index t.decoding_index h.0 (map (λ s. s.decoding_index) frames) rest.1), rest)

pub below : (ps : List ℕ) (n : ℕ) → Rise ps n → Each (λ p. p < n) ps
below [] n h = h
below (p ∷ ps) n h = (h.0, below ps n h.2)

-- one decoding index more
pub rise_more : (ps : List ℕ) (n m : ℕ) → n < m → Rise ps n → Rise (ps ++ n ∷ []) m
rise_more [] n m low h = (low, tt, tt)
rise_more (p ∷ ps) n m low h = (omega (arith, low, h.0), each_append (λ q. p < q) ps (n ∷ []) h.1 (h.0, tt), rise_more ps n m low h.2)

increasing-cons : (p : ℕ) (qs : List ℕ) → Each (λ q. p < q) qs → IsStrictlyIncreasing qs → IsStrictlyIncreasing (p ∷ qs)
increasing-cons p [] h rising = λ k within. absurd (omega (arith, within))
increasing-cons p (q ∷ qs) h rising = by_place
  where
    by_place : (k : ℕ) → k + 1 < length (p ∷ q ∷ qs) → slice_index (p ∷ q ∷ qs) k < slice_index (p ∷ q ∷ qs) (k + 1)
    by_place zero within = h.0
    by_place (suc k) within = let more = rising k (omega (arith, within)) in grind (arith, more)

pub increasing : (ps : List ℕ) (n : ℕ) → Rise ps n → IsStrictlyIncreasing ps
increasing [] n h = λ k within. absurd (omega (arith, within))
increasing (p ∷ ps) n h = increasing-cons p ps h.1 (increasing ps n h.2)

-- ---- the reference frames among frames of the buffer

abbrev pub indices_of : List Reference → List ℕ
indices_of references = map (λ r. r.decoding_index) references

abbrev pub is_index_of : List Reference → (index : ℕ) → Bool
is_index_of references index = list_any (λ r. r == index) (indices_of references)

-- ---- the decoding indices of reference frames

pub is_index_of_marked : (rs : List Reference) (p : ℕ) → is_some (mark_in rs p) ≡ is_index_of rs p
is_index_of_marked [] p = refl
is_index_of_marked (r ∷ rs) p = grind (arith, is_index_of_marked rs p)

-- an entry among frames and others
pub is_index_of-append : (xs ys : List Reference) (p : ℕ) → is_index_of (xs ++ ys) p ≡ (is_index_of xs p || is_index_of ys p)
is_index_of-append [] ys p = refl
is_index_of-append (x ∷ xs) ys p = grind (arith, is_index_of-append xs ys p)

-- ---- the reference frames of rising decoding indices

-- what holds of all decoding indices holds of the entries
pub each_index : (P : ℕ → Type 0) (ps : List ℕ) (fs : List MarkedFrame) → Each P ps → Each (λ r. P r.decoding_index) (references_at ps fs)
each_index P [] fs h = tt
each_index P (p ∷ ps) [] h = tt
each_index P (p ∷ ps) (f ∷ fs) h = grind (arith, each_index P ps fs h.1)

-- no reference frame stands with a decoding index below all of them
unmarked_below : (rs : List Reference) (p : ℕ) → Each (λ r. p < r.decoding_index) rs → mark_in rs p ≡ None
unmarked_below [] p h = refl
unmarked_below (r ∷ rs) p h = grind (arith, nat_tests, unmarked_below rs p h.1)

-- The mark at each decoding index is that of its frame.
pub marks_are : (ps : List ℕ) (n : ℕ) (fs : List MarkedFrame) → Rise ps n → length ps ≡ length fs → map (mark_in (references_at ps fs)) ps ≡ map (λ f. f.mark) fs
marks_are [] n [] rise long = refl
marks_are [] n (f ∷ fs) rise long = absurd (omega (arith, long))
marks_are (p ∷ ps) n [] rise long = absurd (omega (arith, long))
marks_are (p ∷ ps) n (f ∷ fs) rise long = ap₂ (λ m ms. m ∷ ms) first (later ps rise.1 ∙ marks_are ps n fs rise.2 (omega (arith, long)))
  where
    first : mark_in (references_at (p ∷ ps) (f ∷ fs)) p ≡ f.mark
    first = let none = unmarked_below (references_at ps fs) p (each_index (λ q. p < q) ps fs rise.1) in grind (arith, nat_tests, none)

    later : (qs : List ℕ) → Each (λ q. p < q) qs → map (mark_in (references_at (p ∷ ps) (f ∷ fs))) qs ≡ map (mark_in (references_at ps fs)) qs
    later [] h = refl
    later (q ∷ qs) h = grind (arith, nat_tests, later qs h.1)

-- ---- frames that are given by their decoding indices

-- the reference frames are those decoding indices that are marked
pub references_by : (frame : ℕ → MarkedFrame) (ps : List ℕ) →
    references_at ps (map frame ps) ≡ map (λ p. reference_of p (frame p)) (filter (λ p. is_some (frame p).mark) ps)
references_by frame [] = refl
references_by frame (p ∷ ps) = grind (arith, references_by frame ps)

-- the same number, and both or neither a picture
pub record IsOf (frame : ℕ → MarkedFrame) (r : Reference) : Type 0 where
  pub frame_num : r.frame_num ≡ (frame r.decoding_index).frame_num
  pub existing : r.existing ≡ (frame r.decoding_index).existing

-- Frames whose marks and numbers are those of their decoding indices may stand for them.
pub same_references : (frame : ℕ → MarkedFrame) (ps : List ℕ) (fs : List MarkedFrame) → length ps ≡ length fs →
    map (λ p. (frame p).mark) ps ≡ map (λ f. f.mark) fs → Each (IsOf frame) (references_at ps fs) → references_at ps fs ≡ references_at ps (map frame ps)
same_references frame [] [] long marks each = refl
same_references frame [] (f ∷ fs) long marks each = absurd (omega (arith, long))
same_references frame (p ∷ ps) [] long marks each = absurd (omega (arith, long))
same_references frame (p ∷ ps) (f ∷ fs) long marks each = grind (arith, same_references frame ps fs (omega (arith, long)))

-- what holds of the frame of each decoding index
pub each_reference : (Q : Reference → Type 0) (frame : ℕ → MarkedFrame) (ps : List ℕ) → Each (λ p. Q (reference_of p (frame p))) ps → Each Q (references_at ps (map frame ps))
each_reference Q frame [] h = tt
each_reference Q frame (p ∷ ps) h = grind (arith, each_reference Q frame ps h.1)

-- ---- tests that agree

pub same_filter : {A : Type 0} (p q : A → Bool) (xs : List A) → ((x : A) → p x ≡ q x) → filter p xs ≡ filter q xs
same_filter p q [] same = refl
same_filter p q (x ∷ xs) same = grind (arith, same x, same_filter p q xs same)

pub filter_map_indices : {A B : Type 0} (f : A → B) (p : B → Bool) (xs : List A) → filter p (map f xs) ≡ map f (filter (λ x. p (f x)) xs)
filter_map_indices f p [] = refl
filter_map_indices f p (x ∷ xs) = grind (arith, filter_map_indices f p xs)

pub no_filter : {A : Type 0} (p : A → Bool) (xs : List A) → Each (λ x. p x ≡ false) xs → filter p xs ≡ []
no_filter p [] h = refl
no_filter p (x ∷ xs) h = grind (arith, no_filter p xs h.1)

-- no reference frame has an entry that all of them differ from
pub no_index_of : (rs : List Reference) (n p : ℕ) → p < n → Each (λ r. r.decoding_index ≡ n) rs → is_index_of rs p ≡ false
no_index_of [] n p low h = refl
no_index_of (r ∷ rs) n p low h = grind (arith, nat_tests, no_index_of rs n p low h.1)

-- ---- the frames of a history, as the buffer stores them: of an entry

pub mark_is : (e : Option Entry) (m : Option Mark) → (frame_of e m).mark ≡ m
mark_is e m = grind arith

pub remarked : (e : Option Entry) (m n : Option Mark) → record (frame_of e m) { mark = n } ≡ frame_of e n
remarked e m n = grind arith

planes_are : (e : Option Entry) (m : Option Mark) → (frame_of e m).planes ≡ planes_in e
planes_are e m = grind arith

pub sized_frame : (width height : ℕ) (e : Option Entry) (m : Option Mark) → IfSome (planes_in e) (AreSized width height) →
    IfSome (frame_of e m).planes (AreSized width height)
sized_frame width height e m h = grind arith

shown_one : (e : Option Entry) (m : Option Mark) → (l : List _) → cons_option (shown_frame (frame_of e m)) l ≡ entry_pictures e ++ l
shown_one e m l = grind arith

-- ---- the entries of a history with one entry more

pub entry_before : (e : Entry) (h : History) (p : ℕ) → p < length h → entry_at (e ∷ h) p ≡ entry_at h p
entry_before e h p low = by (length h - p) (length (e ∷ h) - p) (omega (arith, low)) (omega (arith, low))
  where
    entry_in : History → ℕ → Option Entry
    entry_in l d = elim d [ zero ↦ None | suc n ↦ slice_get l n ]

    by : (d more : ℕ) → more ≡ suc d → 0 < d → entry_in (e ∷ h) more ≡ entry_in h d
    by zero more is some = absurd (omega (arith, some))
    by (suc d) more is some = ap (entry_in (e ∷ h)) is

pub entry_newest : (e : Entry) (h : History) → entry_at (e ∷ h) (length h) ≡ Some e
entry_newest e h = grind arith

-- ---- the frames with decoding indices

-- the pictures that go out
pub pictures_are : (h : History) (references : List Reference) (ps : List ℕ) → filter_map (λ p. shown_frame (frame_at h references p)) ps ≡ pictures_at h ps
pictures_are h references [] = refl
pictures_are h references (p ∷ ps) =
    ap (cons_option (shown_frame (frame_at h references p))) (pictures_are h references ps) ∙ shown_one (entry_at h p) (mark_in references p) (pictures_at h ps)

-- which are reference frames
pub referenced_is : (h : History) (references : List Reference) (p : ℕ) → is_some (frame_at h references p).mark ≡ is_index_of references p
referenced_is h references p = ap is_some (mark_is (entry_at h p) (mark_in references p)) ∙ is_index_of_marked references p

pub referenced_are : (h : History) (references : List Reference) (frames : List Stored) →
    map (λ f. is_some f.mark) (map (λ s. frame_at h references s.decoding_index) frames) ≡ map (is_reference_in (indices_of references)) frames
referenced_are h references [] = refl
referenced_are h references (s ∷ frames) = ap₂ (λ b bs. b ∷ bs) (referenced_is h references s.decoding_index) (referenced_are h references frames)

-- the reference frames with their planes
stored_one : (h : History) (references : List Reference) (p : ℕ) → stored_frame p (frame_at h references p) ≡ stored h (reference_of p (marked_frame (frame_at h references p)))
stored_one h references p = grind (arith, planes_are)

pub stored_are : (h : History) (references : List Reference) (ps : List ℕ) →
    stored_at ps (map (frame_at h references) ps) ≡ map (stored h) (references_at ps (map (λ p. marked_frame (frame_at h references p)) ps))
stored_are h references [] = refl
stored_are h references (p ∷ ps) = grind (arith, stored_one h references p, stored_are h references ps)

-- ---- new marks

-- The stored frames with their new marks are those of the history with one entry more.
pub marked_again : (e : Entry) (h : History) (old new : List Reference) (ps later : List ℕ) (marked : List MarkedFrame) → Each (λ p. p < length h) ps →
    map (mark_in new) (ps ++ later) ≡ map (λ f. f.mark) marked → with_marks (map (frame_at h old) ps) marked ≡ map (frame_at (e ∷ h) new) ps
marked_again e h old new [] later marked low marks = refl
marked_again e h old new (p ∷ ps) later [] low marks = cc
marked_again e h old new (p ∷ ps) later (m ∷ marked) low marks =
    let first : mark_in new p ≡ m.mark = cc in
    let rest : map (mark_in new) (ps ++ later) ≡ map (λ f. f.mark) marked = cc in
    ap₂ (λ f fs. f ∷ fs)
    (remarked (entry_at h p) (mark_in old p) m.mark ∙ ap₂ frame_of (sym (entry_before e h p low.0)) (sym first))
    (marked_again e h old new ps later marked low.1 rest)

-- the mark of the frame that has come last
pub last_mark : (new : List Reference) (ps : List ℕ) (n k : ℕ) (marked : List MarkedFrame) (d : MarkedFrame) → k ≡ length ps →
    map (mark_in new) (ps ++ n ∷ []) ≡ map (λ f. f.mark) marked → (slice_index_or marked k d).mark ≡ mark_in new n
last_mark new [] n k [] d last marks = cc
last_mark new (p ∷ ps) n k [] d last marks = cc
last_mark new [] n zero (m ∷ marked) d last marks = cc
last_mark new [] n (suc k) (m ∷ marked) d last marks = absurd (omega (arith, last))
last_mark new (p ∷ ps) n zero (m ∷ marked) d last marks = absurd (omega (arith, last))
last_mark new (p ∷ ps) n (suc k) (m ∷ marked) d last marks = last_mark new ps n k marked d (omega (arith, last)) (cc)

-- ---- an entry comes: the marks and the buffer of the longer history: the marks

pub marks_then : (e : Entry) (h : History) (m : Marks) → marks_of h ≡ Ok m → marks_of (e ∷ h) ≡ marks_after (marking_entry e) (length h) (marking_entry e).marking m
marks_then e h m is = grind (arith, length-map)

stand_before : (h : History) (c : Contents) (b : Buffer) (frame : ℕ → Frame 16) (old : List MarkedFrame) → IsBuffer c b (length h) frame →
    old ≡ map marked_frame c.frames → StandBefore (indices_in b) (length h) old
stand_before h c b frame old buffer is = record {
  each = length-map b.frames (λ s. s.decoding_index) ∙ sym (ap length is ∙ length-map c.frames marked_frame ∙ ap length buffer.frames ∙ length-map b.frames (λ s. frame s.decoding_index));
  rising = increasing (indices_in b ++ length h ∷ []) (length h + 1) (rise_more (indices_in b) (length h) (length h + 1) (omega arith) (rise b.frames (length h) buffer.rising));
}

-- The marks of the longer history are those of the frames, or there is the fault.
pub marked_then : (e : Entry) (h : History) (c : Contents) (idx : Option ℕ) (previous : ℕ) (s : IsStateAfter h c idx previous)
    (old new : List MarkedFrame) (r : Result (Unit {0}) Fault) (new_idx : Option ℕ) → old ≡ map marked_frame c.frames →
    MarksFrame (λ index. marks_after (marking_entry e) index (marking_entry e).marking) old idx r new new_idx →
    marks_of (e ∷ h) ≡ or_fault r (marks_at (indices_in (buffer_of c.output h) ++ length h ∷ []) new new_idx)
marked_then e h c idx previous s old new r new_idx is marks = grind (arith, marks_then, stand_before)

-- The marks with the entry, where `marked` are the frames of the buffer and the entry's own.
pub record IsMarked (output : Output) (e : Entry) (h : History) (m : Marks) (marked : List MarkedFrame) : Type 0 where
  pub marks_is : marks_of (e ∷ h) ≡ Ok m
  pub marks : map (mark_in m.references) (indices_in (buffer_of output h) ++ length h ∷ []) ≡ map (λ f. f.mark) marked
  pub references : m.references ≡ references_at (indices_in (buffer_of output h) ++ length h ∷ []) (map (λ p. marked_frame (frame_at (e ∷ h) m.references p)) (indices_in (buffer_of output h) ++ length h ∷ []))
  pub alone : unmarks_all (marking_entry e).marking ≡ true → Each (λ r. r.decoding_index ≡ length h) m.references
  pub below : Each (λ r. r.decoding_index < length h + 1) m.references

-- what holds of the frames before holds of those that an entry leaves
pub part_each : (Q : Reference → Type 0) → ((r s : Reference) → IsSameFrame r s → Q s → Q r) → (new old : List Reference) → IsPartUpToMarks new old → Each Q old → Each Q new
part_each Q same [] old part h = tt
part_each Q same (r ∷ new) [] part h = absurd part
part_each Q same (r ∷ new) (s ∷ old) part h = grind (arith, same, part_each Q same new old, part_each Q same (r ∷ new) old)

-- the frame with a decoding index is that of its reference frame, which had this number before
own_is_of : (e : Entry) (h : History) (rs : List Reference) →
    IsOf (λ p. marked_frame (frame_at (e ∷ h) rs p)) (current_frame (marking_entry e) (length h) Short)
own_is_of e h rs = let at = entry_newest e h in grind (arith, at)

old_is_of : (e : Entry) (h : History) (rs old : List Reference) (p : ℕ) → p < length h →
    IsOf (λ p. marked_frame (frame_at (e ∷ h) rs p)) (reference_of p (marked_frame (frame_at h old p)))
old_is_of e h rs old p low = let at = entry_before e h p low in grind (arith, at)

same_of : (frame : ℕ → MarkedFrame) (r s : Reference) → IsSameFrame r s → IsOf frame s → IsOf frame r
same_of frame r s same h = grind arith

pub is_marked : (e : Entry) (h : History) (c : Contents) (idx : Option ℕ) (previous : ℕ) (s : IsStateAfter h c idx previous)
    (m : Marks) (new : List MarkedFrame) → length new ≡ length c.frames + 1 → marks_of (e ∷ h) ≡ Ok m →
    m.references ≡ references_at (indices_in (buffer_of c.output h) ++ length h ∷ []) new → IsMarked c.output e h m new
is_marked e h c idx previous s m new long is references =
    let n = length h in
    let b = buffer_of c.output h in
    let ps = indices_in b in
    let qs = ps ++ n ∷ [] in
    let frame : ℕ → MarkedFrame = λ p. marked_frame (frame_at (e ∷ h) m.references p) in
    let before : ℕ → MarkedFrame = λ p. marked_frame (frame_at h (s.marks).references p) in
    let own = current_frame (marking_entry e) n Short in
    let rising = rise b.frames n (s.buffer).rising in
    let each : length qs ≡ length new =
    length-append ps (n ∷ []) ∙ ap (λ k. k + 1) (length-map b.frames (λ s. s.decoding_index) ∙ sym (ap length (s.buffer).frames ∙ length-map b.frames (λ t. frame_at h (s.marks).references t.decoding_index))) ∙ sym long in
    let marks : map (mark_in m.references) qs ≡ map (λ f. f.mark) new =
    ap (λ rs. map (mark_in rs) qs) references ∙ marks_are qs (n + 1) new (rise_more ps n (n + 1) (omega arith) rising) each in
    let after : marks_after (marking_entry e) n (marking_entry e).marking s.marks ≡ Ok m = sym (marks_then e h s.marks s.marked) ∙ is in
    let old : references_at ps (map before ps) ≡ (s.marks).references =
    ap (references_at ps) (map-map before (λ t. t.decoding_index) b.frames ∙ sym (ap (map marked_frame) (s.buffer).frames ∙ map-map marked_frame (λ t. frame_at h (s.marks).references t.decoding_index) b.frames)) ∙ s.references in
    let indices_below : Each (λ r. r.decoding_index < n) (s.marks).references = subst (Each (λ r. r.decoding_index < n)) old (each_index (λ p. p < n) ps (map before ps) (below ps n rising)) in
    let part = adds_own_frame_alone (marking_entry e) n s.marks m (each_all (λ r. r.decoding_index < n) (s.marks).references indices_below) after in
    let of_old : Each (IsOf frame) (s.marks).references =
    subst (Each (IsOf frame)) old (each_reference (IsOf frame) before ps
    (each_implies (λ p. p < n) (λ p. IsOf frame (reference_of p (before p))) ps (old_is_of e h m.references (s.marks).references) (below ps n rising))) in
    let of_own : IsOf frame own = own_is_of e h m.references in
    let of : Each (IsOf frame) m.references = part_each (IsOf frame) (same_of frame) m.references ((s.marks).references ++ own ∷ []) part (each_append (IsOf frame) (s.marks).references (own ∷ []) of_old (of_own, tt)) in
    let near : Each (λ r. r.decoding_index < n + 1) (s.marks).references = each_implies (λ r. r.decoding_index < n) (λ r. r.decoding_index < n + 1) (s.marks).references (λ r low. omega (arith, low)) indices_below in
    record {
      marks_is = is;
      marks = marks;
      references = references ∙ same_references frame qs new each (same_marks (e ∷ h) m.references qs ∙ marks) (subst (Each (IsOf frame)) references of);
      alone = λ all. part_each (λ r. r.decoding_index ≡ n) (λ r t same at. same.same_decoding_index ∙ at) m.references (own ∷ [])
          (leaves_own_frame_alone (marking_entry e) n s.marks m all after) (refl, tt);
      below = part_each (λ r. r.decoding_index < n + 1) (λ r t same low. subst (λ k. k < n + 1) (sym same.same_decoding_index) low) m.references ((s.marks).references ++ own ∷ []) part
          (each_append (λ r. r.decoding_index < n + 1) (s.marks).references (own ∷ []) near (omega arith, tt));
    }
  where
    same_marks : (h : History) (references : List Reference) (qs : List ℕ) → map (λ p. (marked_frame (frame_at h references p)).mark) qs ≡ map (mark_in references) qs
    same_marks h references [] = refl
    same_marks h references (q ∷ qs) = ap₂ (λ x xs. x ∷ xs) (mark_is (entry_at h q) (mark_in references q)) (same_marks h references qs)

-- ---- the frames that are in the buffer once an entry has come were there before, but for its own

abbrev Stored_each : (ℕ → Type 0) → List Stored → Type 0
Stored_each P frames = Each (λ s. P s.decoding_index) frames

each_not_needed : (P : ℕ → Type 0) (first : Stored) (frames : List Stored) → Stored_each P frames → Stored_each P (map (no_longer_needed first) frames)
each_not_needed P first [] h = tt
each_not_needed P first (s ∷ frames) h = grind (arith, each_not_needed P first frames h.1)

bumped : (P : ℕ → Type 0) (references : List ℕ) (b : Buffer) → Stored_each P b.frames → Stored_each P (after_bumping references b).frames
bumped P references b h = grind (arith, each_filter, each_not_needed)

bumped_while : (P : ℕ → Type 0) (test : Buffer → Bool) (references : List ℕ) (n : ℕ) (b : Buffer) → Stored_each P b.frames → Stored_each P (after_bumping_while test references n b).frames
bumped_while P test references zero b h = h
bumped_while P test references (suc n) b h = grind (arith, bumped_while P test references n (after_bumping references b) (bumped P references b h))

placed_by_room : (P : ℕ → Type 0) (t : Bool) (index : ℕ) (a : Arrival) (b : Buffer) → P index → Stored_each P b.frames →
    Stored_each P (if t then with_direct_output index a b else with_frame index a b).frames
placed_by_room P true index a b own h = h
placed_by_room P false index a b own h = each_append (λ s. P s.decoding_index) b.frames _ h (own, tt)

-- what holds of the decoding indices before, and of the entry's own
pub each_after_frame : (P : ℕ → Type 0) (output : Output) (index : ℕ) (a : Arrival) (b : Buffer) → P index → Stored_each P b.frames →
    Stored_each P (after_frame output index a b).frames
each_after_frame P output index a b own h = search (rules, bumped_while, placed_by_room, is_full, each_filter)

pub each_prior : (P : ℕ → Type 0) (prior : PriorPictures) (b : Buffer) → Stored_each P b.frames → Stored_each P (after_prior_pictures prior b).frames
each_prior P remain b h = h
each_prior P are_output b h = tt

-- ---- each frame gets its new mark

abbrev pub frame_marked : Frame 16 → Option Mark → Frame 16
frame_marked f mark = record f { mark = mark }

pub length-with_marks : (fs : List (Frame 16)) (ms : List MarkedFrame) → length (with_marks fs ms) ≡ length fs
length-with_marks [] ms = refl
length-with_marks (f ∷ fs) [] = refl
length-with_marks (f ∷ fs) (m ∷ ms) = ap suc (length-with_marks fs ms)

with_no_marks : (fs : List (Frame 16)) → with_marks fs [] ≡ fs
with_no_marks [] = refl
with_no_marks (f ∷ fs) = refl

pub no_marks_set : (c : Contents) → c ≡ with_all_marks c []
no_marks_set c = ap (λ fs. record c { frames = fs }) (sym (with_no_marks c.frames))

one_more : (fs : List (Frame 16)) (ms : List MarkedFrame) (i : ℕ) (d : MarkedFrame) → i < length fs → i < length ms →
    changed_at (λ f. frame_marked f (slice_index_or ms i d).mark) (with_marks fs (take i ms)) i ≡ with_marks fs (take (suc i) ms)
one_more [] ms i d low low' = absurd (omega (arith, low))
one_more (f ∷ fs) [] i d low low' = absurd (omega (arith, low'))
one_more (f ∷ fs) (m ∷ ms) zero d low low' = ap (λ l. frame_marked f m.mark ∷ l) (sym (with_no_marks fs))
one_more (f ∷ fs) (m ∷ ms) (suc i) d low low' = ap (λ l. frame_marked f m.mark ∷ l) (one_more fs ms i d (omega (arith, low)) (omega (arith, low')))

pub marks_more : (c : Contents) (ms : List MarkedFrame) (i : ℕ) (d : MarkedFrame) (now new : Contents) → i < length c.frames → i < length ms →
    now ≡ with_all_marks c (take i ms) → new ≡ with_mark now i (slice_index_or ms i d).mark → new ≡ with_all_marks c (take (i + 1) ms)
marks_more c ms i d now new low low' is set =
    let next : suc i ≡ i + 1 = omega arith in
    set ∙ ap (λ v. with_mark v i (slice_index_or ms i d).mark) is
    ∙ ap (λ fs. record c { frames = fs }) (one_more c.frames ms i d low low' ∙ ap (λ n. with_marks c.frames (take n ms)) next)

all_marks : (fs : List (Frame 16)) (ms : List MarkedFrame) (n : ℕ) → length fs ≤ n → with_marks fs (take n ms) ≡ with_marks fs ms
all_marks [] ms n all = refl
all_marks (f ∷ fs) ms zero all = absurd (omega (arith, all))
all_marks (f ∷ fs) [] (suc n) all = refl
all_marks (f ∷ fs) (m ∷ ms) (suc n) all = ap (λ l. frame_marked f m.mark ∷ l) (all_marks fs ms n (omega (arith, all)))

pub all_marks_set : (c now : Contents) (ms : List MarkedFrame) (n : ℕ) → length c.frames ≤ n → now ≡ with_all_marks c (take n ms) → now ≡ with_all_marks c ms
all_marks_set c now ms n all is = is ∙ ap (λ fs. record c { frames = fs }) (all_marks c.frames ms n all)

pub length-all_marks : (c now : Contents) (ms : List MarkedFrame) → now ≡ with_all_marks c ms → length now.frames ≡ length c.frames
length-all_marks c now ms is = ap (λ v. length v.frames) is ∙ length-with_marks c.frames ms

-- ---- where the buffer's frames pass the test for a settled window: the reference frames among the buffer's frames

-- those of these frames, where `at` is the frame of each decoding index
abbrev references_in : (at : ℕ → Frame 16) → List Stored → List Reference
references_in at ts = references_at (map (λ s. s.decoding_index) ts) (map (λ s. marked_frame (at s.decoding_index)) ts)

references_apart : (at : ℕ → Frame 16) (ts us : List Stored) → references_in at (ts ++ us) ≡ references_in at ts ++ references_in at us
references_apart at [] us = refl
references_apart at (s ∷ ts) us = grind (arith, references_apart at ts us)

-- ---- what the test says of each frame

abbrev test_of : (at : ℕ → Frame 16) → (first low max place : ℕ) → Option Stored → Bool
test_of at first low max place o = elim o [ None ↦ false | Some s ↦ has_its_place first low max place s.needed_for_output (at s.decoding_index) ]

abbrev AllPass : (at : ℕ → Frame 16) → (first low max : ℕ) → List Stored → Type 0
AllPass at first low max ts = (p : ℕ) → p < length ts → test_of at first low max p (slice_get ts p) ≡ true

-- a frame that leaves
record IsLeaving (low max : ℕ) (needed_for_output : Bool) (f : Frame 16) : Type 0 where
  short : f.mark ≡ Some Short
  not_needed : needed_for_output ≡ false
  number : f.frame_num ≡ low % max

leaving : (low max : ℕ) (needed_for_output : Bool) (f : Frame 16) → has_its_place 0 low max 0 needed_for_output f ≡ true → IsLeaving low max needed_for_output f
leaving low max needed_for_output f e = grind (arith, nat_tests)

-- the others
rest_leaving : (at : ℕ → Frame 16) (low max : ℕ) (s : Stored) (ts : List Stored) → AllPass at 0 low max (s ∷ ts) → AllPass at 0 (low + 1) max ts
rest_leaving at low max s ts all = λ p within. let h = all (suc p) (omega (arith, within)) in grind (arith, nat_tests, h)

rest_staying : (at : ℕ → Frame 16) (first low max : ℕ) (s : Stored) (ts : List Stored) → AllPass at (suc first) low max (s ∷ ts) → AllPass at first low max ts
rest_staying at first low max s ts all = λ p within. let h = all (suc p) (omega (arith, within)) in grind (arith, nat_tests, h)

-- ---- the frames that leave

record AreLeaving (max low number index next : ℕ) (shorts : List Reference) (ts : List Stored) : Type 0 where
  indices : StandFrom index next shorts
  counts : CountFrom max low number shorts
  not_needed : AreNotNeeded shorts ts
  many : length shorts ≡ length ts

are_leaving : (at : ℕ → Frame 16) (max low number index next : ℕ) (ts : List Stored) → low + length ts ≡ number → index ≤ next →
    Each (λ p. index ≤ p) (map (λ s. s.decoding_index) ts) → Rise (map (λ s. s.decoding_index) ts) next →
    AllPass at 0 low max ts → AreLeaving max low number index next (references_in at ts) ts
are_leaving at max low number index next [] last less above rises all = record { indices = less; counts = omega arith; not_needed = tt; many = refl }
are_leaving at max low number index next (s ∷ ts) last less above rises all =
    let here = leaving low max s.needed_for_output (at s.decoding_index) (all 0 (omega arith)) in
    let rest = are_leaving at max (low + 1) number (s.decoding_index + 1) next ts (omega (arith, last)) (omega (arith, rises.0))
    (each_implies (λ p. s.decoding_index < p) (λ p. s.decoding_index + 1 ≤ p) (map (λ s. s.decoding_index) ts) (λ p l. omega (arith, l)) rises.1) rises.2 (rest_leaving at low max s ts all) in
    let own : Reference = record { decoding_index = s.decoding_index; frame_num = (at s.decoding_index).frame_num; existing = is_some (at s.decoding_index).planes; mark = Short } in
    let first : references_in at (s ∷ ts) ≡ own ∷ references_in at ts = grind (arith, here) in
    subst (λ rs. AreLeaving max low number index next rs (s ∷ ts)) (sym first) (record {
      indices = (above.0, rest.indices);
      counts = (low, (omega arith, record { frame_num = here.number; short = refl }, rest.counts));
      not_needed = (refl, here.not_needed, rest.not_needed);
      many = ap suc rest.many;
    })

-- ---- the frames that stay

abbrev AreStaying : (at : ℕ → Frame 16) → List Stored → Type 0
AreStaying at ts = Each (λ s. is_staying s.needed_for_output (at s.decoding_index).mark ≡ true) ts

no_shorts : (at : ℕ → Frame 16) (ts : List Stored) → AreStaying at ts → filter is_short (references_in at ts) ≡ []
no_shorts at [] h = refl
no_shorts at (s ∷ ts) h = grind (arith, no_shorts at ts h.1)

longs_before : (at : ℕ → Frame 16) (index : ℕ) (ts : List Stored) → AreBefore index ts → StandBelow index (references_in at ts)
longs_before at index [] h = tt
longs_before at index (s ∷ ts) h = grind (arith, longs_before at index ts h.1)

-- they are needed for output, or among these reference frames
all_needed : (at : ℕ → Frame 16) (longs : List Reference) (ts : List Stored) → AreStaying at ts →
    ((p : ℕ) → is_index_of (references_in at ts) p ≡ true → is_index_of longs p ≡ true) → needed_frames (indices_of longs) ts ≡ ts
all_needed at longs [] h among = refl
all_needed at longs (s ∷ ts) h among =
    let rest = all_needed at longs ts h.1 (λ p here. let there = among p in grind (arith, there)) in
    let own = among s.decoding_index in
    grind (arith, nat_tests, rest, own)

-- ---- all frames

record AreParts (at : ℕ → Frame 16) (max low first next : ℕ) (ts : List Stored) : Type 0 where
  index : ℕ
  frames : List Stored
  lasts : List Stored
  all : ts ≡ frames ++ lasts
  stay : AreStaying at frames
  before : AreBefore index frames
  above : (l : ℕ) → Each (λ q. l < q) (map (λ s. s.decoding_index) ts) → l < index
  leave : AreLeaving max low (low + length lasts) index next (references_in at lasts) lasts
  many : length lasts + first ≡ length ts

are_parts : (at : ℕ → Frame 16) (max low first next : ℕ) (ts : List Stored) → first < length ts → Rise (map (λ s. s.decoding_index) ts) next → AllPass at first low max ts → AreParts at max low first next ts
are_parts at max low first next [] some rises all = absurd (omega (arith, some))
are_parts at max low zero next (s ∷ ts) some rises all = record {
  index = s.decoding_index;
  frames = [];
  lasts = s ∷ ts;
  all = refl;
  stay = tt;
  before = tt;
  above = λ low each. each.0;
  leave = are_leaving at max low (low + length (s ∷ ts)) s.decoding_index next (s ∷ ts) refl (omega (arith, rises.0))
      (omega arith, each_implies (λ p. s.decoding_index < p) (λ p. s.decoding_index ≤ p) (map (λ s. s.decoding_index) ts) (λ p l. omega (arith, l)) rises.1) rises all;
  many = omega arith;
}
are_parts at max low (suc first) next (s ∷ ts) some rises all =
    let r = are_parts at max low first next ts (omega (arith, some)) rises.2 (rest_staying at first low max s ts all) in
    let here = all 0 (omega arith) in
    record {
      index = r.index;
      frames = s ∷ r.frames;
      lasts = r.lasts;
      all = ap (λ l. s ∷ l) r.all;
      stay = (grind (arith, nat_tests, here), r.stay);
      before = (r.above s.decoding_index rises.1, r.before);
      above = λ l each. r.above l each.1;
      leave = r.leave;
      many = omega (arith, r.many);
    }

-- ---- from the contents

passes : (at : ℕ → Frame 16) (first low max : ℕ) (c : Contents) (ts : List Stored) → c.frames ≡ map (λ s. at s.decoding_index) ts → c.slots ≡ map slot_of ts →
    ((p : ℕ) → p < length c.frames → settles_at c first low max p ≡ true) → AllPass at first low max ts
passes at first low max c ts frames slots all = λ p within.
    let frame = ap (λ l. slice_get l p) frames ∙ slice_get-map (λ s. at s.decoding_index) ts p in
    let slot = ap (λ l. slice_get l p) slots ∙ slice_get-map slot_of ts p in
    let test = all p (let l = ap length frames ∙ length-map ts (λ (s : Stored). at s.decoding_index) in omega (arith, within, l)) in
    grind (arith, frame, slot, test)

-- The test finds a long gap.
pub long_gap : (h : History) (c : Contents) (idx : Option ℕ) (previous : ℕ) (state : IsStateAfter h c idx previous) (sps : Sps) (numbers : List ℕ) (number shorts first low count : ℕ) →
    numbers ≡ frame_nums_from (max_frame_num sps) number (length numbers) → 0 < shorts → first + shorts ≡ length c.frames → low + shorts ≡ number + max_frame_num sps →
    length numbers + shorts ≤ max_frame_num sps → length c.frames ≤ 16 → CountsReferences (map marked_frame c.frames) count → count ≡ reference_limit sps → length c.frames ≤ dpb_size sps →
    ((p : ℕ) → p < length c.frames → settles_at c first low (max_frame_num sps) p ≡ true) → IsLongGap c.output sps h numbers
long_gap h c idx previous state sps numbers number shorts first low count from' some many low_is near few counts full room all = record {
  low = low;
  number = number + max;
  index = parts.index;
  stays = record { longs = longs; max_long_term_frame_idx = (state.marks).max_long_term_frame_idx; frames = parts.frames; out = (buffer_of c.output h).out };
  shorts = shorts_in;
  lasts = parts.lasts;
  settled = record {
    marked = state.marked ∙ ap (λ l. Ok (record { references = l; max_long_term_frame_idx = (state.marks).max_long_term_frame_idx })) (sym references ∙ apart);
    buffer = ap (λ l. record { frames = l; out = (buffer_of c.output h).out }) parts.all;
    window = record {
      long = no_shorts at parts.frames parts.stay;
      full = sym (length-append longs shorts_in) ∙ ap length (sym apart) ∙ sym counted ∙ full;
      indices = (parts.leave).indices;
      longs_before = longs_before at parts.index parts.frames parts.before;
    };
    counts = subst (λ n. CountFrom max low n shorts_in) (omega (arith, parts.many, many, low_is, long)) (parts.leave).counts;
    not_needed = (parts.leave).not_needed;
    needed = all_needed at longs parts.frames parts.stay (λ p here. here);
    before = parts.before;
    room = let l = sym (length-append parts.frames parts.lasts) ∙ ap length (sym parts.all) in omega (arith, l, room, long);
  };
  some_short = omega (arith, (parts.leave).many, parts.many, some, many, long);
  few_shorts = omega (arith, (parts.leave).many, parts.many, few, long);
  numbers_are =
      from' ∙ sym (numbers-mod max number (length numbers)) ∙ ap (λ x. frame_nums_from max x (length numbers)) (sym (add-mod_right number max))
      ∙ numbers-mod max (number + max) (length numbers);
  near = omega (arith, low_is, near);
}
  where
    max : ℕ
    max = max_frame_num sps

    ts : List Stored
    ts = (buffer_of c.output h).frames

    at : ℕ → Frame 16
    at = frame_at h (state.marks).references

    long : length c.frames ≡ length ts
    long = ap length (state.buffer).frames ∙ length-map ts (λ (s : Stored). at s.decoding_index)

    rises : Rise (map (λ s. s.decoding_index) ts) (length h)
    rises = rise ts (length h) (state.buffer).rising

    parts : AreParts at max low first (length h) ts
    parts = are_parts at max low first (length h) ts (omega (arith, some, many, long)) rises (passes at first low max c ts (state.buffer).frames (state.buffer).slots all)

    longs : List Reference
    longs = references_in at parts.frames

    shorts_in : List Reference
    shorts_in = references_in at parts.lasts

    apart : references_in at ts ≡ longs ++ shorts_in
    apart = ap (references_in at) parts.all ∙ references_apart at parts.frames parts.lasts

    marked : map marked_frame c.frames ≡ map (λ s. marked_frame (at s.decoding_index)) ts
    marked = ap (map marked_frame) (state.buffer).frames ∙ map-map marked_frame (λ (s : Stored). at s.decoding_index) ts

    references : references_in at ts ≡ (state.marks).references
    references = ap (references_at (indices_in (buffer_of c.output h))) (sym marked) ∙ state.references

    counted : count ≡ length (references_in at ts)
    counted =
        counts (indices_in (buffer_of c.output h)) (record {
          each = length-map ts (λ (s : Stored). s.decoding_index) ∙ sym (length-map c.frames marked_frame ∙ long);
          rising = increasing (indices_in (buffer_of c.output h)) (length h) rises;
        })
        ∙ ap (λ l. length (references_at (indices_in (buffer_of c.output h)) l)) marked

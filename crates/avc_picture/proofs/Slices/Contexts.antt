-- The frames that a slice refers to, and what the code knows of a slice.
pub mod LatePlanes
unfoldable pub use LatePlanes.*
use Rattle.std.specs.Prelude.{All}
use Rattle.avc_picture.specs.Slices.{frame_of, info_of}
use Rattle.avc_types.specs.References.{reference_of}
use Rattle.avc_plane.specs.declared.frame.Frame.{Frame}
use Rattle.std.proofs.Math.ListN.{get_or-map}
use Rattle.avc_types.specs.declared.fault.Fault.TheVariants as faults

-- ---- what holds of all reference frames holds of those that a list names (8.2.4): in any list

keeps-placed : {A : Type 0} (P : A → Type 0) (before : A → A → Bool) (x : A) (ys : List A) → P x → All P ys → All P (placed_by before x ys)
keeps-placed P before x [] here all = All-cons P x [] here all
keeps-placed P before x (y ∷ ys) here all = search (rules, All-cons, All-head, All-tail, keeps-placed P before x ys here (All-tail P y ys all))

keeps-sorted : {A : Type 0} (P : A → Type 0) (before : A → A → Bool) (xs : List A) → All P xs → All P (sorted_by before xs)
keeps-sorted P before [] all = all
keeps-sorted P before (x ∷ xs) all = keeps-placed P before x (sorted_by before xs) (All-head P x xs all) (keeps-sorted P before xs (All-tail P x xs all))

holds-first : {A : Type 0} (P : A → Type 0) (xs : List A) → All P xs → IfSome (slice_get xs 0) P
holds-first P [] all = tt
holds-first P (x ∷ xs) all = All-head P x xs all

holds-found : {A : Type 0} (P : A → Type 0) (test : A → Bool) (xs : List A) → All P xs → IfSome (find test xs) P
holds-found P test xs all = subst (λ o. IfSome o P) (sym (find-filter test xs)) (holds-first P (filter test xs) (All-filter test P xs all))

-- ---- in a list of references

module _ (P : Reference → Type 0) (current : CurrentFrameNum) (references : List Reference) (all : All P references) where
  existing : (o : Option Reference) → IfSome o P → IfOk (existing_frame o) P
  existing None p = tt
  existing (Some r) p = by_test r.existing
    where
      by_test : (b : Bool) → IfOk (if b then Ok r else Err BadRefList) P
      by_test true = p
      by_test false = tt

  named : (number : ℕ) (m : Modification) → IfSome (modification_frame current number m references) P
  named number (LongTerm index) = holds-found P (has_long_term_frame_idx index) references all
  named number m =
      holds-first P _ (keeps-sorted P (λ a b. nat_lt b.decoding_index a.decoding_index) _ (All-filter (has_pic_num current (pic_num_of current number)) P references all))

  both : (r : Result Reference Fault) (others : Result (List Reference) Fault) → IfOk r P → IfOk others (All P) → IfOk (cons_result r others) (All P)
  both (Ok r) (Ok others) p ps = All-cons P r others p ps
  both r others p ps = tt

  all-named : (predictor : ℕ) (ms : List Modification) → IfOk (modification_frames current predictor ms references) (All P)
  all-named predictor [] = All-nil P
  all-named predictor (m ∷ ms) =
      let number = pic_num_no_wrap current.max_frame_num predictor m in
      both (existing_modification_frame current number m references) (modification_frames current number ms references)
      (existing (modification_frame current number m references) (named number m)) (all-named number ms)

  all-initial : All P (initial_list current references)
  all-initial =
      All-append P (sorted_by (has_greater_pic_num current) (filter is_short references)) _
      (keeps-sorted P (has_greater_pic_num current) _ (All-filter is_short P references all))
      (keeps-sorted P (λ a b. nat_lt (long_term_frame_idx a) (long_term_frame_idx b)) _ (All-filter is_long P references all))

  abbrev AllNamed : List (Option Reference) → Type 0
  AllNamed list = All (λ o. IfSome o P) list

  all-entries : (count : ℕ) (frames : List Reference) → All P frames → AllNamed (entries count frames)
  all-entries count frames h =
      All-append (λ o. IfSome o P) (map Some (take count frames)) (replicate (count - length frames) None)
      (All-map (λ o. IfSome o P) Some (take count frames) (All-take P count frames h))
      (All-replicate (λ o. IfSome o P) (count - length frames) None tt)

  from-named : (count : ℕ) (initial : List Reference) (first : Result (List Reference) Fault) → All P initial → IfOk first (All P) → IfOk (list_from count initial first) AllNamed
  from-named count initial (Ok first) start h =
      all-entries count (first ++ filter (λ r. not (is_in_list first r)) initial)
      (All-append P first _ h (All-filter (λ r. not (is_in_list first r)) P initial start))
  from-named count initial (Err f) start h = tt

  pub all-listed : (count : ℕ) (ms : List Modification) → IfOk (reference_list current count ms references) AllNamed
  all-listed count ms = from-named count (initial_list current references) (modification_frames current current.frame_num ms references) all-initial (all-named current.frame_num ms)

-- ---- and how long it is

pub length-entries : {A : Type 0} (count : ℕ) (xs : List A) → length (entries count xs) ≡ count
length-entries {A} count xs = grind (arith, nat_tests, replicate, length-append, length-map, length-take, length-replicate)

from-length : (count : ℕ) (initial : List Reference) (first : Result (List Reference) Fault) → IfOk (list_from count initial first) (λ list. length list ≡ count)
from-length count initial (Ok first) = length-entries count (first ++ filter (λ r. not (is_in_list first r)) initial)
from-length count initial (Err f) = tt

pub listed-length : (current : CurrentFrameNum) (count : ℕ) (ms : List Modification) (references : List Reference) → IfOk (reference_list current count ms references) (λ list. length list ≡ count)
listed-length current count ms references = from-length count (initial_list current references) (modification_frames current current.frame_num ms references)

-- each of them is found by its entry
pub own-indices : (rs : List Reference) → All (λ r. list_any (λ s. s.decoding_index == r.decoding_index) rs ≡ true) rs
own-indices [] = All-nil _
own-indices (r ∷ rs) =
    let here : (r.decoding_index == r.decoding_index) ≡ true = grind (arith, nat_tests) in
    All-cons (λ x. list_any (λ s. s.decoding_index == x.decoding_index) (r ∷ rs) ≡ true) r rs (rw here refl)
    (All-weaker (λ x. list_any (λ s. s.decoding_index == x.decoding_index) rs ≡ true) (λ x. list_any (λ s. s.decoding_index == x.decoding_index) (r ∷ rs) ≡ true) (λ x h. grind (arith, nat_tests)) rs (own-indices rs))

-- ---- frames of the buffer as the reference frames of a picture: which they are

pub stored-references : {PAD : ℕ} (es : List ℕ) (fs : List (Frame PAD)) → map (λ (f : StoredFrame). f.reference) (stored_at es fs) ≡ references_at es (map marked_frame fs)
stored-references [] fs = refl
stored-references (e ∷ es) [] = refl
stored-references (e ∷ es) (f ∷ fs) = grind (arith, stored-references es fs)

-- ---- the one at a place

pub marked-at : {PAD : ℕ} (fs : List (Frame PAD)) (k : ℕ) (f : Frame PAD) → slice_get fs k ≡ Some f → slice_index_or (map marked_frame fs) k no_frame ≡ marked_frame f
marked-at fs k f at = get_or_from_slice_get (map marked_frame fs) k (marked_frame f) no_frame (slice_get-map marked_frame fs k ∙ ap (option_map marked_frame) at)

-- a frame whose entry is that of a reference frame is one
pub listed-is-marked : {PAD : ℕ} (es : List ℕ) (fs : List (Frame PAD)) (k : ℕ) (f : Frame PAD) → FramesStandAt es fs → slice_get fs k ≡ Some f
    → list_any (λ r. r.decoding_index == slice_index es k) (references_at es (map marked_frame fs)) ≡ true → is_some f.mark ≡ true
listed-is-marked es fs k f stand at listed =
    let within : k < length fs = slice_get_within fs k f at in
    let within' : k < length (map marked_frame fs) = omega (arith, within, length-map fs marked_frame) in
    sym (ap (λ (m : _). is_some m.mark) (marked-at fs k f at)) ∙ sym (seen-at es (map marked_frame fs) k stand within') ∙ listed

pub found-stored : {PAD : ℕ} (es : List ℕ) (fs : List (Frame PAD)) (k : ℕ) (f : Frame PAD) → FramesStandAt es fs → slice_get fs k ≡ Some f → is_some f.mark ≡ true
    → find (λ g. (g.reference).decoding_index == slice_index es k) (stored_at es fs) ≡ Some (stored_frame (slice_index es k) f)
found-stored [] fs k f stand got marked = absurd (omega (arith, stand.each, length-map fs marked_frame, slice_get_within fs k f got))
found-stored (e ∷ es) [] k f stand got marked = cc
found-stored (e ∷ es) (g ∷ gs) zero f stand got marked =
    let same : g ≡ f = cc in
    let own : (e == e) ≡ true = grind (arith, nat_tests) in
    let kept : is_some g.mark ≡ true = ap (λ x. is_some x.mark) same ∙ marked in
    grind (arith, own, kept, same)
found-stored (e ∷ es) (g ∷ gs) (suc k) f stand got marked =
    let below : e < slice_index es k = below_rest e es k stand.rising (omega (arith, stand.each, length-map gs marked_frame, slice_get_within gs k f got)) in
    let other : (e == slice_index es k) ≡ false = grind (arith, nat_tests) in
    grind (arith, other, found-stored es gs k f (stand_rest e es (marked_frame g) (map marked_frame gs) stand) got marked)

-- ---- as predictions name it

module _ {PAD : ℕ} (sps : Sps) (pps : Pps) (es : List ℕ) (fs : List (Frame PAD)) (k : ℕ) (f : Frame PAD) (stand : FramesStandAt es fs) (at : slice_get fs k ≡ Some f) where
  abbrev stored_named : Shown
  stored_named = frame_of (picture_start sps pps es fs) (reference_at es (map marked_frame fs) k)

  pub named-missing : f.planes ≡ None → stored_named.existing ≡ false
  named-missing none = ap (λ m. m.existing) (marked-at fs k f at) ∙ ap is_some none

  pub named-picture : (planes : Planes) → is_some f.mark ≡ true → f.planes ≡ Some planes
      → stored_named ≡ record { decoding_index = slice_index es k; existing = true; samples = samples_of planes }
  named-picture planes marked some = rw (marked-at fs k f at, found-stored es fs k f stand at marked, some) refl

-- ---- one entry more of a list that is made entry by entry

pub entry-more : {A : Type 0} (P : ℕ → A → Type 0) (xs : List A) (n : ℕ) (x d : A) → n < length xs → ((k : ℕ) → k < n → P k (slice_index_or xs k d)) → P n x
    → (k : ℕ) → k < n + 1 → P k (slice_index_or (slice_set xs n x) k d)
entry-more P xs n x d within before here =
    below_more (λ k. P k (slice_index_or (slice_set xs n x) k d)) n
    (λ k low. subst (P k) (sym (get_or-set_other xs n k x d (omega (arith, low)))) (before k low)) (subst (P n) (sym (get_or-set_same xs n x d within)) here)

-- ---- what the code knows of a slice

some-within : {A : Type 0} (xs : List A) (k : ℕ) → k < length xs → (x : A) × (slice_get xs k ≡ Some x)
some-within xs k h = elim (slice_get_cases xs k).1 [ inl found ↦ (found.0, found.2) | inr past ↦ absurd (omega (arith, past.0)) ]

-- ---- weights

small-power : (d : ℕ) → d ≤ 7 → 2 ^ d ≤ 128
small-power d h = each_of_eight (λ d. 2 ^ d ≤ 128) (lit≤ tt) (lit≤ tt) (lit≤ tt) (lit≤ tt) (lit≤ tt) (lit≤ tt) (lit≤ tt) (lit≤ tt) d (omega arith)

is-weight : (d : ℕ) (o : Option CodedWeight) → d ≤ 7 → IfSome o IsCodedWeight → IsWeight (weight_of d o)
is-weight d None h is = let small = small-power d h in grind (arith, ints)
is-weight d (Some c) h is = grind (arith, ints)

are-weights : (t : PredWeightTable) (e : EntryWeights) → t.luma_log2_weight_denom ≤ 7 → t.chroma_log2_weight_denom ≤ 7 → IsEntryWeights e → AreWeights (weights_of t e)
are-weights t e l c is = record {
  luma = is-weight t.luma_log2_weight_denom e.luma l is.luma;
  cb = is-weight t.chroma_log2_weight_denom (option_map (λ x. x.cb) e.chroma) c (of_both e.chroma is.chroma).0;
  cr = is-weight t.chroma_log2_weight_denom (option_map (λ x. x.cr) e.chroma) c (of_both e.chroma is.chroma).1;
} where
  of_both : (o : Option ChromaWeights) → IfSome o IsChromaWeights
      → IfSome (option_map (λ x. x.cb) o) IsCodedWeight × IfSome (option_map (λ x. x.cr) o) IsCodedWeight
  of_both None h = (tt, tt)
  of_both (Some x) h = (h.cb, h.cr)

all-weights-by : (h : Header) (t : Option PredWeightTable) → IfSome t (IsPredWeightTable h.num_ref_idx_active) → All AreWeights (weights (record h { pred_weight_table = t }))
all-weights-by h None is = All-nil AreWeights
all-weights-by h (Some t) is =
    All-map AreWeights (weights_of t) t.entries
    (All-weaker IsEntryWeights (λ e. AreWeights (weights_of t e)) (λ e w. are-weights t e is.luma_denom is.chroma_denom w) t.entries is.entries)

-- ---- pictures that can be predicted from

module _ {PAD : ℕ} (width height : ℕ) (fs : List (Frame PAD)) (h : Header) (frames : AreFrames width height fs) (table : IfSome h.pred_weight_table (IsPredWeightTable h.num_ref_idx_active)) where
  sized-at : (place : Option ℕ) (planes : Planes) → planes_at fs place ≡ Some planes → AreSized width height planes
  sized-at None planes e = cc
  sized-at (Some k) planes e = by_frame (slice_get fs k) refl e
    where
      by_frame : (o : Option (Frame PAD)) → slice_get fs k ≡ o → planes_at fs (Some k) ≡ Some planes → AreSized width height planes
      by_frame None at e = let wrong : None ≡ Some planes = rw at at e in cc
      by_frame (Some f) at e =
          let has : f.planes ≡ Some planes = rw at at e in
          let here = frames.sized k f (slice_get_within fs k f at) in
          let same : slice_index_or fs k f ≡ f = get_or_from_slice_get fs k f f at in
          subst (λ o. IfSome o (AreSized width height)) (ap (λ x. x.planes) same ∙ has) here

  usable_context : (r : ℕ) (place : Option ℕ) (o : Option (ReferencePicture PAD)) → IsPictureAt fs h r place o → IfSome o (IsUsable width height)
  usable_context r place None is = tt
  usable_context r place (Some q) is = record { sized = sized-at place (padded_planes_of q.planes.now) is.0; weights = by_weights (slice_get (weights h) r) q.weights refl is.1 }
    where
      by_weights : (o w : Option Weights) → slice_get (weights h) r ≡ o → slice_get (weights h) r ≡ w → IfSome w AreWeights
      by_weights o None e e' = tt
      by_weights o (Some w) e e' = subst AreWeights (get_or_from_slice_get (weights h) r w w e') (all-weights-by h h.pred_weight_table table r w (slice_get_within (weights h) r w e'))

  pub usable-pictures : (places : List (Option ℕ)) (pictures : List (Option (ReferencePicture PAD))) → length pictures ≡ 16 → ArePicturesAt fs h 16 places pictures
      → AreUsable width height pictures
  usable-pictures places pictures long at = λ k d inside. grind (arith, ints, nat_tests, get_or_default, usable_context)

-- ---- a list's frames are marked

module _ {PAD : ℕ} (sps : Sps) (pps : Pps) (es : List ℕ) (fs : List (Frame PAD)) (h : Header) (stand : FramesStandAt es fs) where
  abbrev context_parts : PictureStart
  context_parts = picture_start sps pps es fs

  abbrev IsListed : Reference → Type 0
  IsListed r = list_any (λ s. s.decoding_index == r.decoding_index) (references_in context_parts) ≡ true

  abbrev listed-by : Bool → Result (List (Option Reference)) Fault
  listed-by b = elim b [ true ↦ reference_list (current_of context_parts h) h.num_ref_idx_active (or_empty h.modifications) (references_in context_parts) | false ↦ Ok [] ]

  all-listed-by : (b : Bool) → IfOk (listed-by b) (All (λ o. IfSome o IsListed))
  all-listed-by true = all-listed IsListed (current_of context_parts h) (references_in context_parts) (own-indices (references_in context_parts)) h.num_ref_idx_active (or_empty h.modifications)
  all-listed-by false = All-nil (λ o. IfSome o IsListed)

  all-in-list : (list : List (Option Reference)) → list_of context_parts h ≡ Ok list → All (λ o. IfSome o IsListed) list
  all-in-list list e = subst (λ r. IfOk r (All (λ o. IfSome o IsListed))) e (all-listed-by (is_p h))

  marked : (list : List (Option Reference)) (places : List (Option ℕ)) (r k : ℕ) (f : Frame PAD) → list_of context_parts h ≡ Ok list → HasPlaces es fs list places
      → slice_index_or places r None ≡ Some k → slice_get fs k ≡ Some f → is_some f.mark ≡ true
  marked list places r k f e has place at =
      let named : slice_index_or list r None ≡ Some (reference_at es (map marked_frame fs) k) = has r ∙ ap (option_map (reference_at es (map marked_frame fs))) place in
      let listed = subst (λ o. IfSome o IsListed) named (some_at IsListed list r (all-in-list list e)) in
      listed-is-marked es fs k f stand at (ap (list_any (λ s. s.decoding_index == slice_index es k)) (sym (stored-references es fs)) ∙ listed)

  -- ---- what the code knows

  module _ (number : ℕ) (places : List (Option ℕ)) (s : SliceContext PAD) (long : length places ≡ 16) (within : ArePlacesIn fs places)
      (at : IsContextAt number fs h places s) (list : List (Option Reference)) (is : list_of context_parts h ≡ Ok list) (has : HasPlaces es fs list places)
      (c : Coded) (names : Names) (are : AreNames es names) (info : slice_info c s.number ≡ info_of context_parts h list) where
    abbrev reference : ℕ → Reference
    reference k = reference_at es (map marked_frame fs) k

    named-at : (r : ℕ) (place : Option ℕ) → slice_index_or places r None ≡ place
        → frame_named c s.number r ≡ option_map (frame_of context_parts) (option_map reference place)
    named-at r place e =
        ap (λ x. slice_index_or x.references r None) info
        ∙ get_or-map (option_map (frame_of context_parts)) list r None
        ∙ ap (option_map (frame_of context_parts)) (has r ∙ ap (option_map reference) e)

    frame-at : (r k : ℕ) → r < 16 → slice_index_or places r None ≡ Some k → (f : Frame PAD) × (slice_get fs k ≡ Some f)
    frame-at r k inside place =
        some-within fs k (subst (λ o. IfSome o (λ q. q < length fs)) place (within r None (omega (arith, long, inside))))

    by-frame : (r k : ℕ) (f : Frame PAD) (o : Option (ReferencePicture PAD)) → slice_index_or places r None ≡ Some k → slice_get fs k ≡ Some f → IsPictureAt fs h r (Some k) o
        → ShowsReference c s.number r o
    by-frame r k f None place got shown =
        let none : f.planes ≡ None = rw got at shown in
        ap is_picture (named-at r (Some k) place) ∙ named-missing sps pps es fs k f stand got none
    by-frame r k f (Some q) place got shown =
        let some : f.planes ≡ Some (padded_planes_of q.planes.now) = rw got at shown.0 in
        record {
          decoding_index = slice_index es k;
          frame = named-at r (Some k) place ∙ ap Some (named-picture sps pps es fs k f stand got (padded_planes_of q.planes.now) (marked list places r k f is has place got) some);
          weights = ap (λ x. slice_get x.weights r) info ∙ shown.1;
        }

    by-place : (r : ℕ) (place : Option ℕ) (o : Option (ReferencePicture PAD)) → r < 16 → slice_index_or places r None ≡ place → IsPictureAt fs h r place o
        → ShowsReference c s.number r o
    by-place r None None inside e shown = ap is_picture (named-at r None e)
    by-place r None (Some q) inside e shown = let wrong = shown.0 in cc
    by-place r (Some k) o inside e shown = let found = frame-at r k inside e in by-frame r k found.0 o e found.1 shown

    unnamed : (r : ℕ) → 16 ≤ r → is_picture (frame_named c s.number r) ≡ false
    unnamed r past = ap is_picture (named-at r None (get_or_past places r None (omega arith)))

    shows : (r : ℕ) → ShowsReference c s.number r (slice_index_or s.references r None)
    shows r = elim (cases_lt r 16) [
      | inl inside ↦ by-place r (slice_index_or places r None) (slice_index_or s.references r None) inside refl (at.pictures r inside)
      | inr past ↦ subst (ShowsReference c s.number r) (sym (get_or_past s.references r None (omega (arith, at.full, past)))) (unnamed r past)
    ]

    numbered : (r : ℕ) (place : Option ℕ) → r < 16 → slice_index_or places r None ≡ place → is_picture (frame_named c s.number r) ≡ true
        → HasNumber c names s.number r (slice_index_or s.frame_numbers r 0)
    numbered r None inside e shown =
        let wrong : false ≡ true = sym (ap is_picture (named-at r None e)) ∙ shown in
        cc
    numbered r (Some k) inside e shown =
        let found = frame-at r k inside e in
        let number : slice_index_or s.frame_numbers r 0 ≡ k = at.numbers r inside ∙ ap (λ x. unwrap_or x 0) e in
        let there : k < names.count = omega (arith, slice_get_within fs k found.0 found.1, are.all, stand.each, length-map fs marked_frame) in
        record {
          frame = frame_of context_parts (reference k);
          named = named-at r (Some k) e;
          decoding_index = sym (are.each k there) ∙ ap names.decoding_index (sym number);
          within = omega (arith, number, there);
        }

    pub is-slice : IsSlice c names s
    is-slice = record {
      references = record { each = shows };
      numbers = λ r shown. elim (cases_lt r 16) [
        | inl inside ↦ numbered r (slice_index_or places r None) inside refl shown
        | inr past ↦ let wrong : false ≡ true = sym (unnamed r past) ∙ shown in cc
      ];
      edges = at.edges ∙ sym (ap (λ x. x.disable_deblocking_filter_idc) info);
      offset_a = at.offset_a ∙ sym (ap (λ x. x.filter_offset_a) info);
      offset_b = at.offset_b ∙ sym (ap (λ x. x.filter_offset_b) info);
    }

-- ---- refPicList0 of a slice by the places of its frames in the buffer

-- each entry is what stands at that place of another list
abbrev AreThose : List (Option ℕ) → List (Option ℕ) → Type 0
AreThose list places = (r : ℕ) → r < 16 → slice_index_or places r None ≡ unwrap_or (slice_get list r) None

same-entries : (list places : List (Option ℕ)) → length places ≡ 16 → length list ≤ 16 → AreThose list places → (r : ℕ) → slice_index_or places r None ≡ slice_index_or list r None
same-entries list places long short those r = grind (arith, cases_lt, unwrap_or-slice_get, get_or_past)

-- ---- they are places

module _ {PAD : ℕ} (fs : List (Frame PAD)) (list places : List (Option ℕ)) (long : length places ≡ 16) (those : AreThose list places) where
  pub places-within : AreEntriesIn (map marked_frame fs) list → ArePlacesIn fs places
  places-within all = λ k d h.
      let inside : k < 16 = omega (arith, long, h) in
      subst (λ entry. IfSome entry (λ place. place < length fs)) (sym (get_or_default places k d None h ∙ those k inside)) (by_entry k (slice_get list k) refl)
    where
      by_entry : (k : ℕ) (o : Option (Option ℕ)) → slice_get list k ≡ o → IfSome (unwrap_or o None) (λ place. place < length fs)
      by_entry k None e = tt
      by_entry k (Some entry) e =
          subst (λ n. IfSome entry (λ place. place < n)) (length-map fs marked_frame)
          (subst (λ x. IfSome x (λ place. place < length (map marked_frame fs))) (get_or_from_slice_get list k entry None e) (all k None (slice_get_within list k entry e)))

-- ---- of an I slice

abbrev no-place : Option ℕ
no-place = None

none-at : (n r : ℕ) → slice_index_or (replicate n no-place) r None ≡ None
none-at zero r = refl
none-at (suc n) zero = refl
none-at (suc n) (suc r) = none-at n r

module _ {PAD : ℕ} (sps : Sps) (pps : Pps) (es : List ℕ) (fs : List (Frame PAD)) (h : Header) where
  abbrev placed_parts : PictureStart
  placed_parts = picture_start sps pps es fs

  abbrev placed_listed : List Reference → Result (List (Option Reference)) Fault
  placed_listed references = reference_list (record { frame_num = h.frame_num; max_frame_num = max_frame_num sps }) h.num_ref_idx_active (or_empty h.modifications) references

  pub no-list : is_p h ≡ false → IsListAt placed_parts es fs h (Ok (replicate 16 None))
  no-list i = ([], rw (i, list_of) refl, λ r. sym (ap (option_map (reference_at es (map marked_frame fs))) (none-at 16 r)))

  -- ---- of a P slice

  pub p-list : (answer : Result (List (Option ℕ)) Fault) → is_p h ≡ true → FramesStandAt es fs → NamesFrames (map marked_frame fs) each_entry placed_listed answer
      → list_of placed_parts h ≡ each_entry (reference_at es (map marked_frame fs)) answer
  p-list answer is stand names = grind (arith, nat_tests, stored-references)

  long-list : (list : List (Option ℕ)) → is_p h ≡ true → list_of placed_parts h ≡ Ok (map (option_map (reference_at es (map marked_frame fs))) list) → length list ≡ h.num_ref_idx_active
  long-list list is e =
      let at : placed_listed (references_in placed_parts) ≡ Ok (map (option_map (reference_at es (map marked_frame fs))) list) = rw (is, list_of) at e in
      sym (length-map list (option_map (reference_at es (map marked_frame fs))))
      ∙ subst (λ r. IfOk r (λ xs. length xs ≡ h.num_ref_idx_active)) at (listed-length (current_of placed_parts h) h.num_ref_idx_active (or_empty h.modifications) (references_in placed_parts))

  pub p-places : (list places : List (Option ℕ)) → h.num_ref_idx_active ≤ 16 → is_p h ≡ true → FramesStandAt es fs → NamesFrames (map marked_frame fs) each_entry placed_listed (Ok list)
      → length places ≡ 16 → AreThose list places → IsListAt placed_parts es fs h (Ok places)
  p-places list places few is stand names long those =
      let made = p-list (Ok list) is stand names in
      let named = reference_at es (map marked_frame fs) in
      let short : length list ≤ 16 = omega (arith, long-list list is made, few) in
      (map (option_map named) list, made, λ r. get_or-map (option_map named) list r None ∙ ap (option_map named) (sym (same-entries list places long short those r)))

-- ---- slices that name no reference frames are decoded the same whichever there are

pub list_of_intra : (p : PictureStart) (h : Header) → is_p h ≡ false → list_of p h ≡ Ok []
list_of_intra p h intra = rw (intra, list_of) refl

list_of_other : (p : PictureStart) (other : List StoredFrame) (s : Slice) (before : Progress) → is_p s.header ≡ false
    → with_reference_list p s before (list_of p s.header) ≡ with_reference_list (record p { frames = other }) s before (list_of (record p { frames = other }) s.header)
list_of_other p other s before intra = rw (list_of_intra p s.header intra, list_of_intra (record p { frames = other }) s.header intra) refl

-- one slice
pub with_slice-other : (p : PictureStart) (other : List StoredFrame) (s : Slice) (before : Progress) → is_p s.header ≡ false
    → with_slice p s before ≡ with_slice (record p { frames = other }) s before
with_slice-other p other s before intra = let e = list_of_other p other s before intra in grind (arith, nat_tests)

-- all of them
pub progress-other : (p : PictureStart) (other : List StoredFrame) (slices : List Slice) → All (λ s. is_p s.header ≡ false) slices
    → progress p slices ≡ progress (record p { frames = other }) slices
progress-other p other [] intra = refl
progress-other p other (s ∷ earlier) intra =
    ap (with_slice p s) (progress-other p other earlier (All-tail (λ t. is_p t.header ≡ false) s earlier intra))
    ∙ with_slice-other p other s (progress (record p { frames = other }) earlier) (All-head (λ t. is_p t.header ≡ false) s earlier intra)

pub planes-other : (p : PictureStart) (other : List StoredFrame) (slices : List Slice) → All (λ s. is_p s.header ≡ false) slices
    → planes_after_slices p slices ≡ planes_after_slices (record p { frames = other }) slices
planes-other p other slices intra = ap (λ g. deblocked (coded_of p g)) (progress-other p other slices intra)

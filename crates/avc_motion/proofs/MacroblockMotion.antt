-- The motion of a whole macroblock, and worked examples.
pub mod Partitions
unfoldable pub use Partitions.*

-- ---- the motion of a macroblock by its neighbours, and as found by sample coordinates

module _ (near near' : Near) (same : (mine : List Motion) (x y : ℤ) → IsAsked x y → near mine x y ≡ near' mine x y) where
  pub neighbours_agree : (mine : List Motion) (x y width : ℕ) → x < 16 → y < 16 → x + width ≤ 16
      → neighbours_of near mine x y width ≡ neighbours_of near' mine x y width
  neighbours_agree mine x y width h k w =
      cc (
        same mine (pos x -ℤ pos 1) (pos y) (omega (arith, ints)),
        same mine (pos x) (pos y -ℤ pos 1) (omega (arith, ints)),
        same mine (pos (x + width)) (pos y -ℤ pos 1) (omega (arith, ints)),
        same mine (pos x -ℤ pos 1) (pos y -ℤ pos 1) (omega (arith, ints)),
      )

  module _ (shape : PMbType) (refs : List ℕ) (n : ℕ) where
    part_agrees : (mine : List Motion) (p : Part) (d : Mvd) → IsPlaced n p
        → motion_of_part near shape (slice_index (take n refs) p.partition) mine p d ≡ motion_of_part near' shape (slice_index refs p.partition) mine p d
    part_agrees mine p d placed =
        ap (λ r. motion_of_part near shape r mine p d) (get_or-take n refs p.partition 0 placed.of_partition)
        ∙ ap (λ a. inter (slice_index refs p.partition) (sum_with_mvd (predicted_vector shape p.partition (slice_index refs p.partition) a) d))
        (neighbours_agree mine p.x p.y p.width placed.column placed.row placed.in_columns)

    pub parts_agree : (mine : List Motion) (ps : List Part) (ms : List Mvd) → AllPlaced n ps
        → motion_of_parts near shape (take n refs) mine ps ms ≡ motion_of_parts near' shape refs mine ps ms
    parts_agree mine (p ∷ ps) (d ∷ ms) placed =
        ap (λ m. motion_of_parts near shape (take n refs) (with_part mine p m) ps ms) (part_agrees mine p d placed.0)
        ∙ parts_agree (with_part mine p (motion_of_part near' shape (slice_index refs p.partition) mine p d)) ps ms placed.1
    parts_agree mine _ ms placed = refl

-- Differences behind those of the parts mean nothing.
pub take_differences : (near : Near) (shape : PMbType) (refs : List ℕ) (mine : List Motion) (ps : List Part) (ms : List Mvd)
    → motion_of_parts near shape refs mine ps (take (length ps) ms) ≡ motion_of_parts near shape refs mine ps ms
take_differences near shape refs mine (p ∷ ps) (d ∷ ms) =
    take_differences near shape refs (with_part mine p (motion_of_part near shape (slice_index refs p.partition) mine p d)) ps ms
take_differences near shape refs mine _ ms = refl

-- ---- vectors that can be had, and parts up to the first that can't

pub all_in_range : (xs : List Motion) → ((k : ℕ) → k < length xs → is_in_range (slice_index_or xs k absent) ≡ true) → list_all is_in_range xs ≡ true
all_in_range [] f = refl
all_in_range (x ∷ xs) f = and_from (is_in_range x) (list_all is_in_range xs) (f 0 (omega arith)) (all_in_range xs (λ k h. f (suc k) (omega (arith, h))))

not_all : (xs : List Motion) (k : ℕ) → is_in_range (slice_index_or xs k absent) ≡ false → list_all is_in_range xs ≡ false
not_all [] k e = cc
not_all (x ∷ xs) zero e = and_left (is_in_range x) (list_all is_in_range xs) e
not_all (x ∷ xs) (suc k) e = and_right (is_in_range x) (list_all is_in_range xs) (not_all xs k e)

-- each block's vector can be had
abbrev InRange : List Motion → Type 0
InRange mine = (k : ℕ) → k < 16 → is_in_range (slice_index_or mine k absent) ≡ true

filled_in_range : (mine : List Motion) (p : Part) (m : Motion) → InRange mine → is_in_range m ≡ true → InRange (with_part mine p m)
filled_in_range mine p m each e k h =
    rw (at-with_part mine p m k h) (cond_both (is_in_part p k) m (slice_index_or mine k absent) (λ v. is_in_range v ≡ true) (λ _. e) (λ _. each k h))

none_is : (b : Bool) (x : Option (List Motion)) → b ≡ true → (if b then x else None) ≡ None → x ≡ None
none_is true x t e = e
none_is false x t e = cc

module _ (near : Near) (shape : PMbType) (refs : List ℕ) where
  abbrev moved : List Motion → Part → Mvd → Motion
  moved mine p d = motion_of_part near shape (slice_index refs p.partition) mine p d

  -- what is decoded are the parts' motions, and has what each step keeps
  decoded_is : (P : List Motion → Type 0) → ((mine : List Motion) (p : Part) (v : Motion) → P mine → is_in_range v ≡ true → P (with_part mine p v))
      → (mine m : List Motion) (ps : List Part) (ms : List Mvd) → P mine → decoded near shape refs mine ps ms ≡ Some m
      → (motion_of_parts near shape refs mine ps ms ≡ m) × P m
  decoded_is P step mine m (p ∷ ps) (d ∷ ms) each e =
      let v = moved mine p d in
      let is = some_where (is_in_range v) (decoded near shape refs (with_part mine p v) ps ms) m e in
      decoded_is P step (with_part mine p v) m ps ms (step mine p v each is.0) is.1
  decoded_is P step mine m _ ms each e = let is = same_Some mine m e in (is, subst P is each)

  -- a block in none of the parts stays as it is
  stays : (mine : List Motion) (ps : List Part) (ms : List Mvd) (k : ℕ) → k < 16 → is_off k ps ≡ true
      → slice_index_or (motion_of_parts near shape refs mine ps ms) k absent ≡ slice_index_or mine k absent
  stays mine (p ∷ ps) (d ∷ ms) k h e =
      let v = moved mine p d in
      let both = and_parts (not (is_in_part p k)) (is_off k ps) e in
      stays (with_part mine p v) ps ms k h both.1 ∙ at-with_part mine p v k h ∙ cond-false _ _ _ (not-true _ both.0)
  stays mine _ ms k h e = refl

  out_at : (mine : List Motion) (p : Part) (ps : List Part) (ms : List Mvd) (v : Motion) → HasOwn p ps → is_in_range v ≡ false
      → list_all is_in_range (motion_of_parts near shape refs (with_part mine p v) ps ms) ≡ false
  out_at mine p ps ms v own out =
      not_all (motion_of_parts near shape refs (with_part mine p v) ps ms) own.block
      (ap is_in_range
      (stays (with_part mine p v) ps ms own.block own.below own.alone
      ∙ at-with_part mine p v own.block own.below
      ∙ cond-true _ _ _ own.inside)
      ∙ out)

  pub none_out : (mine : List Motion) (ps : List Part) (ms : List Mvd) → Apart ps → decoded near shape refs mine ps ms ≡ None
      → list_all is_in_range (motion_of_parts near shape refs mine ps ms) ≡ false
  none_out mine (p ∷ ps) (d ∷ ms) apart e =
      let v = moved mine p d in
      elim (cases_Bool (is_in_range v)) [
        | inl t ↦ none_out (with_part mine p v) ps ms apart.1 (none_is (is_in_range v) (decoded near shape refs (with_part mine p v) ps ms) t e)
        | inr f ↦ out_at mine p ps ms v apart.0 f
      ]
  none_out mine _ ms apart e = cc

-- ---- the whole macroblock

nothing_in_range : (k : ℕ) → k < 16 → is_in_range (slice_index_or no_motion k absent) ≡ true
nothing_in_range k h = ap is_in_range (get_or-replicate 16 k absent absent h)

module _ (near near' : Near) (same : (mine : List Motion) (x y : ℤ) → IsAsked x y → near mine x y ≡ near' mine x y) where
  -- a skipped macroblock
  pub skipped_is : (motion : List Motion) → motion ≡ motion_by near' p_skip → list_all is_in_range motion ≡ true
      → Ok motion ≡ motion_or_fault (motion_by near p_skip)
  skipped_is motion is within =
      let agree : motion_by near p_skip ≡ motion =
      ap (λ a. replicate 16 (inter 0 (skip_vector a))) (neighbours_agree near near' same no_motion 0 0 16 (omega arith) (omega arith) (omega arith)) ∙ sym is in
      sym (cond-true (list_all is_in_range motion) (Ok motion) (Err VectorRange) within) ∙ ap motion_or_fault (sym agree)

  module _ (shape : PMbType) (four : HasFourQuarters shape) (refs : List ℕ) (mvds : List Mvd) (residual : Residual) where
    abbrev coded : List Motion
    coded = motion_by near (p_inter shape (take (partitions shape) refs) (take (length (parts_of shape)) mvds) residual)

    plain : coded ≡ motion_of_parts near' shape refs no_motion (parts_of shape) mvds
    plain =
        take_differences near shape (take (partitions shape) refs) no_motion (parts_of shape) mvds
        ∙ parts_agree near near' same shape refs (partitions shape) no_motion (parts_of shape) mvds (parts_placed shape four)

    had : (d : Option (List Motion)) → decoded near' shape refs no_motion (parts_of shape) mvds ≡ d → blocks_or_fault d ≡ motion_or_fault coded
    had (Some m) e =
        let told = decoded_is near' shape refs (λ l. InRange l × (length l ≡ 16))
        (λ mine p v each within. (filled_in_range mine p v each.0 within, length-with_part mine p v)) no_motion m (parts_of shape) mvds
        (nothing_in_range, refl) e in
        let within : list_all is_in_range m ≡ true = all_in_range m (λ k h. told.1.0 k (omega (arith, h, told.1.1))) in
        sym (cond-true (list_all is_in_range m) (Ok m) (Err VectorRange) within) ∙ ap motion_or_fault (sym (plain ∙ told.0))
    had None e =
        sym (cond-false (list_all is_in_range coded) (Ok coded) (Err VectorRange)
        (ap (λ m. list_all is_in_range m) plain ∙ none_out near' shape refs no_motion (parts_of shape) mvds (parts_apart shape four) e))

    pub inter_is : (result : Result (List Motion) Fault) → result ≡ blocks_or_fault (decoded near' shape refs no_motion (parts_of shape) mvds)
        → result ≡ motion_or_fault coded
    inter_is result e = e ∙ had (decoded near' shape refs no_motion (parts_of shape) mvds) refl

-- ---- worked examples, which hold by computing both sides

abbrev vector : ℤ → ℤ → Mv
vector x y = record { x = x; y = y }

-- a residual without levels
abbrev nothing : Residual
nothing = record { luma_pattern = 0; chroma_pattern = 0; mb_qp_delta = pos 0; luma_dc = []; luma = []; cb_dc = []; cr_dc = []; cb_ac = []; cr_ac = [] }

abbrev in_first_slice : MbSyntax → PicMb
in_first_slice s = record { slice = 0; mb = record { syntax = s; qp = 26 } }

-- Two macroblocks side by side: one whose vector is half a sample to the right, and a skipped one, which stands still since
-- nothing is above it.
abbrev pair : Coded
pair = record {
  width = 2;
  height = 1;
  chroma_qp_index_offset = pos 0;
  constrained_intra_pred = false;
  slices = [];
  mbs = in_first_slice (p_inter P16x16 (0 ∷ []) ((record { x = pos 2; y = pos 0 }) ∷ []) nothing) ∷ in_first_slice p_skip ∷ [];
}

-- ---- worked examples, a row each

record WorkedRows : Type 0 where
  half_a_sample : motion_before pair 2 ≡ replicate 16 (inter 0 (vector (pos 2) (pos 0))) ∷ replicate 16 (inter 0 (vector (pos 0) (pos 0))) ∷ []
  -- only A is available: its vector, whatever its index is
  only_left : median_prediction 0 (record { a = inter 1 (vector (pos 4) (pos 6)); b = absent; c = absent }) ≡ vector (pos 4) (pos 6)
  -- an intra neighbour is available, so that A does not stand for it
  beside_intra : median_prediction 0 (record { a = inter 1 (vector (pos 4) (pos 6)); b = intra; c = absent }) ≡ vector (pos 0) (pos 0)
  -- one neighbour has the index
  only_c : median_prediction 2 (record { a = inter 0 (vector (pos 4) (pos 6)); b = inter 1 (vector (pos 1) (pos 1)); c = inter 2 (vector (pos 9) (negsuc 2)) }) ≡ vector (pos 9) (negsuc 2)
  -- each component by itself
  middle : median_prediction 0 (record { a = inter 0 (vector (pos 4) (negsuc 6)); b = inter 0 (vector (pos 1) (pos 8)); c = inter 0 (vector (pos 9) (pos 3)) }) ≡ vector (pos 4) (pos 3)
  -- the halves ask B and A, A and C
  upper_half : predicted_vector P16x8 0 0 (record { a = inter 0 (vector (pos 1) (pos 1)); b = inter 0 (vector (pos 2) (pos 2)); c = inter 0 (vector (pos 3) (pos 3)) }) ≡ vector (pos 2) (pos 2)
  lower_half : predicted_vector P16x8 1 0 (record { a = inter 0 (vector (pos 1) (pos 1)); b = inter 0 (vector (pos 2) (pos 2)); c = inter 0 (vector (pos 3) (pos 3)) }) ≡ vector (pos 1) (pos 1)
  right_half : predicted_vector P8x16 1 0 (record { a = inter 0 (vector (pos 1) (pos 1)); b = inter 0 (vector (pos 2) (pos 2)); c = inter 0 (vector (pos 3) (pos 3)) }) ≡ vector (pos 3) (pos 3)
  -- a skipped macroblock below one that stands still
  still_above : skip_vector (record { a = inter 0 (vector (pos 5) (pos 5)); b = inter 0 (vector (pos 0) (pos 0)); c = intra }) ≡ vector (pos 0) (pos 0)
  -- the last vector that can be had, and the first that can't
  last_vector : motion_or_fault (inter 0 (vector (pos 32767) (negsuc 32767)) ∷ []) ≡ Ok (inter 0 (vector (pos 32767) (negsuc 32767)) ∷ [])
  too_far : motion_or_fault (inter 0 (vector (pos 0) (negsuc 32768)) ∷ []) ≡ Err VectorRange

worked_rows : WorkedRows
unfolding with_part
worked_rows = search rules

-- One step of reading the data of a slice, and worked macroblocks.
pub mod Macroblocks
unfoldable pub use Macroblocks.*
use Rattle.avc_mbsyntax.specs.SliceData.{placed}
use Rattle.avc_types.specs.declared.fault.Fault.TheVariants as faults

-- ---- one step of reading a slice's data: one macroblock

abbrev one_with : (full : Bool) → Result (Mb × Bits) Fault → (Mb × Bits → SliceMbs) → SliceMbs
one_with full o k =
    elim full [
      | true ↦ stopped faults.TooManyMacroblocks
      | false ↦ elim o [ Err f ↦ stopped f | Ok r ↦ after (r.0 ∷ []) (elim (more_data r.1) [ true ↦ k r | false ↦ ended ]) ]
    ]

one_same : (full : Bool) (o : Result (Mb × Bits) Fault) (k k' : Mb × Bits → SliceMbs) → ((r : Mb × Bits) → full ≡ false → k r ≡ k' r) → one_with full o k ≡ one_with full o k'
one_same true o k k' same = refl
one_same false (Err f) k k' same = refl
one_same false (Ok r) k k' same = ap (λ x. after (r.0 ∷ []) (elim (more_data r.1) [ true ↦ x | false ↦ ended ])) (same r refl)

pub is_full : (n size r : ℕ) → size ≡ n + r → r ≡ 0 → (n == size) ≡ true
is_full n size r room none = eq-eqb n size (omega (arith, room, none))

pub is_open : (n size r : ℕ) → size ≡ n + r → r ≢ 0 → (n == size) ≡ false
is_open n size r room some = ne_eqb n size (λ e. some (omega (arith, room, e)))

abbrev data_after : SliceStart → List PicMb → Mb × Bits → SliceMbs
data_after s before r = data_from s (before ++ placed s r.0 ∷ []) (r.0).qp r.1

pub one_full : (s : SliceStart) (before : List PicMb) (qp : ℕ) (b : Bits) → (length before == s.size) ≡ true → one_more s before qp b ≡ stopped faults.TooManyMacroblocks
one_full s before qp b full = ap (λ t. one_with t (macroblock (context s before qp) b) (data_after s before)) full

one_found : (s : SliceStart) (before : List PicMb) (qp : ℕ) (b : Bits) (o : Result (Mb × Bits) Fault) → (length before == s.size) ≡ false → macroblock (context s before qp) b ≡ o → one_more s before qp b ≡ one_with false o (data_after s before)
one_found s before qp b o room read = grind (arith)

next_stage : (more : Bool) (s : SliceStart) (before : List PicMb) (qp : ℕ) (b : Bits) → elim more [ true ↦ data_from s before qp b | false ↦ ended ] ≡ rest_at (stage_after more) s before qp b
next_stage true s before qp b = refl
next_stage false s before qp b = refl

pub one_read : (s : SliceStart) (before : List PicMb) (qp next : ℕ) (b mid : Bits) (mb : Mb) (stage : Stage) → (length before == s.size) ≡ false → macroblock (context s before qp) b ≡ Ok (mb, mid) →
    stage ≡ stage_after (more_data mid) → next ≡ mb.qp → one_more s before qp b ≡ after (mb ∷ []) (rest_at stage s (before ++ placed s mb ∷ []) next mid)
one_read s before qp next b mid mb stage room read is is_next = grind (arith, more_data, one_found, next_stage)

pub stage_is : (more : Bool) (s : SliceStart) (remaining : ℕ) → IsStage (stage_after more) s remaining
stage_is true s remaining = tt
stage_is false s remaining = tt

pub context_is : (s : SliceStart) (before : List PicMb) (p : Bool) (count qp : ℕ) (left up : Option TotalCoeffs) → s.is_p ≡ p → s.num_ref_idx_active ≡ count → left ≡ left_total_coeffs s before → up ≡ up_total_coeffs s before →
    context s before qp ≡ record { is_p = p; num_ref_idx_active = count; qp = qp; left = left; up = up }
context_is s before p count qp left up is_p is_count is_left is_up = rw (is_p, is_count, is_left, is_up) refl

pub one_longer : (before : List PicMb) (m : PicMb) (size r : ℕ) → size ≡ length before + r → 0 < r → size ≡ length (before ++ m ∷ []) + (r - 1)
one_longer before m size r room some = omega (arith, length-append before (m ∷ []), room, some)

-- ---- I slices

intra_data : (s : SliceStart) (before : List PicMb) (qp : ℕ) (b : Bits) → s.is_p ≡ false → data_from s before qp b ≡ i_data s (s.size - length before) before qp b
intra_data s before qp b intra = rw intra refl

i_start_with : (n : ℕ) (s : SliceStart) (before : List PicMb) (qp : ℕ) (b : Bits) → s.is_p ≡ false → s.size ≡ length before + n → i_data s n before qp b ≡ one_more s before qp b
i_start_with zero s before qp b intra room = sym (one_full s before qp b (is_full (length before) s.size zero room refl))
i_start_with (suc n) s before qp b intra room =
    let some : suc n ≢ 0 = omega arith in
    let is : (length before == s.size) ≡ false = is_open (length before) s.size (suc n) room some in
    one_same false (macroblock (context s before qp) b) (λ r. i_data s n (before ++ placed s r.0 ∷ []) (r.0).qp r.1) (λ r. data_from s (before ++ placed s r.0 ∷ []) (r.0).qp r.1)
    (λ r _. let left : n ≡ s.size - length (before ++ placed s r.0 ∷ []) = omega (arith, length-append before (placed s r.0 ∷ []), room) in
    ap (λ m. i_data s m (before ++ placed s r.0 ∷ []) (r.0).qp r.1) left
    ∙ sym (intra_data s (before ++ placed s r.0 ∷ []) (r.0).qp r.1 intra))
    ∙ ap (λ t. one_with t (macroblock (context s before qp) b) (λ r. data_from s (before ++ placed s r.0 ∷ []) (r.0).qp r.1)) (sym is)

pub i_start : (s : SliceStart) (before : List PicMb) (qp r : ℕ) (b : Bits) → s.is_p ≡ false → s.size ≡ length before + r → data_from s before qp b ≡ one_more s before qp b
i_start s before qp r b intra room = grind (arith, intra_data, i_start_with)

-- ---- P slices

inter_data : (s : SliceStart) (before : List PicMb) (qp : ℕ) (b : Bits) → s.is_p ≡ true → data_from s before qp b ≡ p_data s (s.size - length before) before qp b
inter_data s before qp b inter = rw inter refl

abbrev over_with : (over : Bool) → SliceMbs → SliceMbs
over_with over x = elim over [ true ↦ stopped faults.TooManyMacroblocks | false ↦ x ]

over_same : (over : Bool) (x y : SliceMbs) → (over ≡ false → x ≡ y) → over_with over x ≡ over_with over y
over_same true x y same = refl
over_same false x y same = same refl

abbrev turn_with : (full : Bool) → Result (ℕ × Bits) Fault → (over : ℕ → Bool) → (ℕ × Bits → SliceMbs) → SliceMbs
turn_with full o over k =
    elim full [ true ↦ stopped faults.TooManyMacroblocks | false ↦ elim o [ Err f ↦ stopped f | Ok r ↦ over_with (over r.0) (k r) ] ]

turn_same : (full : Bool) (o : Result (ℕ × Bits) Fault) (over : ℕ → Bool) (k k' : ℕ × Bits → SliceMbs) → ((r : ℕ × Bits) → over r.0 ≡ false → k r ≡ k' r) → turn_with full o over k ≡ turn_with full o over k'
turn_same true o over k k' same = refl
turn_same false (Err f) over k k' same = refl
turn_same false (Ok r) over k k' same = over_same (over r.0) (k r) (k' r) (same r)

abbrev run_with : (more : Bool) → SliceMbs → SliceMbs
run_with more x = elim more [ false ↦ ended | true ↦ x ]

abbrev passed_over : SliceStart → List PicMb → (qp run : ℕ) → List PicMb
passed_over s before qp run = before ++ replicate run (placed s (skipped qp))

passed_length : (s : SliceStart) (before : List PicMb) (qp run : ℕ) → length (passed_over s before qp run) ≡ length before + run
passed_length s before qp run = length-append before (replicate run (placed s (skipped qp))) ∙ ap (λ n. length before + n) (length-replicate run (placed s (skipped qp)))

-- after a run, with one way to go on or another that is the same wherever a macroblock more has room
run_same : (s : SliceStart) (before : List PicMb) (qp run : ℕ) (b : Bits) (k k' : List PicMb → ℕ → Bits → SliceMbs) → run ≤ s.size - length before → length before ≤ s.size →
    ((before' : List PicMb) (qp' : ℕ) (b' : Bits) → length before < length before' → length before' ≤ s.size → k before' qp' b' ≡ k' before' qp' b') →
    after (replicate run (skipped qp)) (after_run s (passed_over s before qp run) qp b k) ≡ after (replicate run (skipped qp)) (after_run s (passed_over s before qp run) qp b k')
run_same s before qp run b k k' few within same =
    let here = passed_over s before qp run in
    ap (λ x. after (replicate run (skipped qp)) (run_with (more_data b) x))
    (one_same (length here == s.size) (macroblock (context s here qp) b) (λ r. k (here ++ placed s r.0 ∷ []) (r.0).qp r.1) (λ r. k' (here ++ placed s r.0 ∷ []) (r.0).qp r.1)
    (λ r room. let long : length (here ++ placed s r.0 ∷ []) ≡ length before + run + 1 = length-append here (placed s r.0 ∷ []) ∙ ap (λ n. n + 1) (passed_length s before qp run) in
    let other : length here ≢ s.size = eqb-false (length here) s.size room in
    same (here ++ placed s r.0 ∷ []) (r.0).qp r.1 (omega (arith, long)) (omega (arith, long, passed_length s before qp run, other, few, within))))

full_turn : (s : SliceStart) (n : ℕ) (before : List PicMb) (qp : ℕ) (b : Bits) → (length before == s.size) ≡ true → p_data s (suc n) before qp b ≡ stopped faults.TooManyMacroblocks
full_turn s n before qp b full = rw (p_data, where_room, full) refl

-- so many turns or more are the same
pub turns_same : (s : SliceStart) (m n : ℕ) (before : List PicMb) (qp : ℕ) (b : Bits) → s.size - length before ≤ m → s.size - length before ≤ n → length before ≤ s.size → p_data s m before qp b ≡ p_data s n before qp b
turns_same s (suc m) (suc n) before qp b enough enough' within =
    turn_same (length before == s.size) (ue b) (λ run. nat_lt (s.size - length before) run)
    (λ r. after (replicate r.0 (skipped qp)) (after_run s (passed_over s before qp r.0) qp r.1 (λ before' qp' b'. p_data s m before' qp' b')))
    (λ r. after (replicate r.0 (skipped qp)) (after_run s (passed_over s before qp r.0) qp r.1 (λ before' qp' b'. p_data s n before' qp' b')))
    (λ r few. run_same s before qp r.0 r.1 (λ before' qp' b'. p_data s m before' qp' b') (λ before' qp' b'. p_data s n before' qp' b') (ltb-false (s.size - length before) r.0 few) within
    (λ before' qp' b' longer inside. turns_same s m n before' qp' b' (omega (arith, enough, longer)) (omega (arith, enough', longer)) inside))
turns_same s zero zero before qp b enough enough' within = refl
turns_same s m n before qp b enough enough' within = grind (arith, full_turn, is_full)

pub p_full : (s : SliceStart) (before : List PicMb) (qp r : ℕ) (b : Bits) → s.is_p ≡ true → s.size ≡ length before + r → r ≡ 0 → data_from s before qp b ≡ stopped faults.TooManyMacroblocks
p_full s before qp r b inter room none = inter_data s before qp b inter ∙ ap (λ m. p_data s m before qp b) (let last : s.size - length before ≡ 0 = omega (arith, room, none) in last)

p_turn : (s : SliceStart) (before : List PicMb) (qp r : ℕ) (b : Bits) → s.is_p ≡ true → s.size ≡ length before + r → r ≢ 0 → data_from s before qp b ≡ p_data s (suc (r - 1)) before qp b
p_turn s before qp r b inter room some = inter_data s before qp b inter ∙ ap (λ m. p_data s m before qp b) (let same : s.size - length before ≡ suc (r - 1) = omega (arith, room, some) in same)

pub p_fault : (s : SliceStart) (before : List PicMb) (qp r : ℕ) (b : Bits) (f : Fault) → s.is_p ≡ true → s.size ≡ length before + r → r ≢ 0 → ue b ≡ Err f → data_from s before qp b ≡ stopped f
p_fault s before qp r b f inter room some read = grind (arith, p_turn, is_open)

pub p_over : (s : SliceStart) (before : List PicMb) (qp r run : ℕ) (b mid : Bits) → s.is_p ≡ true → s.size ≡ length before + r → r ≢ 0 → ue b ≡ Ok (run, mid) → r < run → data_from s before qp b ≡ stopped faults.TooManyMacroblocks
p_over s before qp r run b mid inter room some read more = grind (arith, lt-ltb, p_turn, is_open)

pub p_run : (s : SliceStart) (before : List PicMb) (qp r run : ℕ) (b mid : Bits) → s.is_p ≡ true → s.size ≡ length before + r → r ≢ 0 → ue b ≡ Ok (run, mid) → run ≤ r → data_from s before qp b ≡ after_skipped s run before qp mid
p_run s before qp r run b mid inter room some read few =
    let fits : nat_lt (s.size - length before) run ≡ false = le-ltb (s.size - length before) run (omega (arith, room, few)) in
    let turned : p_data s (suc (r - 1)) before qp b ≡ after (replicate run (skipped qp)) (after_run s (passed_over s before qp run) qp mid (λ before' qp' b'. p_data s (r - 1) before' qp' b')) =
    rw (p_data, where_room, is_open (length before) s.size r room some, read, from_run, fits) refl in
    p_turn s before qp r b inter room some ∙ turned
    ∙ run_same s before qp run mid (λ before' qp' b'. p_data s (r - 1) before' qp' b') (λ before' qp' b'. p_data s (s.size - length before') before' qp' b') (omega (arith, room, few)) (omega (arith, room))
    (λ before' qp' b' longer inside. turns_same s (r - 1) (s.size - length before') before' qp' b' (omega (arith, room, longer)) (omega arith) inside)

-- ---- skipped macroblocks

pub skip_more : (s : SliceStart) (count n : ℕ) (before : List PicMb) (qp : ℕ) (b : Bits) → count ≡ suc n →
    after_skipped s count before qp b ≡ after (skipped qp ∷ []) (after_skipped s n (before ++ placed s (skipped qp) ∷ []) qp b)
skip_more s count n before qp b is = grind (arith, append_assoc)

pub skip_none : (s : SliceStart) (count : ℕ) (before : List PicMb) (qp : ℕ) (b : Bits) → s.is_p ≡ true → count ≡ 0 → after_skipped s count before qp b ≡ run_with (more_data b) (one_more s before qp b)
skip_none s count before qp b inter is = grind (arith, append-nil, more_data, one_same, inter_data)

pub run_ends : (s : SliceStart) (count : ℕ) (before : List PicMb) (qp : ℕ) (b : Bits) → s.is_p ≡ true → count ≡ 0 → more_data b ≡ false → after_skipped s count before qp b ≡ ended
run_ends s count before qp b inter is none = skip_none s count before qp b inter is ∙ ap (λ m. run_with m (one_more s before qp b)) none

pub run_goes_on : (s : SliceStart) (count : ℕ) (before : List PicMb) (qp : ℕ) (b : Bits) → s.is_p ≡ true → count ≡ 0 → more_data b ≡ true → after_skipped s count before qp b ≡ one_more s before qp b
run_goes_on s count before qp b inter is more = skip_none s count before qp b inter is ∙ ap (λ m. run_with m (one_more s before qp b)) more

-- ---- worked examples of macroblocks

abbrev first_context : Context
first_context = record { is_p = false; num_ref_idx_active = 0; qp = 26; left = None; up = None }

abbrev mb_at : List ℕ → Result (Mb × ℕ) Fault
mb_at rbsp = elim (macroblock first_context (start rbsp)) [ Ok r ↦ Ok (r.0, r.1.position) | Err f ↦ Err f ]

abbrev one_level : Residual
one_level = record {
  luma_pattern = 0;
  chroma_pattern = 0;
  mb_qp_delta = pos 0;
  luma_dc = pos 1 ∷ replicate 15 (pos 0);
  luma = replicate 16 (replicate 15 (pos 0));
  cb_dc = replicate 4 (pos 0);
  cr_dc = replicate 4 (pos 0);
  cb_ac = replicate 4 (replicate 15 (pos 0));
  cr_ac = replicate 4 (replicate 15 (pos 0));
}

intra_16x16 : mb_at (0x26 ∷ 0xB0 ∷ []) ≡ Ok (record { syntax = i_16x16 2 0 one_level; qp = 26 }, 11)
unfolding blocks
intra_16x16 = refl

cut_short : mb_at (0x26 ∷ 0xA0 ∷ []) ≡ Err faults.Truncated
unfolding blocks
cut_short = refl

no_type : mb_at (0x0D ∷ 0xC0 ∷ []) ≡ Err faults.OutOfRange
unfolding blocks
no_type = refl

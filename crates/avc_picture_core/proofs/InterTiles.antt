-- Rectangles of one motion, and inter macroblocks of them.
pub mod IntraSides
unfoldable pub use IntraSides.*
use Rattle.avc_transform.specs.MacroblockResidual.{residual_of}
use Rattle.avc_neigh.specs.declared.neighbour_info.Motion.TheVariants as motions

-- ---- what is built without a place, as the built picture has it at its place

-- a block at the same place with the same samples
pub laid_elsewhere : (s : Plane) (size a b column row : ℕ) (f h : ℕ → ℕ → ℕ) → a ≡ column → b ≡ row → ((x y : ℕ) → x < size → y < size → f x y ≡ h x y)
    → with_block s (size * column) (size * row) size size f ≡ with_block s (size * a) (size * b) size size h
laid_elsewhere s size a b column row f h across down same = rw (← across, ← down) (with_block_same s (size * a) (size * b) size size f h same)

-- an intra prediction with its residual
pub predicted_elsewhere : (P : Sides → Around → ℕ → ℕ → Option ℕ) (s : Plane) (size a b column row : ℕ) (here there : Sides) (residual other : ℕ → ℕ → ℤ)
    → a ≡ column → b ≡ row → there ≡ here → ((x y : ℕ) → other x y ≡ residual x y)
    → with_block s (size * column) (size * row) size size (λ x y. sum_of (unwrap_or (P here (seen_from s (size * column) (size * row)) x y) 0) (residual x y))
    ≡ with_block s (size * a) (size * b) size size (λ x y. sum_of (unwrap_or (P there (seen_from s (size * a) (size * b)) x y) 0) (other x y))
predicted_elsewhere P s size a b column row here there residual other across down sides same = simp (across, down, sides, same)

-- planes with the same components
pub planes_same : (a b : Planes) → a.luma ≡ b.luma → a.cb ≡ b.cb → a.cr ≡ b.cr → a ≡ b
planes_same a b l u v =
    let made : Plane → Plane → Plane → Planes = λ luma cb cr. record { luma = luma; cb = cb; cr = cr } in
    ap (λ t. made t a.cb a.cr) l ∙ ap (λ t. made b.luma t a.cr) u ∙ ap (made b.luma b.cb) v

-- ---- refusals

abbrev pub refused_if : (references sides : Bool) → Option Fault
refused_if references sides = if not references then Some RefMissing else (if not sides then Some IntraUnavailable else None)

pub refused_by : (p : Place) (syntax : MbSyntax) (references sides : Bool) → p.mb.syntax ≡ syntax → has_references p syntax ≡ references → has_sides p syntax ≡ sides
    → refusal p ≡ refused_if references sides
refused_by p syntax references sides is r s = rw (is, r, s) refl

-- ---- intra predictions with their residual

pub luma_16x16 : (p : Place) (column row m chroma qp qp_of_chroma : ℕ) (r : Residual) (sides : Sides) (s new : Plane) (mode : Mode16x16) → IsAt column row (i_16x16 m chroma r) qp qp_of_chroma p
    → sides_of p.coded p.address 0 ≡ sides → mode ≡ mode16x16_of m
    → new ≡ with_block s (16 * column) (16 * row) 16 16 (λ x y. sum_of (unwrap_or (intra16x16 sides (seen_from s (16 * column) (16 * row)) mode x y) 0) (luma_residual_16x16 qp r x y))
    → new ≡ luma_after p p.mb.syntax s
luma_16x16 p column row m chroma qp qp_of_chroma r sides s new mode at mine of is =
    rw of at is
    ∙ predicted_elsewhere (λ t a x y. intra16x16 t a (mode16x16_of m) x y) s 16 _ _ column row sides (sides_of p.coded p.address 0) (luma_residual_16x16 qp r) (residual_at p 0)
    at.column_is at.row_is mine (λ x y. rw (at.syntax_is, at.qp_is) refl)
    ∙ sym (ap (λ t. luma_after p t s) at.syntax_is)

-- of a chroma component
chroma_intra : (p : Place) (column row k chroma : ℕ) (sides : Sides) (residual : ℕ → ℕ → ℤ) (s new : Plane) (mode : ModeChroma)
    → p.address % p.coded.width ≡ column → p.address / p.coded.width ≡ row → sides_of p.coded p.address 0 ≡ sides → ((x y : ℕ) → residual_at p (suc k) x y ≡ residual x y)
    → mode ≡ mode_chroma_of chroma
    → new ≡ with_block s (8 * column) (8 * row) 8 8 (λ x y. sum_of (unwrap_or (intra_chroma sides (seen_from s (8 * column) (8 * row)) mode x y) 0) (residual x y))
    → new ≡ with_macroblock p (suc k) (chroma_from p chroma (suc k) s) s
chroma_intra p column row k chroma sides residual s new mode across down mine same of is =
    rw of at is
    ∙ predicted_elsewhere (λ t a x y. intra_chroma t a (mode_chroma_of chroma) x y) s 8 _ _ column row sides (sides_of p.coded p.address 0) residual (residual_at p (suc k))
    across down mine same

-- ---- I_PCM

pub planes_pcm : (p : Place) (column row qp qp_of_chroma : ℕ) (luma cb cr : List ℕ) → IsAt column row (i_pcm luma cb cr) qp qp_of_chroma p → (s new : Planes)
    → new.luma ≡ with_block s.luma (16 * column) (16 * row) 16 16 (λ x y. slice_index luma (16 * y + x))
    → new.cb ≡ with_block s.cb (8 * column) (8 * row) 8 8 (λ x y. slice_index cb (8 * y + x))
    → new.cr ≡ with_block s.cr (8 * column) (8 * row) 8 8 (λ x y. slice_index cr (8 * y + x))
    → (refusal p ≡ None) × (new ≡ planes_after p s)
planes_pcm p column row qp qp_of_chroma luma cb cr at s new l b r = (
  refused_by p (i_pcm luma cb cr) true true at.syntax_is refl refl,
  planes_same new (planes_after p s)
      (l ∙ laid_elsewhere s.luma 16 _ _ column row (λ x y. slice_index luma (16 * y + x)) (λ x y. slice_index luma (16 * y + x)) at.column_is at.row_is (λ x y _ _. refl) ∙ sym (ap (λ t. luma_after p t s.luma) at.syntax_is))
      (b ∙ laid_elsewhere s.cb 8 _ _ column row (λ x y. slice_index cb (8 * y + x)) (λ x y. slice_index cb (8 * y + x)) at.column_is at.row_is (λ x y _ _. refl) ∙ sym (ap (λ t. chroma_after p 1 t s.cb) at.syntax_is))
      (r ∙ laid_elsewhere s.cr 8 _ _ column row (λ x y. slice_index cr (8 * y + x)) (λ x y. slice_index cr (8 * y + x)) at.column_is at.row_is (λ x y _ _. refl) ∙ sym (ap (λ t. chroma_after p 2 t s.cr) at.syntax_is)),
)

-- ---- sides of the macroblock as those of its first block

pub inside_luma : (left top width : ℕ) (sides : Sides) → AreInside (left + 0) (top + 0) width sides → AreInside left top width sides
inside_luma left top width sides i = rw (add-zero left, add-zero top) at i

pub inside_chroma : (column row width wide : ℕ) (sides : Sides) → 8 * column + 8 ≤ wide → AreInside (16 * column + 0) (16 * row + 0) width sides → AreInside (8 * column) (8 * row) wide sides
inside_chroma column row width wide sides room i = record {
  above = λ e. omega (arith, i.above e);
  above_right = λ e. (omega (arith, (i.above_right e).0), room);
  before = λ e. omega (arith, i.before e);
  corner = λ e. (omega (arith, (i.corner e).0), omega (arith, (i.corner e).1));
}

-- ---- an intra macroblock that has its sides

-- planes with the luma of the macroblock, and with an intra prediction and a residual for each chroma component
pub planes_intra : (p : Place) (column row qp qp_of_chroma chroma : ℕ) (syntax : MbSyntax) (r : Residual) (sides : Sides) (mode : ModeChroma) (s new : Planes)
    → IsAt column row syntax qp qp_of_chroma p → sides_of p.coded p.address 0 ≡ sides → mode ≡ mode_chroma_of chroma → has_references p syntax ≡ true → has_sides p syntax ≡ true
    → AreInside (16 * column + 0) (16 * row + 0) s.luma.width sides → 8 * column + 8 ≤ s.cb.width → 8 * column + 8 ≤ s.cr.width
    → ((k : ℕ) (t : Plane) → chroma_after p (suc k) syntax t ≡ with_macroblock p (suc k) (chroma_from p chroma (suc k) t) t)
    → ((x y : ℕ) → residual_at p 1 x y ≡ chroma_residual qp_of_chroma r.cb_dc r.cb_ac x y) → ((x y : ℕ) → residual_at p 2 x y ≡ chroma_residual qp_of_chroma r.cr_dc r.cr_ac x y)
    → new.luma ≡ luma_after p p.mb.syntax s.luma
    → (AreInside (8 * column) (8 * row) s.cb.width sides → new.cb ≡ with_block s.cb (8 * column) (8 * row) 8 8
    (λ x y. sum_of (unwrap_or (intra_chroma sides (seen_from s.cb (8 * column) (8 * row)) mode x y) 0) (chroma_residual qp_of_chroma r.cb_dc r.cb_ac x y)))
    → (AreInside (8 * column) (8 * row) s.cr.width sides → new.cr ≡ with_block s.cr (8 * column) (8 * row) 8 8
    (λ x y. sum_of (unwrap_or (intra_chroma sides (seen_from s.cr (8 * column) (8 * row)) mode x y) 0) (chroma_residual qp_of_chroma r.cr_dc r.cr_ac x y)))
    → (refusal p ≡ None) × (new ≡ planes_after p s)
planes_intra p column row qp qp_of_chroma chroma syntax r sides mode s new at mine of references has inside cb_room cr_room chroma_is of_cb of_cr luma cb cr =
    let after : (k : ℕ) (t u : Plane) → u ≡ with_macroblock p (suc k) (chroma_from p chroma (suc k) t) t → u ≡ chroma_after p (suc k) p.mb.syntax t =
    λ k t u e. e ∙ sym (chroma_is k t) ∙ sym (ap (λ x. chroma_after p (suc k) x t) at.syntax_is) in (
      refused_by p syntax true true at.syntax_is references has,
      planes_same new (planes_after p s) luma
          (after 0 s.cb new.cb (chroma_intra p column row 0 chroma sides (chroma_residual qp_of_chroma r.cb_dc r.cb_ac) s.cb new.cb mode at.column_is at.row_is mine of_cb of
          (cb (inside_chroma column row s.luma.width s.cb.width sides cb_room inside))))
          (after 1 s.cr new.cr (chroma_intra p column row 1 chroma sides (chroma_residual qp_of_chroma r.cr_dc r.cr_ac) s.cr new.cr mode at.column_is at.row_is mine of_cr of
          (cr (inside_chroma column row s.luma.width s.cr.width sides cr_room inside)))),
    )

-- ---- one block of I_NxN

pub nxn_block : (p : Place) (k : ℕ) (cur : Plane) (left top : ℕ) (sides : Sides) (mode : Mode4x4) (f : ℕ → ℕ → ℤ)
    → left_of_mb p 0 + block_x k ≡ left → top_of_mb p 0 + block_y k ≡ top → sides_of p.coded p.address k ≡ sides
    → mode4x4_of (mode_number (slice_index_or p.modes k absent)) ≡ mode
    → ((x y : ℕ) → x < 4 → y < 4 → f x y ≡ residual_at p 0 (block_x k + x) (block_y k + y))
    → with_block cur left top 4 4 (λ x y. sum_of (unwrap_or (intra4x4 sides (seen_from cur left top) mode x y) 0) (f x y)) ≡ with_block4x4 p k cur
nxn_block p k cur left top sides mode f across down mine of same =
    let l = left_of_mb p 0 + block_x k in
    let t = top_of_mb p 0 + block_y k in
    let value : ℕ → ℕ → ℕ = λ x y. unwrap_or (intra4x4 (sides_of p.coded p.address k) (seen_from cur l t) (mode4x4_of (mode_number (slice_index_or p.modes k absent))) x y) 0 in
    rw (← across, ← down, ← mine, ← of)
    (with_block_same cur l t 4 4 (λ x y. sum_of (value x y) (f x y)) (λ x y. sum_of (value x y) (residual_at p 0 (block_x k + x) (block_y k + y)))
    (λ x y column row. ap (sum_of (value x y)) (same x y column row)))

-- its residual
pub nxn_residual : (qp k : ℕ) (r : Residual) (levels : List ℤ) → k < 16 → slice_index_or r.luma k [] ≡ levels → (x y : ℕ) → x < 4 → y < 4
    → residual4x4 qp levels x y ≡ luma_residual qp r (block_x k + x) (block_y k + y)
nxn_residual qp k r levels few mine x y column row =
    cc (in_tile 16 block_at (residual_by_levels qp r.luma) k (block_x k) (block_y k) (luma_tile k (block_x k) (block_y k) few refl refl) x y column row)

-- ---- I_NxN

-- the test of the sides, as the code has it
pub has_nxn : (p : Place) (coded : List (Option ℕ)) (chroma : ℕ) (r : Residual) (readable : ReadableNeighbours) (modes : List NearMode) (mode : ModeChroma)
    → ((k : ℕ) → k < 16 → sides_of p.coded p.address k ≡ readable_sides readable k) → p.modes ≡ modes → mode ≡ mode_chroma_of chroma
    → has_sides p (i_nxn coded chroma r)
    ≡ (list_all (can_nxn readable modes) (range_with_len 0 16) && can_predict_chroma (readable_sides readable 0) mode)
has_nxn p coded chroma r readable modes mode sides are of =
    let P = λ (k : ℕ). can_predict4x4 (sides_of p.coded p.address k) (mode4x4_of (mode_number (slice_index_or p.modes k absent))) in
    ap (λ b. b && can_predict_chroma (sides_of p.coded p.address 0) (mode_chroma_of chroma))
    (same_sixteen P (can_nxn readable modes)
    (λ k low. ap (λ s. can_predict4x4 s (mode4x4_of (mode_number (slice_index_or p.modes k absent)))) (sides k low)
    ∙ ap (λ l. can_predict4x4 (readable_sides readable k) (mode4x4_of (mode_number (slice_index_or l k absent)))) are))
    ∙ ap (λ s. list_all (can_nxn readable modes) (range_with_len 0 16) && can_predict_chroma s (mode_chroma_of chroma)) (sides 0 (omega arith))
    ∙ ap (λ m. list_all (can_nxn readable modes) (range_with_len 0 16) && can_predict_chroma (readable_sides readable 0) m) (sym of)

pub nxn_at : (p : Place) (column row width chroma qp qp_of_chroma : ℕ) (coded : List (Option ℕ)) (r : Residual) (readable : ReadableNeighbours) (modes : List NearMode)
    → IsAt column row (i_nxn coded chroma r) qp qp_of_chroma p → MayRead column row width readable p → p.modes ≡ modes → IsNxnAt column row width readable modes qp r p
nxn_at p column row width chroma qp qp_of_chroma coded r readable modes at may are = record {
  left = ap (λ t. 16 * t) at.column_is;
  top = ap (λ t. 16 * t) at.row_is;
  may_read = may;
  modes_are = are;
  residual_is = λ x y. rw (at.syntax_is, at.qp_is) refl;
}

-- ---- inter

-- a macroblock of inter predictions with their residual
pub planes_inter : (p : Place) (column row : ℕ) (syntax : MbSyntax) (has : Bool) → p.address % p.coded.width ≡ column → p.address / p.coded.width ≡ row → p.mb.syntax ≡ syntax
    → has_references p syntax ≡ true → has_sides p syntax ≡ true → (s new : Planes)
    → luma_after p syntax s.luma ≡ with_macroblock p 0 (inter_at p 0) s.luma → chroma_after p 1 syntax s.cb ≡ with_macroblock p 1 (inter_at p 1) s.cb
    → chroma_after p 2 syntax s.cr ≡ with_macroblock p 2 (inter_at p 2) s.cr
    → (f : ℕ → ℕ → ℕ → ℕ) → ((k x y : ℕ) → k < 3 → x < size_of k → y < size_of k → f k x y ≡ inter_at p k x y)
    → new.luma ≡ with_block s.luma (16 * column) (16 * row) 16 16 (f 0)
    → new.cb ≡ with_block s.cb (8 * column) (8 * row) 8 8 (f 1)
    → new.cr ≡ with_block s.cr (8 * column) (8 * row) 8 8 (f 2)
    → (refusal p ≡ None) × (new ≡ planes_after p s)
planes_inter p column row syntax has across down is references sides s new of_luma of_cb of_cr f same l b r = (
  refused_by p syntax true true is references sides,
  planes_same new (planes_after p s)
      (l ∙ laid_elsewhere s.luma 16 _ _ column row (f 0) (inter_at p 0) across down (λ x y. same 0 x y (omega arith)) ∙ sym of_luma
      ∙ sym (ap (λ t. luma_after p t s.luma) is))
      (b ∙ laid_elsewhere s.cb 8 _ _ column row (f 1) (inter_at p 1) across down (λ x y. same 1 x y (omega arith)) ∙ sym of_cb
      ∙ sym (ap (λ t. chroma_after p 1 t s.cb) is))
      (r ∙ laid_elsewhere s.cr 8 _ _ column row (f 2) (inter_at p 2) across down (λ x y. same 2 x y (omega arith)) ∙ sym of_cr
      ∙ sym (ap (λ t. chroma_after p 2 t s.cr) is)),
)

-- ---- rectangles of a macroblock's components, laid into the planes: two blocks that are one

-- of two rectangles of one size the second is below the first, or beside it, and both together are the third
abbrev AreHalves : (l t w h l2 t2 all_w all_h : ℕ) → Type 0
AreHalves l t w h l2 t2 all_w all_h =
    ((l2 ≡ l) × (t2 ≡ t + h) × (all_w ≡ w) × (all_h ≡ h + h)) ⊎ ((l2 ≡ l + w) × (t2 ≡ t) × (all_w ≡ w + w) × (all_h ≡ h))

-- blocks of a component in the macroblock whose upper left sample is (u, v)
module _ (p : Plane) (u v l t w h l2 t2 all_w all_h : ℕ) (f : ℕ → ℕ → ℕ) (halves : AreHalves l t w h l2 t2 all_w all_h) where
  abbrev with_first : Plane
  with_first = with_block p (u + l) (v + t) w h (λ x y. f (l + x) (t + y))

  abbrev by_second : ℕ → ℕ → ℕ
  by_second x y = if is_inside (u + l2) (v + t2) w h x y then f (l2 + (x - (u + l2))) (t2 + (y - (v + t2))) else sample with_first x y

  abbrev by_both : ℕ → ℕ → ℕ
  by_both x y = if is_inside (u + l) (v + t) all_w all_h x y then f (l + (x - (u + l))) (t + (y - (v + t))) else sample p x y

  each : (x y : ℕ) → x < p.width → y < p.height → by_second x y ≡ by_both x y
  each x y column row = grind (arith, nat_tests, sample-with_block)

  blocks_joined : with_block with_first (u + l2) (v + t2) w h (λ x y. f (l2 + x) (t2 + y)) ≡ with_block p (u + l) (v + t) all_w all_h (λ x y. f (l + x) (t + y))
  blocks_joined = plane_of_same p.width p.height by_second by_both each

-- ---- two rectangles of a macroblock

two_parts : (column row left top w h l2 t2 all_w all_h : ℕ) (f : ℕ → ℕ → ℕ → ℕ) (s0 s1 s2 : Planes) → AreHalves left top w h l2 t2 all_w all_h
    → AreHalves (left / 2) (top / 2) (w / 2) (h / 2) (l2 / 2) (t2 / 2) (all_w / 2) (all_h / 2)
    → s1 ≡ with_part column row left top w h f s0 → s2 ≡ with_part column row l2 t2 w h f s1 → s2 ≡ with_part column row left top all_w all_h f s0
two_parts column row left top w h l2 t2 all_w all_h f s0 s1 s2 luma halves e1 e2 =
    let chroma = λ (p : Plane) (k : ℕ).
    blocks_joined p (8 * column) (8 * row) (left / 2) (top / 2) (w / 2) (h / 2) (l2 / 2) (t2 / 2) (all_w / 2) (all_h / 2) (f k) halves in
    rw (e2, e1) (planes_same (with_part column row l2 t2 w h f (with_part column row left top w h f s0)) (with_part column row left top all_w all_h f s0)
    (blocks_joined s0.luma (16 * column) (16 * row) left top w h l2 t2 all_w all_h (f 0) luma) (chroma s0.cb 1) (chroma s0.cr 2))

-- one below the other, or beside it
pub two_below : (column row left top w h all : ℕ) (f : ℕ → ℕ → ℕ → ℕ) (s0 s1 s2 : Planes) → top % 2 ≡ 0 → h % 2 ≡ 0 → h + h ≡ all
    → s1 ≡ with_part column row left top w h f s0 → s2 ≡ with_part column row left (top + h) w h f s1 → s2 ≡ with_part column row left top w all f s0
two_below column row left top w h all f s0 s1 s2 top_even even sum =
    two_parts column row left top w h left (top + h) w all f s0 s1 s2 (inl (refl, refl, refl, sym sum)) (inl (refl, omega arith, refl, omega arith))

pub two_beside : (column row left top w h all : ℕ) (f : ℕ → ℕ → ℕ → ℕ) (s0 s1 s2 : Planes) → left % 2 ≡ 0 → w % 2 ≡ 0 → w + w ≡ all
    → s1 ≡ with_part column row left top w h f s0 → s2 ≡ with_part column row (left + w) top w h f s1 → s2 ≡ with_part column row left top all h f s0
two_beside column row left top w h all f s0 s1 s2 left_even even sum =
    two_parts column row left top w h (left + w) top all h f s0 s1 s2 (inr (refl, refl, sym sum, refl)) (inr (omega arith, refl, omega arith, refl))

-- the four quarters of a square
pub four_parts : (column row left top half all : ℕ) (f : ℕ → ℕ → ℕ → ℕ) (s0 s1 s2 s3 s4 : Planes) → left % 2 ≡ 0 → top % 2 ≡ 0 → half % 2 ≡ 0 → half + half ≡ all
    → s1 ≡ with_part column row left top half half f s0 → s2 ≡ with_part column row (left + half) top half half f s1
    → s3 ≡ with_part column row left (top + half) half half f s2 → s4 ≡ with_part column row (left + half) (top + half) half half f s3
    → s4 ≡ with_part column row left top all all f s0
four_parts column row left top half all f s0 s1 s2 s3 s4 left_even top_even even sum e1 e2 e3 e4 =
    two_below column row left top all half all f s0 s2 s4 top_even even sum (two_beside column row left top half half all f s0 s1 s2 left_even even sum e1 e2)
    (two_beside column row left (top + half) half half all f s2 s3 s4 left_even even sum e3 e4)

-- ---- the same samples under other words

pub part_same : (column row left top w h : ℕ) (f g : ℕ → ℕ → ℕ → ℕ) (s : Planes) → left % 2 ≡ 0 → top % 2 ≡ 0
    → ((k x y : ℕ) → k < 3 → is_inside left top w h (luma_place k x) (luma_place k y) ≡ true → f k x y ≡ g k x y)
    → with_part column row left top w h f s ≡ with_part column row left top w h g s
part_same column row left top w h f g s left_even top_even same =
    let chroma : (k x y : ℕ) → suc k < 3 → x < w / 2 → y < h / 2 → f (suc k) (left / 2 + x) (top / 2 + y) ≡ g (suc k) (left / 2 + x) (top / 2 + y) =
    λ k x y few across down.
    same (suc k) (left / 2 + x) (top / 2 + y) few
    (inside left top w h (2 * (left / 2 + x)) (2 * (top / 2 + y)) (omega (arith, left_even)) (omega (arith, left_even, across)) (omega (arith, top_even)) (omega (arith, top_even, down))) in
    planes_same (with_part column row left top w h f s) (with_part column row left top w h g s)
    (with_block_same s.luma (16 * column + left) (16 * row + top) w h (λ x y. f 0 (left + x) (top + y)) (λ x y. g 0 (left + x) (top + y))
    (λ x y across down.
    same 0 (left + x) (top + y) (omega arith) (inside left top w h (left + x) (top + y) (omega arith) (omega (arith, across)) (omega arith) (omega (arith, down)))))
    (with_block_same s.cb (8 * column + left / 2) (8 * row + top / 2) (w / 2) (h / 2) (λ x y. f 1 (left / 2 + x) (top / 2 + y)) (λ x y. g 1 (left / 2 + x) (top / 2 + y))
    (λ x y. chroma 0 x y (omega arith)))
    (with_block_same s.cr (8 * column + left / 2) (8 * row + top / 2) (w / 2) (h / 2) (λ x y. f 2 (left / 2 + x) (top / 2 + y)) (λ x y. g 2 (left / 2 + x) (top / 2 + y))
    (λ x y. chroma 1 x y (omega arith)))

-- ---- a whole macroblock

abbrev pub with_square : (column row : ℕ) → (ℕ → ℕ → ℕ → ℕ) → Planes → Planes
with_square column row f s = record {
  luma = with_block s.luma (16 * column) (16 * row) 16 16 (f 0);
  cb = with_block s.cb (8 * column) (8 * row) 8 8 (f 1);
  cr = with_block s.cr (8 * column) (8 * row) 8 8 (f 2);
}

pub whole_part : (column row : ℕ) (f : ℕ → ℕ → ℕ → ℕ) (s : Planes) → with_part column row 0 0 16 16 f s ≡ with_square column row f s
whole_part column row f s =
    let laid : (t : Plane) (size k : ℕ) → with_block t (size * column + 0) (size * row + 0) size size (λ x y. f k (0 + x) (0 + y)) ≡ with_block t (size * column) (size * row) size size (f k) =
    λ t size k. rw (add-zero (size * column), add-zero (size * row))
    (with_block_same t (size * column) (size * row) size size (λ x y. f k (0 + x) (0 + y)) (f k)
    (λ x y _ _. ap (λ i. f k i (0 + y)) (zero-add x) ∙ ap (f k x) (zero-add y))) in
    planes_same (with_part column row 0 0 16 16 f s) (with_square column row f s) (laid s.luma 16 0) (laid s.cb 8 1) (laid s.cr 8 2)

-- ---- a rectangle that is predicted from one picture

module _ {PAD : ℕ} (p : ReferencePicture PAD) (v : Mv) (column row left top w h cw ch : ℕ) (b0 b1 b2 : Option Weight) (s new : Planes) (wide : w ≡ 2 * cw) (high : h ≡ 2 * ch)
    (is0 : b0 ≡ option_map (component_weight 0) p.weights) (is1 : b1 ≡ option_map (component_weight 1) p.weights) (is2 : b2 ≡ option_map (component_weight 2) p.weights) where
  abbrev from_luma : Option Weight → ℕ → ℕ → ℕ
  from_luma b x y = weighted_by b (inter_luma p.planes.now.luma.width p.planes.now.luma.height (sample p.planes.now.luma) v (16 * column + (left + x)) (16 * row + (top + y)))

  abbrev from_chroma : Plane → Option Weight → ℕ → ℕ → ℕ
  from_chroma t b x y = weighted_by b (inter_chroma t.width t.height (sample t) v (8 * column + (left / 2 + x)) (8 * row + (top / 2 + y)))

  abbrev chroma_laid : Plane → Plane → Option Weight → ℕ → ℕ → Plane
  chroma_laid t reference b width height = with_block t (8 * column + left / 2) (8 * row + top / 2) width height (from_chroma reference b)

  narrowed : (t reference : Plane) (b c : Option Weight) → b ≡ c → chroma_laid t reference b cw ch ≡ chroma_laid t reference c (w / 2) (h / 2)
  narrowed t reference b c e =
      ap (λ o. chroma_laid t reference o cw ch) e ∙ ap (λ n. chroma_laid t reference c n ch) (omega (arith, wide)) ∙ ap (chroma_laid t reference c (w / 2)) (omega (arith, high))

  pub part_predicted : new.luma ≡ with_block s.luma (16 * column + left) (16 * row + top) w h (from_luma b0)
      → new.cb ≡ chroma_laid s.cb p.planes.now.cb b1 cw ch → new.cr ≡ chroma_laid s.cr p.planes.now.cr b2 cw ch
      → new ≡ with_part column row left top w h (λ k x y. predicted_from p v k (size_of k * column + x) (size_of k * row + y)) s
  unfolding predicted_from
  part_predicted luma cb cr =
      planes_same new (with_part column row left top w h (λ k x y. predicted_from p v k (size_of k * column + x) (size_of k * row + y)) s)
      (luma ∙ ap (λ b. with_block s.luma (16 * column + left) (16 * row + top) w h (from_luma b)) is0)
      (cb ∙ narrowed s.cb p.planes.now.cb b1 (option_map (component_weight 1) p.weights) is1)
      (cr ∙ narrowed s.cr p.planes.now.cr b2 (option_map (component_weight 2) p.weights) is2)

-- the same without weights, from the places that the code counts
pub part_unweighted : {PAD : ℕ} (p : ReferencePicture PAD) (v : Mv) (column row left top w h cw ch : ℕ) (s new : Planes) → w ≡ 2 * cw → h ≡ 2 * ch → p.weights ≡ None
    → new.luma ≡ with_block s.luma (16 * column + left) (16 * row + top) w h
    (λ x y. inter_luma p.planes.now.luma.width p.planes.now.luma.height (sample p.planes.now.luma) v (16 * column + left + x) (16 * row + top + y))
    → new.cb ≡ with_block s.cb (8 * column + left / 2) (8 * row + top / 2) cw ch
    (λ x y. inter_chroma p.planes.now.cb.width p.planes.now.cb.height (sample p.planes.now.cb) v (8 * column + left / 2 + x) (8 * row + top / 2 + y))
    → new.cr ≡ with_block s.cr (8 * column + left / 2) (8 * row + top / 2) cw ch
    (λ x y. inter_chroma p.planes.now.cr.width p.planes.now.cr.height (sample p.planes.now.cr) v (8 * column + left / 2 + x) (8 * row + top / 2 + y))
    → new ≡ with_part column row left top w h (λ k x y. predicted_from p v k (size_of k * column + x) (size_of k * row + y)) s
part_unweighted p v column row left top w h cw ch s new wide high none luma cb cr =
    let planes = p.planes.now in
    let weight : (k : ℕ) → None ≡ option_map (component_weight k) p.weights = λ k. ap (option_map (component_weight k)) (sym none) in
    part_predicted p v column row left top w h cw ch None None None s new wide high (weight 0) (weight 1) (weight 2)
    (luma ∙ laid_by s.luma (16 * column) (16 * row) left top w h (inter_luma planes.luma.width planes.luma.height (sample planes.luma) v) None refl)
    (cb ∙ laid_by s.cb (8 * column) (8 * row) (left / 2) (top / 2) cw ch (inter_chroma planes.cb.width planes.cb.height (sample planes.cb) v) None refl)
    (cr ∙ laid_by s.cr (8 * column) (8 * row) (left / 2) (top / 2) cw ch (inter_chroma planes.cr.width planes.cr.height (sample planes.cr) v) None refl)

-- ---- inter macroblocks: refused, or predicted into the planes, with their residual

-- each block has a picture to be predicted from
abbrev pub have_all : Place → List Motion → Bool
have_all p motion = list_all (λ m. is_picture (reference_of p.coded p.slice m)) motion

-- a macroblock of which a block has none
pub refused_inter : (p : Place) (syntax : MbSyntax) (motion : List Motion) (result : Result (Unit {0}) Fault) (f : Fault) (s new : Planes)
    → p.mb.syntax ≡ syntax → has_references p syntax ≡ have_all p p.motion → has_sides p syntax ≡ true → p.motion ≡ motion
    → result ≡ Err f → (f ≡ RefMissing) × (have_all p motion ≡ false) → ArePlanesBuilt p result s new
refused_inter p syntax motion result f s new is references sides mine errs missing =
    subst (λ r. ArePlanesBuilt p r s new) (sym errs)
    (refused_by p syntax false true is (references ∙ ap (have_all p) mine ∙ missing.1) sides ∙ ap Some (sym missing.0))

module _ (p : Place) (column row : ℕ) (motion : List Motion) (across : p.address % p.coded.width ≡ column) (down : p.address / p.coded.width ≡ row) (mine : p.motion ≡ motion) where
  -- what is predicted_samples without a place
  abbrev pub predicted_samples : (k x y : ℕ) → ℕ
  predicted_samples = predicted_at p.coded p.slice column row motion

  -- is the prediction at the macroblock's place
  pub predicted_there : (k x y : ℕ) → sum_of (predicted_samples k x y) (residual_at p k x y) ≡ inter_at p k x y
  predicted_there k x y = rw (← across, ← down, ← mine) refl

-- ---- without a residual

-- a sample that was laid is one of the plane
laid_small : (s new : Plane) (left top size : ℕ) (f : ℕ → ℕ → ℕ) → new ≡ with_block s left top size size f → left + size ≤ s.width → top + size ≤ s.height
    → ((x y : ℕ) → x < new.width → y < new.height → sample new x y ≤ 255) → (x y : ℕ) → x < size → y < size → f x y ≤ 255
laid_small s new left top size f e columns rows small x y column row = grind (arith, nat_tests, sample-with_block, inside, small (left + x) (top + y))

module _ (p : Place) (column row qp qp_of_chroma : ℕ) (motion : List Motion) (s new : Planes) (at : IsAt column row p_skip qp qp_of_chroma p) (mine : p.motion ≡ motion) (room : CoverMacroblock column row s)
    (are : (have_all p motion ≡ true) × (new ≡ with_part column row 0 0 16 16 (predicted_at p.coded p.slice column row motion) s))
    (l : (x y : ℕ) → x < new.luma.width → y < new.luma.height → sample new.luma x y ≤ 255)
    (b : (x y : ℕ) → x < new.cb.width → y < new.cb.height → sample new.cb x y ≤ 255)
    (r : (x y : ℕ) → x < new.cr.width → y < new.cr.height → sample new.cr x y ≤ 255) where
  abbrev f : (k x y : ℕ) → ℕ
  f = predicted_at p.coded p.slice column row motion

  all : new ≡ with_square column row f s
  all = are.1 ∙ whole_part column row f s

  kept : (k x y : ℕ) → f k x y ≤ 255 → f k x y ≡ inter_at p k x y
  kept k x y small =
      sym (unchanged (f k x y) (residual_at p k x y) small (ap (λ t. residual_of p.coded.chroma_qp_index_offset p.mb.qp t k x y) at.syntax_is))
      ∙ predicted_there p column row motion at.column_is at.row_is mine k x y

  each_kept : (k x y : ℕ) → k < 3 → x < size_of k → y < size_of k → f k x y ≡ inter_at p k x y
  each_kept zero x y few left top = kept 0 x y (laid_small s.luma new.luma (16 * column) (16 * row) 16 (f 0) (ap (λ (t : Planes). t.luma) all) room.luma.columns room.luma.rows l x y left top)
  each_kept (suc zero) x y few left top = kept 1 x y (laid_small s.cb new.cb (8 * column) (8 * row) 8 (f 1) (ap (λ (t : Planes). t.cb) all) room.cb.columns room.cb.rows b x y left top)
  each_kept (suc (suc zero)) x y few left top = kept 2 x y (laid_small s.cr new.cr (8 * column) (8 * row) 8 (f 2) (ap (λ (t : Planes). t.cr) all) room.cr.columns room.cr.rows r x y left top)
  each_kept (suc (suc (suc k))) x y few left top = absurd (omega (arith, few))

  pub planes_skip : (refusal p ≡ None) × (new ≡ planes_after p s)
  planes_skip =
      planes_inter p column row p_skip true at.column_is at.row_is at.syntax_is (ap (have_all p) mine ∙ are.0) refl s new refl refl refl f each_kept
      (ap (λ (t : Planes). t.luma) all) (ap (λ (t : Planes). t.cb) all) (ap (λ (t : Planes). t.cr) all)

-- ---- with a residual

module _ (p : Place) (column row qp qp_of_chroma : ℕ) (mb_type : PMbType) (ref_idx : List ℕ) (mvd : List Mvd) (r : Residual) (motion : List Motion) (s mid new : Planes)
    (at : IsAt column row (p_inter mb_type ref_idx mvd r) qp qp_of_chroma p) (mine : p.motion ≡ motion) (room : CoverMacroblock column row s)
    (are : (have_all p motion ≡ true) × (mid ≡ with_part column row 0 0 16 16 (predicted_at p.coded p.slice column row motion) s)) where
  abbrev first : (k x y : ℕ) → ℕ
  first = predicted_at p.coded p.slice column row motion

  abbrev summed : (k x y : ℕ) → ℕ
  summed k x y = sum_of (first k x y) (residual_at p k x y)

  -- a residual over the prediction of a component
  over : (t u v : Plane) (k left top size : ℕ) (g : ℕ → ℕ → ℤ) → left + size ≤ t.width → top + size ≤ t.height → u ≡ with_block t left top size size (first k)
      → v ≡ with_residual u left top size size g → ((x y : ℕ) → g x y ≡ residual_at p k x y) → v ≡ with_block t left top size size (summed k)
  over t u v k left top size g columns rows laid added same =
      rw (added, laid, residual_over t left top size size (first k) g columns rows)
      (with_block_same t left top size size (λ x y. sum_of (first k x y) (g x y)) (summed k) (λ x y across down. ap (sum_of (first k x y)) (same x y)))

  pub planes_parted : new.luma ≡ with_residual mid.luma (16 * column) (16 * row) 16 16 (luma_residual qp r)
      → new.cb ≡ with_residual mid.cb (8 * column) (8 * row) 8 8 (chroma_residual qp_of_chroma r.cb_dc r.cb_ac)
      → new.cr ≡ with_residual mid.cr (8 * column) (8 * row) 8 8 (chroma_residual qp_of_chroma r.cr_dc r.cr_ac)
      → (refusal p ≡ None) × (new ≡ planes_after p s)
  planes_parted l b c =
      let laid : mid ≡ with_square column row first s = are.1 ∙ whole_part column row first s in
      planes_inter p column row (p_inter mb_type ref_idx mvd r) true at.column_is at.row_is at.syntax_is (ap (have_all p) mine ∙ are.0) refl s new refl refl refl summed
      (λ k x y few left top. predicted_there p column row motion at.column_is at.row_is mine k x y)
      (over s.luma mid.luma new.luma 0 (16 * column) (16 * row) 16 (luma_residual qp r) room.luma.columns room.luma.rows (ap (λ (t : Planes). t.luma) laid) l
      (λ x y. rw (at.syntax_is, at.qp_is) refl))
      (over s.cb mid.cb new.cb 1 (8 * column) (8 * row) 8 (chroma_residual qp_of_chroma r.cb_dc r.cb_ac) room.cb.columns room.cb.rows
      (ap (λ (t : Planes). t.cb) laid) b (λ x y. rw (at.syntax_is, at.chroma_is) refl))
      (over s.cr mid.cr new.cr 2 (8 * column) (8 * row) 8 (chroma_residual qp_of_chroma r.cr_dc r.cr_ac) room.cr.columns room.cr.rows
      (ap (λ (t : Planes). t.cr) laid) c (λ x y. rw (at.syntax_is, at.chroma_is) refl))

-- ---- blocks that are predicted together have one motion

-- the bounds of a place in a rectangle
pub bounds : (quarter_left quarter_top w h x y : ℕ) → is_inside quarter_left quarter_top w h x y ≡ true → (quarter_left ≤ x) × (x < quarter_left + w) × (quarter_top ≤ y) × (y < quarter_top + h)
bounds quarter_left quarter_top w h x y =
    by_place (λ t. t ≡ true → (quarter_left ≤ x) × (x < quarter_left + w) × (quarter_top ≤ y) × (y < quarter_top + h)) quarter_left quarter_top w h x y
    (λ a b c d _. (a, b, c, d)) (λ none e. absurd (false≢true e))

-- block k has the motion of block n
abbrev same_as : List Motion → (n k : ℕ) → Type 0
same_as motion n k = block_motion motion k ≡ block_motion motion n

have_one : (motion : List Motion) (quarter_left quarter_top w h first : ℕ) → block_at quarter_left quarter_top ≡ first
    → ((x y : ℕ) → quarter_left ≤ x → x < quarter_left + w → quarter_top ≤ y → y < quarter_top + h → same_as motion first (block_at x y)) → HaveOneMotion motion quarter_left quarter_top w h
have_one motion quarter_left quarter_top w h first corner all = record {
  same = λ x y e.
      let b = bounds quarter_left quarter_top w h x y e in
      all x y b.0 b.1 b.2 b.3 ∙ sym (ap (block_motion motion) corner);
}

-- ---- a quarter

module _ (P : ℕ → Type 0) (q x y : ℕ) (few : q < 4) (x_low : 8 * (q % 2) ≤ x) (x_high : x < 8 * (q % 2) + 8) (y_low : 8 * (q / 2) ≤ y) (y_high : y < 8 * (q / 2) + 8) where
  by_block : (x < 8 * (q % 2) + 4 → y < 8 * (q / 2) + 4 → P (4 * q)) → (8 * (q % 2) + 4 ≤ x → y < 8 * (q / 2) + 4 → P (4 * q + 1))
      → (x < 8 * (q % 2) + 4 → 8 * (q / 2) + 4 ≤ y → P (4 * q + 2)) → (8 * (q % 2) + 4 ≤ x → 8 * (q / 2) + 4 ≤ y → P (4 * q + 3)) → P (block_at x y)
  by_block a b c d =
      ⊎_elim
      (λ left. ⊎_elim (λ upper. subst P (omega (arith, few, x_low, left, y_low, upper)) (a left upper))
      (λ lower. subst P (omega (arith, few, x_low, left, y_high, lower)) (c left lower)) (cases_lt y (8 * (q / 2) + 4)))
      (λ right. ⊎_elim (λ upper. subst P (omega (arith, few, x_high, right, y_low, upper)) (b right upper))
      (λ lower. subst P (omega (arith, few, x_high, right, y_high, lower)) (d right lower)) (cases_lt y (8 * (q / 2) + 4)))
      (cases_lt x (8 * (q % 2) + 4))

module _ (motion : List Motion) (q : ℕ) (few : q < 4) where
  abbrev quarter_left : ℕ
  quarter_left = 8 * (q % 2)

  abbrev quarter_top : ℕ
  quarter_top = 8 * (q / 2)

  pub whole_quarter : IsQuarterShape motion q Whole → HaveOneMotion motion quarter_left quarter_top 8 8
  whole_quarter s =
      have_one motion quarter_left quarter_top 8 8 (4 * q) (omega (arith, few))
      (λ x y l r t u. by_block (same_as motion (4 * q)) q x y few l r t u (λ _ _. refl) (λ _ _. sym s.0) (λ _ _. sym s.2) (λ _ _. sym s.1 ∙ sym s.2))

  pub upper_of_quarter : IsQuarterShape motion q WideHalves → HaveOneMotion motion quarter_left quarter_top 8 4
  upper_of_quarter s =
      have_one motion quarter_left quarter_top 8 4 (4 * q) (omega (arith, few))
      (λ x y l r t u. by_block (same_as motion (4 * q)) q x y few l r t (omega (arith, u)) (λ _ _. refl) (λ _ _. sym s.0)
      (λ _ v. absurd (omega (arith, u, v))) (λ _ v. absurd (omega (arith, u, v))))

  pub lower_of_quarter : IsQuarterShape motion q WideHalves → HaveOneMotion motion quarter_left (quarter_top + 4) 8 4
  lower_of_quarter s =
      have_one motion quarter_left (quarter_top + 4) 8 4 (4 * q + 2) (omega (arith, few))
      (λ x y l r t u. by_block (same_as motion (4 * q + 2)) q x y few l r (omega (arith, t)) (omega (arith, u))
      (λ _ v. absurd (omega (arith, t, v))) (λ _ v. absurd (omega (arith, t, v))) (λ _ _. refl) (λ _ _. sym s.1))

  pub left_of_quarter : IsQuarterShape motion q TallHalves → HaveOneMotion motion quarter_left quarter_top 4 8
  left_of_quarter s =
      have_one motion quarter_left quarter_top 4 8 (4 * q) (omega (arith, few))
      (λ x y l r t u. by_block (same_as motion (4 * q)) q x y few l (omega (arith, r)) t u (λ _ _. refl)
      (λ v _. absurd (omega (arith, r, v))) (λ _ _. sym s.0) (λ v _. absurd (omega (arith, r, v))))

  pub right_of_quarter : IsQuarterShape motion q TallHalves → HaveOneMotion motion (quarter_left + 4) quarter_top 4 8
  right_of_quarter s =
      have_one motion (quarter_left + 4) quarter_top 4 8 (4 * q + 1) (omega (arith, few))
      (λ x y l r t u. by_block (same_as motion (4 * q + 1)) q x y few (omega (arith, l)) (omega (arith, r)) t u
      (λ v _. absurd (omega (arith, l, v))) (λ _ _. refl) (λ v _. absurd (omega (arith, l, v))) (λ _ _. sym s.1))

-- in as few rectangles as the shape of a quarter allows
pub ruleset quarter_parts = (whole_quarter, upper_of_quarter, lower_of_quarter, left_of_quarter, right_of_quarter)

-- ---- a macroblock

-- a number is one of four
one_of_four : (P : ℕ → Type 0) (first k : ℕ) → first ≤ k → k < first + 4 → P first → P (first + 1) → P (first + 2) → P (first + 3) → P k
one_of_four P first k low high a b c d = grind (arith, cases_lt)

module _ (motion : List Motion) (whole : HasWholeQuarters motion) where
  -- a block has the motion of the first block of its quarter
  in_quarter : (k : ℕ) → k < 16 → same_as motion (4 * (k / 4)) k
  in_quarter k few =
      let q = k / 4 in
      let w = whole q (omega (arith, few)) in
      one_of_four (same_as motion (4 * q)) (4 * q) k (omega arith) (omega arith) refl (sym w.0) (sym w.2) (sym w.1 ∙ sym w.2)

  by_quarter : (n x y : ℕ) → x < 16 → y < 16 → (x < 8 → y < 8 → same_as motion n 0) → (8 ≤ x → y < 8 → same_as motion n 4)
      → (x < 8 → 8 ≤ y → same_as motion n 8) → (8 ≤ x → 8 ≤ y → same_as motion n 12) → same_as motion n (block_at x y)
  by_quarter n x y column row a b c d =
      let at : (m : ℕ) → 4 * (block_at x y / 4) ≡ m → same_as motion n m → same_as motion n (block_at x y) =
      λ m e s. in_quarter (block_at x y) (omega (arith, column, row)) ∙ ap (block_motion motion) e ∙ s in
      ⊎_elim
      (λ left. ⊎_elim (λ upper. at 0 (omega (arith, left, upper)) (a left upper)) (λ lower. at 8 (omega (arith, left, lower, row)) (c left lower)) (cases_lt y 8))
      (λ right. ⊎_elim (λ upper. at 4 (omega (arith, column, right, upper)) (b right upper)) (λ lower. at 12 (omega (arith, column, right, lower, row)) (d right lower)) (cases_lt y 8))
      (cases_lt x 8)

pub whole_macroblock : (motion : List Motion) → IsMacroblockShape motion Whole → HaveOneMotion motion 0 0 16 16
whole_macroblock motion s =
    have_one motion 0 0 16 16 0 refl
    (λ x y _ r _ u. by_quarter motion s.0 0 x y (omega (arith, r)) (omega (arith, u)) (λ _ _. refl) (λ _ _. sym s.1.0) (λ _ _. sym s.1.2) (λ _ _. sym s.1.1 ∙ sym s.1.2))

pub upper_half : (motion : List Motion) → IsMacroblockShape motion WideHalves → HaveOneMotion motion 0 0 16 8
upper_half motion s =
    have_one motion 0 0 16 8 0 refl
    (λ x y _ r _ u. by_quarter motion s.0 0 x y (omega (arith, r)) (omega (arith, u)) (λ _ _. refl) (λ _ _. sym s.1.0)
    (λ _ v. absurd (omega (arith, u, v))) (λ _ v. absurd (omega (arith, u, v))))

pub lower_half : (motion : List Motion) → IsMacroblockShape motion WideHalves → HaveOneMotion motion 0 8 16 8
lower_half motion s =
    have_one motion 0 8 16 8 8 refl
    (λ x y _ r t u. by_quarter motion s.0 8 x y (omega (arith, r)) (omega (arith, u)) (λ _ v. absurd (omega (arith, t, v))) (λ _ v. absurd (omega (arith, t, v)))
    (λ _ _. refl) (λ _ _. sym s.1.1))

pub left_half : (motion : List Motion) → IsMacroblockShape motion TallHalves → HaveOneMotion motion 0 0 8 16
left_half motion s =
    have_one motion 0 0 8 16 0 refl
    (λ x y _ r _ u. by_quarter motion s.0 0 x y (omega (arith, r)) (omega (arith, u)) (λ _ _. refl) (λ v _. absurd (omega (arith, r, v)))
    (λ _ _. sym s.1.0) (λ v _. absurd (omega (arith, r, v))))

pub right_half : (motion : List Motion) → IsMacroblockShape motion TallHalves → HaveOneMotion motion 8 0 8 16
right_half motion s =
    have_one motion 8 0 8 16 4 refl
    (λ x y l r _ u. by_quarter motion s.0 4 x y (omega (arith, r)) (omega (arith, u)) (λ v _. absurd (omega (arith, l, v))) (λ _ _. refl)
    (λ v _. absurd (omega (arith, l, v))) (λ _ _. sym s.1.1))

-- in as few rectangles as the shape of a macroblock allows
pub ruleset macroblock_parts = (whole_macroblock, upper_half, lower_half, left_half, right_half)

-- all blocks are the same
pub whole_blocks : (motion : List Motion) → IsMacroblockShape motion Whole → (k : ℕ) → k < 16 → same_as motion 0 k
whole_blocks motion s k few =
    in_quarter motion s.0 k few
    ∙ one_of_four (λ q. same_as motion 0 (4 * q)) 0 (k / 4) (omega arith) (omega (arith, few)) refl (sym s.1.0) (sym s.1.2) (sym s.1.1 ∙ sym s.1.2)

-- blocks that have one motion are predicted at once
pub one_shape : (motion : List Motion) → AreOfOneMotion motion → IsMacroblockShape motion Whole
one_shape motion one =
    let m = block_motion motion 0 in
    let at : (k : ℕ) → k < 16 → block_motion motion k ≡ m =
    λ k few. ap (λ l. block_motion l k) one ∙ get_or-replicate 16 k m motions.Absent few in
    let same : (j k : ℕ) → j < 16 → k < 16 → block_motion motion j ≡ block_motion motion k = λ j k a b. at j a ∙ sym (at k b) in (
      λ q few. (same _ _ (omega arith) (omega arith), same _ _ (omega arith) (omega arith), same _ _ (omega arith) (omega arith)),
      (same 0 4 (omega arith) (omega arith), same 8 12 (omega arith) (omega arith), same 0 8 (omega arith) (omega arith)),
    )

-- ---- samples that are predicted by the list of reference pictures are the predictions of every coded picture with these pictures

-- ---- which reference pictures there are

usable_on : {PAD : ℕ} (w h column row : ℕ) (p : ReferencePicture PAD) → column < w → row < h → IsUsable w h p → IsUsableAt column row p
usable_on w h column row p a b u = record {
  planes = record {
    luma = record { columns = omega (arith, a, u.sized.luma_width); rows = omega (arith, b, u.sized.luma_height) };
    cb = record { columns = omega (arith, a, u.sized.cb_width); rows = omega (arith, b, u.sized.cb_height) };
    cr = record { columns = omega (arith, a, u.sized.cr_width); rows = omega (arith, b, u.sized.cr_height) };
  };
  weights = u.weights;
}

-- what holds of each entry that is there
pub some_at : {X : Type 0} (P : X → Type 0) (xs : List (Option X)) (r : ℕ) → All (λ o. IfSome o P) xs → IfSome (slice_index_or xs r None) P
some_at P xs r all =
    ⊎_elim (λ low. All-get_or (λ o. IfSome o P) xs r None low all) (λ off. subst (λ o. IfSome o P) (sym (get_or_past xs r None off)) tt) (cases_lt r (length xs))

-- ---- pictures of a coded picture and of the list

picture_shown : {PAD : ℕ} (c : Coded) (slice r : ℕ) (o : Option (ReferencePicture PAD)) → ShowsReference c slice r o → is_picture (frame_named c slice r) ≡ is_some o
picture_shown c slice r None e = e
picture_shown c slice r (Some p) s = ap is_picture s.frame

is_shown : {PAD : ℕ} (c : Coded) (slice : ℕ) (references : List (Option (ReferencePicture PAD))) → AreReferences c slice references
    → (m : Motion) → is_picture (reference_of c slice m) ≡ is_some (picture_in references m)
is_shown c slice references are (motions.Inter r v) = picture_shown c slice r (slice_index_or references r None) (are.each r)
is_shown c slice references are m = refl

same_all : {X : Type 0} (p q : X → Bool) → ((x : X) → p x ≡ q x) → (xs : List X) → list_all p xs ≡ list_all q xs
same_all p q e [] = refl
same_all p q e (x ∷ xs) = rw (e x, same_all p q e xs) refl

pub pictures_shown : {PAD : ℕ} (c : Coded) (slice : ℕ) (references : List (Option (ReferencePicture PAD))) (motion : List Motion) → AreReferences c slice references
    → list_all (λ m. is_picture (reference_of c slice m)) motion ≡ have_pictures references motion
pictures_shown c slice references motion are =
    same_all (λ m. is_picture (reference_of c slice m)) (λ m. is_some (picture_in references m)) (is_shown c slice references are) motion

-- ---- samples

module _ {PAD : ℕ} (c : Coded) (slice r w h : ℕ) (p : ReferencePicture PAD) (v : Mv) (wide : c.width ≡ w) (high : c.height ≡ h) (shows : IsReference c slice r p) (usable : IsUsable w h p) where
  abbrev planes : Planes
  planes = padded_planes_of p.planes.now

  fetched_is : (k x y : ℕ) → fetched_from planes v k x y ≡ fetched c slice (motions.Inter r v) k x y
  fetched_is zero x y = rw (shows.frame, wide, high) (cc (usable.sized.luma_width, usable.sized.luma_height))
  fetched_is (suc zero) x y = rw (shows.frame, wide, high) (cc (usable.sized.cb_width, usable.sized.cb_height))
  fetched_is (suc (suc k)) x y = rw (shows.frame, wide, high) (cc (usable.sized.cr_width, usable.sized.cr_height))

  from_is : (k x y : ℕ) → predicted_from p v k x y ≡ inter_predicted c slice (motions.Inter r v) k x y
  unfolding predicted_from
  from_is k x y =
      ap (weighted_by (option_map (component_weight k) p.weights)) (fetched_is k x y)
      ∙ ap (λ o. weighted_by (option_map (component_weight k) o) (fetched c slice (motions.Inter r v) k x y)) (sym shows.weights)

by_entry : {PAD : ℕ} (c : Coded) (slice r w h : ℕ) (v : Mv) (k x y : ℕ) → c.width ≡ w → c.height ≡ h → (o : Option (ReferencePicture PAD)) → (references : List (Option (ReferencePicture PAD)))
    → slice_index_or references r None ≡ o → ShowsReference c slice r o → IfSome o (IsUsable w h) → is_some o ≡ true
    → predicted_in references (motions.Inter r v) k x y ≡ inter_predicted c slice (motions.Inter r v) k x y
by_entry c slice r w h v k x y wide high None references e shows usable there = absurd (false≢true there)
by_entry c slice r w h v k x y wide high (Some p) references e shows usable there = rw e (from_is c slice r w h p v wide high shows usable k x y)

predicted_is : {PAD : ℕ} (c : Coded) (slice w h : ℕ) (references : List (Option (ReferencePicture PAD))) (k x y : ℕ) → c.width ≡ w → c.height ≡ h → AreReferences c slice references → AreUsable w h references
    → (m : Motion) → is_some (picture_in references m) ≡ true → predicted_in references m k x y ≡ inter_predicted c slice m k x y
predicted_is c slice w h references k x y wide high are all (motions.Inter r v) there =
    by_entry c slice r w h v k x y wide high (slice_index_or references r None) references refl (are.each r) (some_at (IsUsable w h) references r all) there
predicted_is c slice w h references k x y wide high are all m there = absurd (false≢true there)

-- a block has a picture where all have
pub there : {PAD : ℕ} (references : List (Option (ReferencePicture PAD))) (motion : List Motion) (i : ℕ) → length motion ≡ 16 → i < 16 → have_pictures references motion ≡ true
    → is_some (picture_in references (block_motion motion i)) ≡ true
there references motion i long few all =
    All-get_or (λ m. is_some (picture_in references m) ≡ true) motion i motions.Absent (omega (arith, long, few)) (AllPass-from_list_all (λ m. is_some (picture_in references m)) motion all)

pub all_predicted : {PAD : ℕ} (references : List (Option (ReferencePicture PAD))) (w h column row : ℕ) (motion : List Motion) (old new : Planes) (c : Coded) (slice : ℕ)
    → length motion ≡ 16 → AreUsable w h references → have_pictures references motion ≡ true → new ≡ with_part column row 0 0 16 16 (wanted references column row motion) old
    → c.width ≡ w → c.height ≡ h → AreReferences c slice references → new ≡ with_part column row 0 0 16 16 (predicted_at c slice column row motion) old
all_predicted references w h column row motion old new c slice long all pictures filled wide high are =
    filled
    ∙ part_same column row 0 0 16 16 (wanted references column row motion) (predicted_at c slice column row motion) old refl refl
    (λ k x y few e.
    let b = bounds 0 0 16 16 (luma_place k x) (luma_place k y) e in
    predicted_is c slice w h references k (size_of k * column + x) (size_of k * row + y) wide high are all (motion_at motion k x y)
    (there references motion (block_at (luma_place k x) (luma_place k y)) long (omega (arith, b.1, b.3)) pictures))

-- ---- one rectangle

pub part_is : {PAD : ℕ} (references : List (Option (ReferencePicture PAD))) (column row : ℕ) (motion : List Motion) (left top w h r : ℕ) (v : Mv) (p : ReferencePicture PAD) (old new : Planes)
    → left % 2 ≡ 0 → top % 2 ≡ 0
    → HaveOneMotion motion left top w h → block_motion motion (block_at left top) ≡ motions.Inter r v → picture_in references (motions.Inter r v) ≡ Some p
    → new ≡ with_part column row left top w h (λ k x y. predicted_from p v k (size_of k * column + x) (size_of k * row + y)) old
    → new ≡ with_part column row left top w h (wanted references column row motion) old
part_is references column row motion left top w h r v p old new left_even top_even one is named set =
    set
    ∙ part_same column row left top w h (λ k x y. predicted_from p v k (size_of k * column + x) (size_of k * row + y)) (wanted references column row motion) old left_even top_even
    (λ k x y few e. rw (one.same (luma_place k x) (luma_place k y) e ∙ is, named) refl)

-- ---- planes of which a rectangle was predicted

-- cover the macroblock still
pub cover_part : (column row left top w h : ℕ) (f : ℕ → ℕ → ℕ → ℕ) (s new : Planes) → new ≡ with_part column row left top w h f s → CoverMacroblock column row s → CoverMacroblock column row new
cover_part column row left top w h f s new e room =
    subst (CoverMacroblock column row) (sym e) (record {
      luma = record { columns = room.luma.columns; rows = room.luma.rows };
      cb = record { columns = room.cb.columns; rows = room.cb.rows };
      cr = record { columns = room.cr.columns; rows = room.cr.rows };
    })

-- ---- one block of 4x4 samples

in_block : (left x : ℕ) → left % 4 ≡ 0 → left ≤ x → x < left + 4 → x / 4 ≡ left / 4
in_block left x even from below = omega arith

-- has one motion
pub one_block : (motion : List Motion) (left top : ℕ) → left % 4 ≡ 0 → top % 4 ≡ 0 → HaveOneMotion motion left top 4 4
one_block motion left top left_even top_even = record {
  same = λ x y e.
      let b = bounds left top 4 4 x y e in
      let across = in_block left x left_even b.0 b.1 in
      let down = in_block top y top_even b.2 b.3 in
      ap (block_motion motion) (omega (arith, across, down));
}

-- ---- blocks that all have one motion

all_from : {X : Type 0} (p : X → Bool) (d : X) (xs : List X) → ((k : ℕ) → k < length xs → p (slice_index_or xs k d) ≡ true) → list_all p xs ≡ true
all_from p d xs f = list_all-from_AllPass p xs (All-from_get_or (λ x. p x ≡ true) xs d f)

as_first : (p : Motion → Bool) (motion : List Motion) → length motion ≡ 16 → IsMacroblockShape motion Whole → (b : Bool) → p (block_motion motion 0) ≡ b → p (block_motion motion 0) ≡ list_all p motion
as_first p motion long shape true e =
    e ∙ sym (all_from p motions.Absent motion (λ k h. ap p (whole_blocks motion shape k (omega (arith, long, h))) ∙ e))
as_first p motion long shape false e = e ∙ sym (list_all_at p motion 0 motions.Absent (omega (arith, long)) e)

pub all_as_first : {PAD : ℕ} (references : List (Option (ReferencePicture PAD))) (motion : List Motion) → length motion ≡ 16 → IsMacroblockShape motion Whole
    → is_some (picture_in references (block_motion motion 0)) ≡ have_pictures references motion
all_as_first references motion long shape =
    as_first (λ m. is_some (picture_in references m)) motion long shape (is_some (picture_in references (block_motion motion 0))) refl

-- the picture of a block can be predicted from
pub usable_in : {PAD : ℕ} (w h column row : ℕ) (references : List (Option (ReferencePicture PAD))) (m : Motion) (p : ReferencePicture PAD) → AreUsable w h references → column < w → row < h
    → picture_in references m ≡ Some p → IsUsableAt column row p
usable_in w h column row references (motions.Inter r v) p all a b e =
    usable_on w h column row p a b (subst (λ o. IfSome o (IsUsable w h)) e (some_at (IsUsable w h) references r all))
usable_in w h column row references m p all a b e = cc

some_usable_on : {PAD : ℕ} (w h column row : ℕ) (o : Option (ReferencePicture PAD)) → column < w → row < h → IfSome o (IsUsable w h) → IfSome o (IsUsableAt column row)
some_usable_on w h column row (Some p) a b u = usable_on w h column row p a b u
some_usable_on w h column row None a b u = tt

-- each of them can be predicted from
pub usable_each : {PAD : ℕ} (w h column row : ℕ) (references : List (Option (ReferencePicture PAD))) → AreUsable w h references → column < w → row < h
    → AreUsableAt column row references
usable_each w h column row references all a b =
    record { each = λ r. some_usable_on w h column row (slice_index_or references r None) a b (some_at (IsUsable w h) references r all) }

-- a macroblock that is predicted at once, by the picture and the vector of its first block
pub whole_is : {PAD : ℕ} (references : List (Option (ReferencePicture PAD))) (column row : ℕ) (motion : List Motion) (p : ReferencePicture PAD) (v : Mv) (old new : Planes)
    → IsMacroblockShape motion Whole → picture_in references (block_motion motion 0) ≡ Some p → v ≡ vector_of (block_motion motion 0)
    → new ≡ with_part column row 0 0 16 16 (λ k x y. predicted_from p v k (size_of k * column + x) (size_of k * row + y)) old
    → new ≡ with_part column row 0 0 16 16 (wanted references column row motion) old
whole_is references column row motion p v old new shape named moved set =
    set
    ∙ part_same column row 0 0 16 16 (λ k x y. predicted_from p v k (size_of k * column + x) (size_of k * row + y)) (wanted references column row motion) old refl refl
    (λ k x y few e. rw ((whole_macroblock motion shape).same (luma_place k x) (luma_place k y) e, named, moved) refl)

-- ---- worked example of explicit weights: two reference indices that name one frame have each their own

abbrev grey : Frame
grey = record { decoding_index = 0; existing = true; samples = λ k x y. 128 }

-- in halves
abbrev halves : ℤ → ℤ → Weight
halves weight offset = record { log2_denom = 1; weight = weight; offset = offset }

abbrev of_first : Weights
of_first = record { luma = halves (pos 3) (negsuc 3); cb = halves (pos 2) (pos 1); cr = halves (pos 2) (pos 0) }

abbrev of_second : Weights
of_second = record { luma = halves (pos 1) (pos 0); cb = halves (pos 2) (pos 0); cr = halves (pos 2) (pos 0) }

abbrev slice : SliceInfo
slice = record {
  is_p = true;
  references = Some grey ∷ Some grey ∷ [];
  weights = of_first ∷ of_second ∷ [];
  disable_deblocking_filter_idc = NoEdges;
  filter_offset_a = pos 0;
  filter_offset_b = pos 0;
}

-- 16x16 luma samples
abbrev coded : SliceInfo → Coded
coded s = record {
  width = 1;
  height = 1;
  chroma_qp_index_offset = pos 0;
  constrained_intra_pred = false;
  slices = s ∷ [];
  mbs = [];
}

abbrev still : Mv
still = record { x = pos 0; y = pos 0 }

first_luma : inter_predicted (coded slice) 0 (inter 0 still) 0 5 5 ≡ 188
first_luma = refl

second_luma : inter_predicted (coded slice) 0 (inter 1 still) 0 5 5 ≡ 64
second_luma = refl

first_cb : inter_predicted (coded slice) 0 (inter 0 still) 1 5 5 ≡ 129
first_cb = refl

-- without explicit weights a sample is as it is fetched
unweighted : inter_predicted (coded (record slice { weights = [] })) 0 (inter 0 still) 0 5 5 ≡ 128
unweighted = refl

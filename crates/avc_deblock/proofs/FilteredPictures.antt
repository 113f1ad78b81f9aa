-- The filter of a picture row by row is that of the whole picture.
pub mod Edges
unfoldable pub use Edges.*

-- ---- the filter by the info of a coded picture's macroblocks is that of the picture

other_strength : (z : Bool) → ◌≡◌ {A = ℕ} (if z then 4 else 3) (if not z then 3 else 4)
other_strength true = refl
other_strength false = refl

module _ (c : Coded) (motion : List (List Motion)) (names : Names) (column row a : ℕ) (at : IsAt c column row a) (offset : ℤ) (same_offset : c.chroma_qp_index_offset ≡ offset)
    (v : Bool) where
  module _ (n : ℕ) (low : n < 4) (p q : MbInfo) (across : v ≡ true → 1 ≤ 4 * column + n) (down : v ≡ false → 1 ≤ 4 * row + n)
      (hp : HasInfo c motion names (p_address c v n a) p) (hq : HasInfo c motion names a q) where
    strength_by : (k : ℕ) → k < 4 → (e : Bool) → (p.is_intra || q.is_intra) ≡ e →
        strength_of p q v n k ≡ strength_between c motion (p_address c v n a) (edge_block v ((n + 3) % 4) k) a (edge_block v n k)
    strength_by k k_low true is =
        intra_strength p q v n k is
        ∙ other_strength (n == 0)
        ∙ ap (λ (b : Bool). if b then 3 else 4) (sym (same_mb c v column row a n at across down))
        ∙ sym (intra_between c motion names (p_address c v n a) a p (edge_block v ((n + 3) % 4) k) q (edge_block v n k) hp hq is)
    strength_by k k_low false is =
        let neither = both_false p.is_intra q.is_intra is in
        inter_strength_of p q v n k is
        ∙ inter_between c motion names (p_address c v n a) a p (edge_block v ((n + 3) % 4) k) q (edge_block v n k)
        (low_block v ((n + 3) % 4) k (omega arith) k_low) (low_block v n k low k_low) hp hq neither.0 neither.1

    pub edge_is : (s : Planes) → edge_by_info v column row n offset p q s ≡ planes_edge c motion v a n s
    edge_is s = grind (arith, strength_by, edge_planes)

  pub edges_are : (o i : Bool) (p q : MbInfo) → (o ≡ true → v ≡ true → 1 ≤ column) → (o ≡ true → v ≡ false → 1 ≤ row) →
      (o ≡ true → HasInfo c motion names (p_address c v 0 a) p) → HasInfo c motion names a q → (s : Planes) →
      edges_by_info v column row offset o i p q s ≡ planes_edges c motion v o i a s
  edges_are o i p q across down hp hq s = grind (arith, edge_is)

pub some_coded : (b : Bool) (n : ℕ) → (nat_lt 0 n && b) ≡ true → 1 ≤ n
some_coded b n t = grind (arith, nat_tests, and_parts, nat_lt)

pub mb_is : (c : Coded) (motion : List (List Motion)) (names : Names) (column row a : ℕ) (at : IsAt c column row a) (offset : ℤ) → c.chroma_qp_index_offset ≡ offset →
    (left above q : MbInfo) → HasInfo c motion names a q → (1 ≤ column → HasInfo c motion names (a - 1) left) → (1 ≤ row → HasInfo c motion names (a - c.width) above) →
    (s : Planes) → mb_by_info offset column row left above q s ≡ planes_mb c motion a s
mb_is c motion names column row a at offset same left above q hq hl ha s =
    let low = some_coded (filters_between q above) row in
    let far = some_coded (filters_between q left) column in
    rw (
      ← left_is c motion names column row a q left at hq hl,
      ← above_is c motion names column row a q above at hq ha,
      ← between_is c motion names a a q q hq hq,
      ← edges_are c motion names column row a at offset same true _ _ left q (λ e f. far e) (λ e f. absurd (cc)) (λ e. hl (far e)) hq s,
    )
    (edges_are c motion names column row a at offset same false _ _ above q (λ e f. absurd (cc)) (λ e f. low e) (λ e. ha (low e)) hq _)

pub row_part : (c : Coded) (motion : List (List Motion)) (names : Names) (row : ℕ) (offset : ℤ) (above info : List MbInfo) (s : Planes) →
    AreOfRow c motion names row offset above info → (n : ℕ) → n ≤ length info →
    row_by_info offset row above info n s ≡ all_filtered c motion s (flat_map (mb_lines c) (range_with_len (row * c.width) n))
row_part c motion names row offset above info s are zero low = refl
row_part c motion names row offset above info s are (suc n) low =
    let width = are.width_is in
    let same = are.same in
    one_more c motion (row * c.width) n (suc n) s (row_by_info offset row above info n s) (row_by_info offset row above info (suc n) s) (omega arith)
    (row_part c motion names row offset above info s are n (omega arith))
    (mb_is c motion names n row (row * c.width + n) (record { within = omega arith; address = refl }) offset are.offset_is
    (slice_index_or info (n - 1) no_info) (slice_index_or above n no_info) (slice_index_or info n no_info) (are.info_are n no_info (omega arith))
    (λ more. shifted c motion names _ _ _ (omega arith) (are.info_are (n - 1) no_info (omega arith)))
    (λ more.
    let back : row ≡ (row - 1) + 1 = omega arith in
    let rows : row * c.width ≡ ((row - 1) + 1) * c.width = ap (λ (r : ℕ). r * c.width) back in
    shifted c motion names _ _ _ (omega (arith, rows)) (are.above_are more n no_info (omega arith)))
    (row_by_info offset row above info n s))

pub row_lines_filtered : (c : Coded) (motion : List (List Motion)) (names : Names) (row : ℕ) (offset : ℤ) (above info : List MbInfo) (s : Planes) →
    AreOfRow c motion names row offset above info → row_by_info offset row above info (length info) s ≡ all_filtered c motion s (row_lines c row)
unfolding row_lines
row_lines_filtered c motion names row offset above info s are =
    row_part c motion names row offset above info s are (length info) (omega arith)
    ∙ ap (λ (k : ℕ). all_filtered c motion s (flat_map (mb_lines c) (range_with_len (row * c.width) k))) (sym are.width_is)

-- ---- the filter of a row of macroblocks reads and changes samples of a few rows alone: changes of the three planes, each by itself

pub record ActsApart (wl wb wr row : ℕ) (g : Planes → Planes) : Type 0 where
  pub luma : Plane → Plane
  pub cb : Plane → Plane
  pub cr : Plane → Plane
  pub is : (s : Planes) → g s ≡ record { luma = luma s.luma; cb = cb s.cb; cr = cr s.cr }
  pub luma_local : IsLocal wl (16 * row - 3) (16 * row + 16) luma
  pub cb_local : IsLocal wb (8 * row - 1) (8 * row + 8) cb
  pub cr_local : IsLocal wr (8 * row - 1) (8 * row + 8) cr

abbrev planes_from : Plane → Plane → Plane → Planes
planes_from l b r = record { luma = l; cb = b; cr = r }

module _ (wl wb wr row : ℕ) where
  acts_none : ActsApart wl wb wr row (λ s. s)
  acts_none = record {
    luma = λ s. s;
    cb = λ s. s;
    cr = λ s. s;
    is = λ s. refl;
    luma_local = local_none;
    cb_local = local_none;
    cr_local = local_none;
  }

  acts_then : {g h : Planes → Planes} → ActsApart wl wb wr row g → ActsApart wl wb wr row h → ActsApart wl wb wr row (λ s. h (g s))
  acts_then {g} {h} a b = record {
    luma = λ s. b.luma (a.luma s);
    cb = λ s. b.cb (a.cb s);
    cr = λ s. b.cr (a.cr s);
    is = λ s. ap h (a.is s) ∙ b.is (planes_from (a.luma s.luma) (a.cb s.cb) (a.cr s.cr));
    luma_local = local_then a.luma_local b.luma_local;
    cb_local = local_then a.cb_local b.cb_local;
    cr_local = local_then a.cr_local b.cr_local;
  }

  acts_if : (b : Bool) {g : Planes → Planes} → (b ≡ true → ActsApart wl wb wr row g) → ActsApart wl wb wr row (λ s. if b then g s else s)
  acts_if true h = h refl
  acts_if false h = acts_none

  -- ---- one edge

  module _ (column : ℕ) (luma_fits : 16 * column + 16 ≤ wl) (cb_fits : 8 * column + 8 ≤ wb) (cr_fits : 8 * column + 8 ≤ wr) (offset : ℤ) where
    -- d samples behind a side
    acts_behind : (w size reach d : ℕ) (f : ℕ → Setting) → ((i : ℕ) → HasReach (f i) reach) → size * column + size ≤ w → d + 4 ≤ size → (v : Bool) →
        (v ≡ true → 4 ≤ size * column + d) → (v ≡ false → 4 ≤ size * row + d) → IsLocal w (size * row - reach) (size * row + size) (edge_behind size f v column row d)
    acts_behind w size reach d f keeps fits inside true across down =
        let back : (size * column + d) - 4 + 4 ≡ size * column + d = (let far = across refl in omega arith) in
        subst (λ x. IsLocal w (size * row - reach) (size * row + size) (edge_filtered f true x (size * row) size)) back
        (local_edge w (size * row - reach) (size * row + size) f true (size * column + d - 4) (size * row) size reach keeps (λ i k less low. (omega arith, omega arith)) (λ i k less p q. omega arith))
    acts_behind w size reach d f keeps fits inside false across down =
        let far = down refl in
        let back : (size * row + d) - 4 + 4 ≡ size * row + d = omega arith in
        subst (λ y. IsLocal w (size * row - reach) (size * row + size) (edge_filtered f false (size * column) y size)) back
        (local_edge w (size * row - reach) (size * row + size) f false (size * column) (size * row + d - 4) size reach keeps (λ i k less low. (omega arith, omega arith)) (λ i k less p q. omega arith))

    edge_acts : (v : Bool) (n : ℕ) → n < 4 → (v ≡ true → 1 ≤ 4 * column + n) → (v ≡ false → 1 ≤ 4 * row + n) → (p q : MbInfo) →
        ActsApart wl wb wr row (edge_by_info v column row n offset p q)
    edge_acts v n low across down p q =
        let st = strength_of p q v n in
        let luma = luma_qp_of p q in
        let chroma = chroma_qp_of offset p q in
        let acts_chroma : (w : ℕ) → 8 * column + 8 ≤ w → IsLocal w (8 * row - 1) (8 * row + 8) (chroma_behind v column row n st chroma) =
        λ w fits.
        local_if w _ _ (n % 2 == 0) (edge_behind 8 (chroma_setting st chroma) v column row (2 * n))
        (λ even.
        acts_behind w 8 1 (2 * n) (chroma_setting st chroma) (λ i. chroma_reach (chroma_setting st chroma i) refl) fits (grind (arith, nat_tests)) v
        (λ e. far_enough column n (across e) even) (λ e. far_enough row n (down e) even)) in
        record {
          luma = luma_behind v column row n st luma;
          cb = chroma_behind v column row n st chroma;
          cr = chroma_behind v column row n st chroma;
          is = in_parts v column row n st luma chroma;
          luma_local = acts_behind wl 16 3 (4 * n) (luma_setting st luma) (λ i. luma_reach (luma_setting st luma i)) luma_fits (omega arith) v
              (λ e. let some_coded = across e in omega arith) (λ e. let some_coded = down e in omega arith);
          cb_local = acts_chroma wb cb_fits;
          cr_local = acts_chroma wr cr_fits;
        }

    -- ---- the edges of a macroblock

    edges_act : (v o i : Bool) → (o ≡ true → v ≡ true → 1 ≤ column) → (o ≡ true → v ≡ false → 1 ≤ row) → (p q : MbInfo) →
        ActsApart wl wb wr row (edges_by_info v column row offset o i p q)
    edges_act v o i across down p q =
        let inner : (n : ℕ) → 1 ≤ n → n < 4 → ActsApart wl wb wr row (edge_by_info v column row n offset q q) =
        λ n some_coded low. edge_acts v n low (λ e. omega arith) (λ e. omega arith) q q in
        acts_then
        (acts_if o (λ on. edge_acts v 0 (omega arith) (λ e. let h : 1 ≤ column = across on e in omega arith) (λ e. let h : 1 ≤ row = down on e in omega arith) p q))
        (acts_if i (λ on. acts_then (acts_then (inner 1 (omega arith) (omega arith)) (inner 2 (omega arith) (omega arith))) (inner 3 (omega arith) (omega arith))))

    mb_acts : (left above q : MbInfo) → ActsApart wl wb wr row (mb_by_info offset column row left above q)
    mb_acts left above q =
        acts_then
        (edges_act true (nat_lt 0 column && filters_between q left) (filters_between q q) (λ o e. some_coded (filters_between q left) column o) (λ o e. absurd (cc)) left q)
        (edges_act false (nat_lt 0 row && filters_between q above) (filters_between q q) (λ o e. absurd (cc)) (λ o e. some_coded (filters_between q above) row o) above q)

  pub row_acts : (offset : ℤ) (above info : List MbInfo) (n : ℕ) → ((k : ℕ) → k < n → 16 * k + 16 ≤ wl) → ((k : ℕ) → k < n → 8 * k + 8 ≤ wb) →
      ((k : ℕ) → k < n → 8 * k + 8 ≤ wr) → ActsApart wl wb wr row (row_by_info offset row above info n)
  row_acts offset above info zero l b r = acts_none
  row_acts offset above info (suc n) l b r =
      acts_then (row_acts offset above info n (λ k low. l k (omega arith)) (λ k low. b k (omega arith)) (λ k low. r k (omega arith)))
      (mb_acts n (l n (omega arith)) (b n (omega arith)) (r n (omega arith)) offset
      (slice_index_or info (n - 1) no_info) (slice_index_or above n no_info) (slice_index_or info n no_info))

-- ---- one plane

module _ (first end : ℕ) (g : Plane → Plane) (s : Plane) (a : IsLocal s.width first end g) (full : length s.samples ≡ s.width * s.height) (rows : end ≤ s.height) where
  size : IsSized s.width s.height (s.width * s.height) s
  size = record { width = refl; height = refl; long = full }

  changes_of : ChangesWithin first end s (g s)
  changes_of = record { width = a.width s; height = a.height s; long = a.long s; samples = λ x y column row out. a.kept s.height s size rows x y column out }

  reads_of : (t : Plane) → AgreesAbove end s t → AgreesAbove end (g s) (g t)
  reads_of t agrees = record {
    width = a.width t ∙ agrees.width ∙ sym (a.width s);
    height = a.height t ∙ agrees.height ∙ sym (a.height s);
    long = a.long t ∙ agrees.long ∙ sym (a.long s);
    samples = λ x y column row.
        a.same s.height s t size (record { width = agrees.width; height = agrees.height; long = agrees.long ∙ full }) rows agrees.samples x y (omega (arith, a.width s)) row;
  }

  -- a block below
  module _ (left top width height : ℕ) (f : ℕ → ℕ → ℕ) (below : end ≤ top) where
    abbrev built : Plane
    built = with_block s left top width height f

    built_size : IsSized s.width s.height (s.width * s.height) built
    built_size = search (rules, length-plane_of, left, sample)

    commute_of : g built ≡ with_block (g s) left top width height f
    commute_of =
        block_is (g s) (g built) left top width height f (search (rules, a.width, a.height, a.long, built_size.long))
        (λ x y column row p q r u. grind (arith, a.kept s.height built built_size rows, inside_block, a.width, a.height))
        (λ x y column row out. grind (
          arith,
          a.kept s.height s size rows,
          a.kept s.height built built_size rows,
          a.same s.height s built size built_size rows,
          outside_block,
          a.width,
          a.height,
        ))

-- ---- the laws

module _ (offset : ℤ) (row : ℕ) (above info : List MbInfo) (s : Planes) (has : HasRow row (length info) s) where
  acts : ActsApart s.luma.width s.cb.width s.cr.width row (row_by_info offset row above info (length info))
  acts = row_acts s.luma.width s.cb.width s.cr.width row offset above info (length info) (λ k low. (has.room k low).luma_columns) (λ k low. (has.room k low).cb_columns) (λ k low. (has.room k low).cr_columns)

pub row_changes : (offset : ℤ) (row : ℕ) (above info : List MbInfo) (s : Planes) → HasRow row (length info) s → ChangesInRow row s (row_by_info offset row above info (length info) s)
row_changes offset row above info s has =
    let a = acts offset row above info s has in
    rw (a.is s) (record {
      luma = changes_of (16 * row - 3) (16 * row + 16) a.luma s.luma a.luma_local has.full.luma has.luma_rows;
      cb = changes_of (8 * row - 1) (8 * row + 8) a.cb s.cb a.cb_local has.full.cb has.cb_rows;
      cr = changes_of (8 * row - 1) (8 * row + 8) a.cr s.cr a.cr_local has.full.cr has.cr_rows;
    })

pub row_reads : (offset : ℤ) (row : ℕ) (above info : List MbInfo) (s t : Planes) → HasRow row (length info) s → AgreesToRow row s t →
    AgreesToRow row (row_by_info offset row above info (length info) s) (row_by_info offset row above info (length info) t)
row_reads offset row above info s t has agrees =
    let a = acts offset row above info s has in
    rw (a.is s, a.is t) (record {
      luma = reads_of (16 * row - 3) (16 * row + 16) a.luma s.luma a.luma_local has.full.luma has.luma_rows t.luma agrees.luma;
      cb = reads_of (8 * row - 1) (8 * row + 8) a.cb s.cb a.cb_local has.full.cb has.cb_rows t.cb agrees.cb;
      cr = reads_of (8 * row - 1) (8 * row + 8) a.cr s.cr a.cr_local has.full.cr has.cr_rows t.cr agrees.cr;
    })

module _ (row n : ℕ) (s : Planes) (has : HasRow row n s) (g : Planes → Planes) (a : ActsApart s.luma.width s.cb.width s.cr.width row g) (left top width height : ℕ) (f : ℕ → ℕ → ℕ) where
  abbrev with_it : Plane → Plane
  with_it p = with_block p left top width height f

  acts_commute : (k : ℕ) → 16 / luma_per_sample k * (row + 1) ≤ top →
      planes_from (a.luma (in_component k with_it s).luma) (a.cb (in_component k with_it s).cb) (a.cr (in_component k with_it s).cr)
      ≡ in_component k with_it (planes_from (a.luma s.luma) (a.cb s.cb) (a.cr s.cr))
  acts_commute zero below = grind (arith, nat_tests, commute_of)
  acts_commute (suc zero) below = grind (arith, nat_tests, commute_of)
  acts_commute (suc (suc k)) below = grind (arith, nat_tests, commute_of)

pub row_commutes : (offset : ℤ) (row : ℕ) (above info : List MbInfo) (s : Planes) → HasRow row (length info) s → (k left top width height : ℕ) (f : ℕ → ℕ → ℕ) →
    16 / luma_per_sample k * (row + 1) ≤ top →
    row_by_info offset row above info (length info) (in_component k (λ p. with_block p left top width height f) s)
    ≡ in_component k (λ p. with_block p left top width height f) (row_by_info offset row above info (length info) s)
row_commutes offset row above info s has k left top width height f below =
    let a = acts offset row above info s has in
    rw (a.is (in_component k (λ p. with_block p left top width height f) s), a.is s)
    (acts_commute row (length info) s has (row_by_info offset row above info (length info)) a left top width height f k below)

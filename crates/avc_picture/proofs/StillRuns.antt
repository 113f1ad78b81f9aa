-- Samples that are copied ahead: no macroblock so far covers them, and what is built and filtered so far leaves them as they are.
use Rattle.avc_picture.proofs.Slices.{◌≡◌, ◌∙◌, ℕ, zero, suc, ◌+◌, ◌-◌, ◌*◌, ◌/◌, ◌%◌, ◌<◌, ◌≤◌, List, [], ◌∷◌, length, take, refl, sym, ap, subst, if◌then◌else◌}
use Rattle.avc_picture.proofs.Slices.{ℤ, ◌==◌, Some, None, Option, ◌⊎◌, inl, inr, cases_lt, arith, mul_comm, add-mul, div-mul-add, div-add-mod', div-lt_iff_lt-mul}
use Rattle.avc_picture.proofs.Slices.{mul-le-mul_right, div-mul-le_self, length-take-le, slice_index, slice_index_or, IfSome, with_block, sample, Plane, Planes}
use Rattle.avc_picture.proofs.Slices.{samples_of, component, size_of, HasSize, IsSized, AreSized, Place, place_of, planes_after, built_on, with_blocks4x4, with_macroblock}
use Rattle.avc_picture.proofs.Slices.{luma_after, chroma_after, left_of_mb, top_of_mb, block_x, block_y, block_from, luma_from, chroma_from, inter_at, address_at}
use Rattle.avc_picture.proofs.Slices.{MbSyntax, p_skip, i_pcm, i_nxn, i_16x16, p_inter, Coded, PicMb, Motion, NearMode, MbInfo, Names, Agree}
use Rattle.avc_picture.proofs.Slices.{some_size, with_block_sized, with_blocks4x4_sized, built_on_sized, first_built_sized, rows_sized, row_info, row_info_are, from_long}
use Rattle.avc_picture.proofs.Slices.{same_below, all_agree, late_anyhow, sample_late, row_by_info, row_lines_filtered, row_lines, all_filtered, rows_filtered, first_built, row_late}
use Rattle.avc_picture.proofs.Slices.{filtered_rows, AreInfoOf, FilterInfo, covering_address, HoldsFirst, MbsState, PartsAgree, modes_before, motion_before, some_at}
use Rattle.avc_picture.proofs.Slices.{ReferencePicture, AreUsable, IsUsable, padded_planes_of}
use Rattle.avc_picture_core.proofs.InterTiles.IntraSides.BuiltBlocks.{outside}
use Rattle.avc_picture_core.proofs.InterTiles.IntraSides.{address_in}
use Rattle.avc_plane.proofs.PlaneMaps.{sample-with_block, inside}
use Rattle.avc_picture_core.specs.Still.{AreInPlace, AreSameIn, CoverRun, IsSameIn, with_rectangle_of, with_run_of}
use Rattle.avc_neigh.specs.Around.{Around, PictureInfo, around, back, mb_a, with_info}
use Rattle.avc_neigh.specs.BlockNear.{motion_near}
use Rattle.avc_neigh.specs.declared.neighbour_info.NeighbourInfo.{NeighbourInfo}
use Rattle.avc_neigh.proofs.Found.RowKeeping.{slice_get-next}
use Rattle.avc_motion.specs.Motion.{is_held, median_prediction, near_in, neighbours_of, no_motion, still_blocks, zero_vector, HasMotion}
use Rattle.avc_motion.proofs.MacroblockMotion.{skipped_is}
use Rattle.avc_neigh.specs.declared.neighbour_info.Motion.TheVariants.{Inter as inter}
use Rattle.avc_picture.specs.MacroblockInfo.{still_info, IsNeighbourInfo}
use Rattle.avc_picture.specs.StillRuns.{AreCopied, AreCopiedFrom, GoesOnStill, IsBuiltAsTold, IsHeldByLeft, IsRun, IsToldAndBuilt, KeepsEarlier}
use Rattle.avc_picture.proofs.Slices.{Bool, true, false, is_intra, IsPlaceOn, Ok, Err, Result, Fault, ◌++◌, replicate, Mb, CanvasState, SliceContext, length-append, nat_tests, rules}
use Rattle.std.proofs.lemmas.Nat.{mod-mul-add}

-- ---- a macroblock leaves the samples that it doesn't cover

module _ (w a size x y : ℕ) (some : 0 < size) (apart : address_at size w x y ≡ a → ⊥) where
  covered : size * (a % w) ≤ x → x < size * (a % w) + size → size * (a / w) ≤ y → y < size * (a / w) + size → address_at size w x y ≡ a
  covered p q u v =
      let i : ℕ = x - size * (a % w) in
      let j : ℕ = y - size * (a / w) in
      let across : x ≡ (a % w) * size + i = omega (arith, mul_comm size (a % w), p) in
      let down : y ≡ (a / w) * size + j = omega (arith, mul_comm size (a / w), u) in
      ap (λ n. address_at size w n y) across
      ∙ ap (λ n. address_at size w ((a % w) * size + i) n) down
      ∙ address_in size w (a % w) (a / w) i j (omega arith) (omega arith)
      ∙ div-add-mod' a w

  block_stays : (s : Plane) (left top bw bh : ℕ) (f : ℕ → ℕ → ℕ) → size * (a % w) ≤ left → left + bw ≤ size * (a % w) + size → size * (a / w) ≤ top
      → top + bh ≤ size * (a / w) + size → x < s.width → y < s.height → sample (with_block s left top bw bh f) x y ≡ sample s x y
  block_stays s left top bw bh f l r t b column row =
      sample-with_block s left top bw bh f x y column row
      ∙ ap (λ q. if q then f (x - left) (y - top) else sample s x y)
      (outside left top bw bh x y (λ p q u v. apart (covered (omega (arith, l, p)) (omega (arith, r, q)) (omega (arith, t, u)) (omega (arith, b, v)))))

module _ (p : Place) (h x y : ℕ) where
  abbrev w : ℕ
  w = p.coded.width

  abbrev a : ℕ
  a = p.address

  module _ (k : ℕ) (apart : address_at (size_of k) w x y ≡ a → ⊥) (column : x < size_of k * w) (row : y < size_of k * h) where
    mb_stays : (f : ℕ → ℕ → ℕ) (s : Plane) → HasSize (size_of k * w) (size_of k * h) s → sample (with_macroblock p k f s) x y ≡ sample s x y
    mb_stays f s sized =
        block_stays w a (size_of k) x y (some_size k) apart s (left_of_mb p k) (top_of_mb p k) (size_of k) (size_of k) f (omega arith) (omega arith) (omega arith) (omega arith)
        (omega (arith, sized.columns, column)) (omega (arith, sized.rows, row))

  module _ (apart : address_at 16 w x y ≡ a → ⊥) (column : x < 16 * w) (row : y < 16 * h) where
    blocks_stay : (n : ℕ) → n ≤ 16 → (s : Plane) → HasSize (16 * w) (16 * h) s → sample (with_blocks4x4 p n s) x y ≡ sample s x y
    blocks_stay zero few s sized = refl
    blocks_stay (suc n) few s sized =
        let before : Plane = with_blocks4x4 p n s in
        let before_sized = with_blocks4x4_sized (16 * w) (16 * h) p n s sized in
        block_stays w a 16 x y (omega arith) apart before (left_of_mb p 0 + block_x n) (top_of_mb p 0 + block_y n) 4 4 (block_from p n before)
        (omega arith) (omega arith) (omega arith) (omega (arith, few)) (omega (arith, before_sized.columns, column)) (omega (arith, before_sized.rows, row))
        ∙ blocks_stay n (omega (arith, few)) s sized

    luma_stays : (syntax : MbSyntax) (s : Plane) → HasSize (16 * w) (16 * h) s → sample (luma_after p syntax s) x y ≡ sample s x y
    luma_stays p_skip s sized = mb_stays 0 apart column row (inter_at p 0) s sized
    luma_stays (p_inter shape refs mvds r) s sized = mb_stays 0 apart column row (inter_at p 0) s sized
    luma_stays (i_pcm luma cb cr) s sized = mb_stays 0 apart column row (λ x y. slice_index luma (16 * y + x)) s sized
    luma_stays (i_16x16 m chroma r) s sized = mb_stays 0 apart column row (luma_from p m s) s sized
    luma_stays (i_nxn modes chroma r) s sized = blocks_stay 16 (omega arith) s sized

  module _ (k : ℕ) (apart : address_at 8 w x y ≡ a → ⊥) (column : x < 8 * w) (row : y < 8 * h) where
    chroma_stays : (syntax : MbSyntax) (s : Plane) → HasSize (8 * w) (8 * h) s → sample (chroma_after p (suc k) syntax s) x y ≡ sample s x y
    chroma_stays p_skip s sized = mb_stays (suc k) apart column row (inter_at p (suc k)) s sized
    chroma_stays (p_inter shape refs mvds r) s sized = mb_stays (suc k) apart column row (inter_at p (suc k)) s sized
    chroma_stays (i_pcm luma cb cr) s sized = mb_stays (suc k) apart column row (λ x y. slice_index (if suc k == 1 then cb else cr) (8 * y + x)) s sized
    chroma_stays (i_16x16 m chroma r) s sized = mb_stays (suc k) apart column row (chroma_from p chroma (suc k) s) s sized
    chroma_stays (i_nxn modes chroma r) s sized = mb_stays (suc k) apart column row (chroma_from p chroma (suc k) s) s sized

  planes_stay : (s : Planes) → IsSized w h s → (k : ℕ) → x < size_of k * w → y < size_of k * h → (covering_address w k x y ≡ a → ⊥)
      → samples_of (planes_after p s) k x y ≡ samples_of s k x y
  planes_stay s sized zero column row apart = luma_stays apart column row p.mb.syntax s.luma sized.luma
  planes_stay s sized (suc zero) column row apart = chroma_stays 0 apart column row p.mb.syntax s.cb sized.cb
  planes_stay s sized (suc (suc k)) column row apart = chroma_stays 1 apart column row p.mb.syntax s.cr sized.cr

-- ---- and so do all macroblocks before it

module _ (c : Coded) (modes : List (List NearMode)) (motion : List (List Motion)) (k x y : ℕ) (column : x < size_of k * c.width) (row : y < size_of k * c.height) where
  built_stays : (a : ℕ) (s : Planes) (ms : List PicMb) → IsSized c.width c.height s → a + length ms ≤ covering_address c.width k x y
      → samples_of (built_on c modes motion a s ms) k x y ≡ samples_of s k x y
  built_stays a s [] sized past = refl
  built_stays a s (m ∷ ms) sized past =
      let p : Place = place_of c modes motion a m in
      built_stays (a + 1) (planes_after p s) ms (built_on_sized c.width c.height c modes motion a s (m ∷ []) sized) (omega (arith, past))
      ∙ planes_stay p c.height x y s sized k column row (λ e. omega (arith, past, e))

-- ---- the filter of rows leaves the samples below them

module _ (c : Coded) (names : Names) (offset : ℤ) (f : FilterInfo) (of : AreInfoOf c names offset f) (h k x y : ℕ) where
  -- of one row
  below_row : (row : ℕ) (above info : List MbInfo) → length info ≡ f.width → row < h → (s : Planes) → IsSized f.width h s → size_of k * suc row ≤ y
      → samples_of (row_by_info offset row above info (length info) s) k x y ≡ samples_of s k x y
  below_row row above info long low s sized past = by_component k past
    where
      by_component : (k : ℕ) → size_of k * suc row ≤ y → samples_of (row_by_info offset row above info (length info) s) k x y ≡ samples_of s k x y
      by_component zero past = same_below offset row above info f.width h long low s sized 0 x y (omega (arith, past))
      by_component (suc zero) past = same_below offset row above info f.width h long low s sized 1 x y (omega (arith, past))
      by_component (suc (suc k)) past = same_below offset row above info f.width h long low s sized 2 x y (omega (arith, past))

  rows_stay : (rows : ℕ) → rows ≤ h → ((row : ℕ) → row < rows → row * f.width + f.width ≤ length f.info) → (s : Planes) → IsSized f.width h s
      → size_of k * rows ≤ y → samples_of (rows_filtered c rows s) k x y ≡ samples_of s k x y
  rows_stay zero high whole s sized past = refl
  rows_stay (suc row) high whole s sized past =
      let t : Planes = rows_filtered c row s in
      let above : List MbInfo = row_info c names offset f of (row - 1) in
      let info : List MbInfo = row_info c names offset f of row in
      let there : row * f.width + f.width ≤ length f.info = whole row (omega arith) in
      let long = from_long f.info (row * f.width) f.width there in
      let by_row : row_by_info offset row above info (length info) t ≡ all_filtered c (motion_before c (length c.mbs)) t (row_lines c row) =
      row_lines_filtered c (motion_before c (length c.mbs)) names row offset above info t (row_info_are c names offset f of row there) in
      let less : size_of k * row ≤ size_of k * suc row = omega (arith, mul_comm (size_of k) row, mul_comm (size_of k) (suc row), mul-le-mul_right (size_of k) (lower row)) in
      ap (λ u. samples_of u k x y) (sym by_row)
      ∙ below_row row above info long (omega (arith, high)) t (rows_sized c names offset f of f.width h row s sized) past
      ∙ rows_stay row (omega (arith, high)) (λ r low. whole r (omega (arith, low))) s sized (omega (arith, less, past))
    where
      lower : (row : ℕ) → row ≤ suc row
      lower row = omega arith

-- ---- so planes with other samples behind the macroblocks so far hold these too

module _ {c : Coded} {names : Names} {m : MbsState} (holds : HoldsFirst c names m) (kept : PartsAgree m) where
  abbrev n : ℕ
  n = m.next

  abbrev width : ℕ
  width = c.width

  abbrev height : ℕ
  height = c.height

  abbrev told : FilterInfo
  told = record { width = width; info = m.filter_info }

  is_wide : 0 < width
  is_wide = rw holds.width at kept.wide

  within : n ≤ width * height
  within = rw (holds.width, holds.height) at kept.within

  info_of_all : AreInfoOf c names c.chroma_qp_index_offset told
  info_of_all = record { width_is = refl; offset_is = refl; info_are = holds.filter }

  few_rows : filtered_rows width n ≤ height
  few_rows = let fewer : n / width < suc height = (div-lt_iff_lt-mul is_wide).1 (omega (arith, within, mul_comm width height, add-mul height 1 width)) in omega (arith, fewer)

  whole_rows : (row : ℕ) → row < filtered_rows width n → row * width + width ≤ length m.filter_info
  whole_rows row low =
      let next : (row + 1) * width ≤ (n / width) * width = mul-le-mul_right width (omega (arith, low)) in
      omega (arith, next, add-mul row 1 width, div-mul-le_self n width, kept.filter_count)

  late_sized : (s : Planes) → IsSized width height s → IsSized width height (row_late c s n)
  late_sized s sized =
      rows_sized c names c.chroma_qp_index_offset told info_of_all width height (filtered_rows width n) (first_built c s n) (first_built_sized c s n sized)

  -- a sample behind them
  later_sample : (s : Planes) → IsSized width height s → (k x y : ℕ) → x < size_of k * width → y < size_of k * height → n ≤ covering_address width k x y
      → samples_of (row_late c s n) k x y ≡ samples_of s k x y
  later_sample s sized k x y column row past =
      let across : x / size_of k < width = (div-lt_iff_lt-mul (some_size k)).1 (omega (arith, column, mul_comm (size_of k) width)) in
      let high : n / width < suc (y / size_of k) = (div-lt_iff_lt-mul is_wide).1 (omega (arith, past, across, add-mul (y / size_of k) 1 width)) in
      let rows : filtered_rows width n ≤ y / size_of k = omega (arith, high) in
      let down : filtered_rows width n * size_of k ≤ y / size_of k * size_of k = mul-le-mul_right (size_of k) rows in
      let low : size_of k * filtered_rows width n ≤ y = omega (arith, down, mul_comm (size_of k) (filtered_rows width n), div-mul-le_self y (size_of k)) in
      rows_stay c names c.chroma_qp_index_offset told info_of_all height k x y (filtered_rows width n) few_rows whole_rows (first_built c s n) (first_built_sized c s n sized) low
      ∙ built_stays c (modes_before c n) (motion_before c n) k x y column row 0 s (take n c.mbs) sized (omega (arith, past, length-take-le n c.mbs holds.within))

  module _ (t : Planes) (keeps : KeepsEarlier m.canvas.width m.canvas.height m.next m.canvas.planes t) where
    held_sized : IsSized width height m.canvas.planes
    held_sized = subst (IsSized width height) (sym holds.built) (late_sized holds.begun holds.begun_sized)

    new_sized : IsSized width height t
    new_sized = rw (holds.width, holds.height) at keeps.sized held_sized

    each_sample : (k x y : ℕ) → x < size_of k * width → y < size_of k * height → samples_of t k x y ≡ samples_of (row_late c t n) k x y
    each_sample k x y column row = elim (cases_lt (covering_address width k x y) n) [
      | inl early ↦
          keeps.same k x y (rw (← holds.width) at column) (rw (← holds.height) at row) (rw (← holds.width) at early)
          ∙ sample_late holds kept k x y (rw (← holds.width) at column) (rw (← holds.height) at row) (rw (← holds.width) at early)
          ∙ sym (late_anyhow holds kept t new_sized k x y column row early)
      | inr past ↦ sym (later_sample t new_sized k x y column row past)
    ]

    agree_on : (k : ℕ) (P : ℕ → ℕ → Type 0) → HasSize (size_of k * width) (size_of k * height) (component t k)
        → HasSize (size_of k * width) (size_of k * height) (component (row_late c t n) k)
        → Agree (size_of k * width) (size_of k * height) P (component t k) (component (row_late c t n) k)
    agree_on k P a b = record {
      width = a.columns;
      height = a.rows;
      other_width = b.columns;
      other_height = b.rows;
      samples = λ x y column row _. each_sample k x y column row;
    }

    late_again : t ≡ row_late c t n
    late_again =
        let late = late_sized t new_sized in
        all_agree width height is_wide t (row_late c t n) new_sized late (record {
          luma = agree_on 0 _ new_sized.luma late.luma;
          cb = agree_on 1 _ new_sized.cb late.cb;
          cr = agree_on 2 _ new_sized.cr late.cr;
        })

    pub holds_again : HoldsFirst c names (record m { canvas = record m.canvas { planes = t } })
    holds_again = record {
      within = holds.within;
      width = holds.width;
      height = holds.height;
      offset = holds.offset;
      constrained = holds.constrained;
      begun = t;
      begun_sized = new_sized;
      built = late_again;
      neighbours = holds.neighbours;
      filter = holds.filter;
    }

    pub kept_again : PartsAgree (record m { canvas = record m.canvas { planes = t } })
    kept_again = record {
      wide = kept.wide;
      high = kept.high;
      row_width = kept.row_width;
      count = kept.count;
      within = kept.within;
      modes = kept.modes;
      small = kept.small;
      filter_count = kept.filter_count;
    }

-- ---- macroblocks that are copied, none of which is decoded

module _ (w h column row count : ℕ) (from s : Planes) (sized : AreSized w h s) (columns : column + count ≤ w) (low : row < h) where
  pub covers_run : CoverRun column row count s
  covers_run = record {
    luma_columns = omega (arith, sized.luma_width, columns);
    luma_rows = omega (arith, sized.luma_height, low);
    cb_columns = omega (arith, sized.cb_width, columns);
    cb_rows = omega (arith, sized.cb_height, low);
    cr_columns = omega (arith, sized.cr_width, columns);
    cr_rows = omega (arith, sized.cr_height, low);
  }

  abbrev with_run : Planes
  with_run = with_run_of from column row count s

  -- a sample that is not of them
  earlier_stays : (size : ℕ) (p q : Plane) (x y : ℕ) → (size ≡ 16) ⊎ (size ≡ 8) → x < p.width → y < p.height → address_at size w x y < row * w + column
      → sample (with_rectangle_of q (size * column) (size * row) (size * count) size p) x y ≡ sample p x y
  earlier_stays size p q x y is across down early =
      let left : ℕ = size * column in
      let top : ℕ = size * row in
      sample-with_block p left top (size * count) size (λ x y. sample q (left + x) (top + y)) x y across down
      ∙ ap (λ t. if t then sample q (left + (x - left)) (top + (y - top)) else sample p x y)
      (outside left top (size * count) size x y (λ a b c d. not_earlier is a c d))
    where
      not_earlier : (size ≡ 16) ⊎ (size ≡ 8) → size * column ≤ x → size * row ≤ y → y < size * row + size → ⊥
      not_earlier (inl e) a c d =
          let of_row : y / size ≡ row = rw e (omega (arith, rw e at c, rw e at d)) in
          let of_column : column ≤ x / size = rw e (omega (arith, rw e at a)) in
          omega (arith, early, ap (λ n. n * w) of_row, of_column)
      not_earlier (inr e) a c d =
          let of_row : y / size ≡ row = rw e (omega (arith, rw e at c, rw e at d)) in
          let of_column : column ≤ x / size = rw e (omega (arith, rw e at a)) in
          omega (arith, early, ap (λ n. n * w) of_row, of_column)

  pub run_keeps : KeepsEarlier w h (row * w + column) s with_run
  run_keeps = record {
    sized = λ all. record {
      luma = with_block_sized (16 * w) (16 * h) s.luma (16 * column) (16 * row) (16 * count) 16 (λ x y. sample from.luma (16 * column + x) (16 * row + y)) all.luma;
      cb = with_block_sized (8 * w) (8 * h) s.cb (8 * column) (8 * row) (8 * count) 8 (λ x y. sample from.cb (8 * column + x) (8 * row + y)) all.cb;
      cr = with_block_sized (8 * w) (8 * h) s.cr (8 * column) (8 * row) (8 * count) 8 (λ x y. sample from.cr (8 * column + x) (8 * row + y)) all.cr;
    };
    same = each;
  }
    where
      each : (k x y : ℕ) → x < size_of k * w → y < size_of k * h → covering_address w k x y < row * w + column → samples_of with_run k x y ≡ samples_of s k x y
      each zero x y across down early = earlier_stays 16 s.luma from.luma x y (inl refl) (omega (arith, sized.luma_width, across)) (omega (arith, sized.luma_height, down)) early
      each (suc zero) x y across down early = earlier_stays 8 s.cb from.cb x y (inr refl) (omega (arith, sized.cb_width, across)) (omega (arith, sized.cb_height, down)) early
      each (suc (suc k)) x y across down early = earlier_stays 8 s.cr from.cr x y (inr refl) (omega (arith, sized.cr_width, across)) (omega (arith, sized.cr_height, down)) early

  -- those of them are the other's
  run_same : (p q : Plane) (left top width height : ℕ) → left + width ≤ p.width → top + height ≤ p.height → IsSameIn left top width height q (with_rectangle_of q left top width height p)
  run_same p q left top width height right bottom x y a b c d =
      sample-with_block p left top width height (λ x y. sample q (left + x) (top + y)) x y (omega (arith, b, right)) (omega (arith, d, bottom))
      ∙ ap (λ t. if t then sample q (left + (x - left)) (top + (y - top)) else sample p x y) (inside left top width height x y a b c d)
      ∙ ap (λ n. sample q n (top + (y - top))) (omega (arith, a)) ∙ ap (sample q x) (omega (arith, c))

  pub run_there : AreSameIn column row count from with_run
  run_there =
      let room = covers_run in
      record {
        luma = run_same s.luma from.luma (16 * column) (16 * row) (16 * count) 16 room.luma_columns room.luma_rows;
        cb = run_same s.cb from.cb (8 * column) (8 * row) (8 * count) 8 room.cb_columns room.cb_rows;
        cr = run_same s.cr from.cr (8 * column) (8 * row) (8 * count) 8 room.cr_columns room.cr_rows;
      }

  pub run_sized : AreSized w h with_run
  run_sized = record {
    luma_width = sized.luma_width;
    luma_height = sized.luma_height;
    cb_width = sized.cb_width;
    cb_height = sized.cb_height;
    cr_width = sized.cr_width;
    cr_height = sized.cr_height;
  }

-- nothing is copied
pub keeps_all : (w h address : ℕ) (s : Planes) → KeepsEarlier w h address s s
keeps_all w h address s = record { sized = λ all. all; same = λ k x y across down early. refl }

-- the picture that is copied from is of the size
pub first_usable : {PAD : ℕ} (w h : ℕ) (references : List (Option (ReferencePicture PAD))) (picture : ReferencePicture PAD) → AreUsable w h references
    → slice_index_or references 0 None ≡ Some picture → AreSized w h (padded_planes_of picture.planes.now)
first_usable w h references picture usable named = (subst (λ o. IfSome o (IsUsable w h)) named (some_at (IsUsable w h) references 0 usable)).sized

-- ---- a macroblock that is copied is decoded: the others still are

module _ {PAD : ℕ} {references : List (Option (ReferencePicture PAD))} {width column row count : ℕ} {s : Planes} (run : IsRun references width column row count s) where
  pub one_in_place : 0 < count → AreInPlace references column row 1 s
  one_in_place some =
      let there = run.in_place in
      record {
        picture = there.picture;
        named = there.named;
        unweighted = there.unweighted;
        same = record {
          luma = λ x y a b c d. there.same.luma x y a (omega (arith, b, some)) c d;
          cb = λ x y a b c d. there.same.cb x y a (omega (arith, b, some)) c d;
          cr = λ x y a b c d. there.same.cr x y a (omega (arith, b, some)) c d;
        };
      }

  pub others_copied : (left : ℕ) → count ≡ left + 1 → AreCopied references width (column + 1) row left s
  others_copied left one_more some =
      let there = run.in_place in
      record {
        within = omega (arith, run.within, one_more);
        in_place = record {
          picture = there.picture;
          named = there.named;
          unweighted = there.unweighted;
          same = record {
            luma = λ x y a b c d. there.same.luma x y (omega (arith, a)) (omega (arith, b, one_more)) c d;
            cb = λ x y a b c d. there.same.cb x y (omega (arith, a)) (omega (arith, b, one_more)) c d;
            cr = λ x y a b c d. there.same.cr x y (omega (arith, a)) (omega (arith, b, one_more)) c d;
          };
        };
      }

-- ---- by the address of the macroblock that comes next

-- those that are copied from it on, by its column and row
pub copied_here : {PAD : ℕ} (references : List (Option (ReferencePicture PAD))) (width column row next count : ℕ) (s : Planes) → column < width → row * width + column ≡ next
    → AreCopiedFrom references width next count s → AreCopied references width column row count s
copied_here references width column row next count s narrow at copied =
    let across : next % width ≡ column = ap (λ n. n % width) (sym at) ∙ mod-mul-add row width column narrow in
    let down : next / width ≡ row = ap (λ n. n / width) (sym at) ∙ div-mul-add row width column narrow in
    rw (across, down) at copied

-- its row goes on behind it
row_goes_on : (width column row next : ℕ) → column + 1 < width → row * width + column ≡ next → suc next % width ≡ column + 1
row_goes_on width column row next narrow at =
    let place : suc next ≡ row * width + (column + 1) = omega (arith, at) in
    ap (λ n. n % width) place ∙ mod-mul-add row width (column + 1) narrow

-- those behind it are in its row
pub copied_next : {PAD : ℕ} (references : List (Option (ReferencePicture PAD))) (width column row next count : ℕ) (s t : Planes) → row * width + column ≡ next
    → (0 < suc next % width → t ≡ s) → AreCopied references width (column + 1) row count s → AreCopiedFrom references width (next + 1) count t
copied_next references width column row next count s t at same copied some =
    let run = copied some in
    let narrow : column + 1 < width = omega (arith, run.within, some) in
    let place : next + 1 ≡ row * width + (column + 1) = omega (arith, at) in
    let across : (next + 1) % width ≡ column + 1 = ap (λ n. n % width) place ∙ mod-mul-add row width (column + 1) narrow in
    let down : (next + 1) / width ≡ row = ap (λ n. n / width) place ∙ div-mul-add row width (column + 1) narrow in
    let within_row = row_goes_on width column row next narrow at in
    rw (across, down, same (omega (arith, within_row))) run

-- before any is copied
pub none_copied : {PAD : ℕ} (references : List (Option (ReferencePicture PAD))) (width next count : ℕ) (s : Planes) → count ≡ 0 → AreCopiedFrom references width next count s
none_copied references width next count s none some = absurd (omega (arith, none, some))

-- ---- behind a macroblock that stands still, in its row

-- with such a left neighbour a skipped macroblock stands still too (8.4.1.1)
held_by_left : (n : Around) (slice : ℕ) → n.a ≡ Some (still_info slice) → is_held n ≡ true
held_by_left n slice left = rw left refl

-- one address back from behind the last is the last
back_one : (info : List NeighbourInfo) (f : NeighbourInfo) → back (info ++ f ∷ []) 1 ≡ Some f
back_one info f =
    let long : length (info ++ f ∷ []) ≡ suc (length info) = omega (arith, length-append info (f ∷ [])) in
    grind (arith, nat_tests, long, slice_get-next info f [])

-- the macroblock that comes behind it where the row goes on
pub goes_on_still : (row : PictureInfo) (slice : ℕ) (f : NeighbourInfo) → f ≡ still_info slice → 0 < suc (length row.info) % row.width
    → IsHeldByLeft slice (with_info row f) f
goes_on_still row slice f told inside = record {
  told = told;
  held = held_by_left (around (with_info row f) slice) slice left;
}
  where
    long : length (row.info ++ f ∷ []) ≡ suc (length row.info)
    long = omega (arith, length-append row.info (f ∷ []))

    left : mb_a (with_info row f) slice ≡ Some (still_info slice)
    left = grind (arith, nat_tests, long, back_one row.info f, told, inside)

-- likewise by its column and row, where macroblocks are copied behind it
pub goes_on_behind : {PAD : ℕ} (references : List (Option (ReferencePicture PAD))) (width column down next count : ℕ) (s : Planes) (row : PictureInfo) (slice : ℕ) (f : NeighbourInfo)
    → down * width + column ≡ next → row.width ≡ width → length row.info ≡ next → AreCopied references width (column + 1) down count s
    → (0 < count → f ≡ still_info slice) → GoesOnStill count slice (with_info row f) f
goes_on_behind references width column down next count s row slice f at wide long copied told some =
    let narrow : column + 1 < width = omega (arith, (copied some).within, some) in
    let inside : 0 < suc next % width = omega (arith, row_goes_on width column down next narrow at) in
    goes_on_still row slice f (told some) (rw (wide, long) inside)

-- the motion of a skipped macroblock that is held
pub held_motion : (n : Around) → is_held n ≡ true → HasMotion n p_skip (Ok still_blocks)
held_motion n held p known a around =
    skipped_is (near_in p known a) (motion_near n) around.block still_blocks
    (ap (λ b. replicate 16 (inter 0 (if b then zero_vector else median_prediction 0 (neighbours_of (motion_near n) no_motion 0 0 16)))) (sym held)) refl

-- and what else is told of it
pub held_told : (slice : ℕ) (n : Around) (b : Bool) (mb : Mb) → mb.syntax ≡ p_skip → IsNeighbourInfo slice n b mb (still_info slice)
held_told slice n b mb skipped = record {
  slice_is = refl;
  total_coeffs_is = rw skipped refl;
  modes_are = rw skipped (λ c known a _ _. refl);
  in_range = λ _ _. search rules;
}

not_intra : (s : MbSyntax) → s ≡ p_skip → is_intra s ≡ true → ⊥
not_intra s skipped intra = let no : false ≡ true = sym (ap is_intra skipped) ∙ intra in cc

-- what a skipped macroblock is built from doesn't depend on its neighbours (8.4.2)
pub none_asked : {PAD : ℕ} {canvas : CanvasState} {address : ℕ} {mb : Mb} {info : NeighbourInfo} {n : Around} {references : List (Option (ReferencePicture PAD))} {p : Place} (m : Around)
    → mb.syntax ≡ p_skip → IsPlaceOn canvas address mb info n references p → IsPlaceOn canvas address mb info m references p
none_asked m skipped on = record {
  width = on.width;
  height = on.height;
  offset = on.offset;
  address_is = on.address_is;
  mb_is = on.mb_is;
  modes = on.modes;
  motion = on.motion;
  sides = λ intra k h. absurd (not_intra _ skipped intra);
  references_are = on.references_are;
}

-- by whether it was built or refused
pub built_as_told : {PAD : ℕ} {address : ℕ} {mb : Mb} {info : NeighbourInfo} {n : Around} {s : SliceContext PAD} {old new : CanvasState} (result : Result (Unit {0}) Fault)
    → IsBuiltAsTold address mb info n s result old new → IsToldAndBuilt address mb info n s result old new
built_as_told (Ok done) all = all
built_as_told (Err f) all = inr all

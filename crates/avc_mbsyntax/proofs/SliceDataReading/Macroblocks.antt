-- The parts of a macroblock, and its blocks.
pub mod Common
unfoldable pub use Common.*
use Rattle.avc_cavlc.specs.Block.{placed}
use Rattle.avc_types.specs.declared.fault.Fault.TheVariants as faults

-- ---- one block more: nC above 8

many_levels : (n : ℕ) → 8 ≤ n → token_table (pos n) ≡ tokens_8
many_levels n many = rw (le-ltb n 2 (omega (arith, many)), le-ltb n 4 (omega (arith, many)), le-ltb n 8 many) refl

pub token_capped : (n : ℕ) → token_table (pos (min n 8)) ≡ token_table (pos n)
token_capped n = grind (arith, cases_lt, min, many_levels)

abbrev by_table : (max : ℕ) → Table Token → Read (List ℤ)
by_table max table = do
  t ← table_code table
  check (nat_le t.total max) faults.TooManyCoefficients
  values ← token_levels t
  zeros ← elim (t.total == 0 || t.total == max) [ true ↦ give 0 | false ↦ total_zeros t.total (max == 4) ]
  check (nat_le (t.total + zeros) max) faults.TooManyCoefficients
  zero_runs ← runs t.total zeros
  give (placed max values zero_runs)

pub block_capped : (max n : ℕ) (b : Bits) → residual_block max (pos (min n 8)) b ≡ residual_block max (pos n) b
block_capped max n b = ap (λ t. by_table max t b) (token_capped n)

-- ---- blocks in turn

next_block : (max size : ℕ) (coded : ℕ → Bool) (left up : Option (List ℕ)) (k : ℕ) (numbers : List ℕ) (done : List (List ℤ)) (block : List ℤ) (b mid : Bits) →
    block_where max (coded k) (nc size left up (map total_coeff done) k) b ≡ Ok (block, mid) →
    blocks max size coded left up (k ∷ numbers) done b ≡ blocks max size coded left up numbers (done ++ block ∷ []) mid
unfolding blocks
next_block max size coded left up k numbers done block b mid is = rw is refl

no_block : (max size : ℕ) (coded : ℕ → Bool) (left up : Option (List ℕ)) (k : ℕ) (numbers : List ℕ) (done : List (List ℤ)) (f : Fault) (b : Bits) →
    block_where max (coded k) (nc size left up (map total_coeff done) k) b ≡ Err f → blocks max size coded left up (k ∷ numbers) done b ≡ Err f
unfolding blocks
no_block max size coded left up k numbers done f b is = rw is refl

-- where none is coded
pub none_coded : (max size : ℕ) (coded : ℕ → Bool) (left up : Option (List ℕ)) (numbers : List ℕ) (done : List (List ℤ)) (b : Bits) → ((k : ℕ) → coded k ≡ false) →
    blocks max size coded left up numbers done b ≡ Ok (done ++ replicate (length numbers) (no_levels max), b)
unfolding blocks
none_coded max size coded left up [] done b none = ap (λ l. Ok (l, b)) (sym (append-nil done))
none_coded max size coded left up (k ∷ numbers) done b none =
    grind (arith, next_block, append_assoc, none_coded max size coded left up numbers (done ++ no_levels max ∷ []) b none)

pub none_in_pattern : (k : ℕ) → is_coded 0 k ≡ false
none_in_pattern k = grind (arith, div-eq_of_lt, pow_pos)

pub no_luma : (max : ℕ) (pattern : ℕ) (left up : Option (List ℕ)) (b : Bits) → pattern ≡ 0 →
    blocks max 16 (is_coded pattern) left up (range_with_len 0 16) [] b ≡ Ok (replicate 16 (no_levels max), b)
no_luma max pattern left up b none = rw none (none_coded max 16 (is_coded 0) left up (range_with_len 0 16) [] b none_in_pattern)

pub no_chroma : (pattern : ℕ) (left up : Option (List ℕ)) (b : Bits) → pattern ≢ 2 →
    blocks 15 8 (λ k. pattern == 2) left up (range_with_len 0 4) [] b ≡ Ok (replicate 4 (no_levels 15), b)
no_chroma pattern left up b other = none_coded 15 8 (λ k. pattern == 2) left up (range_with_len 0 4) [] b (λ k. ne_eqb pattern 2 other)

-- ---- what was read of the first blocks

pub total_none : (max : ℕ) → total_coeff (no_levels max) ≡ 0
total_none zero = refl
total_none (suc n) = total_none n

-- those that come later are all 0 still
all_zero : {A : Type 0} (n : ℕ) (a : A) (j : ℕ) → get_or (replicate n a) j a ≡ a
all_zero n a j = grind (arith, cases_lt, get_or-replicate, get_or_past, length-replicate)

-- Reading all blocks is reading those from block k on, after the levels of the first; their counts are told, and those of the others are 0.
pub record AreRead (max size total : ℕ) (coded : ℕ → Bool) (left up : Option (List ℕ)) (start now : Bits) (levels : List (List ℤ)) (counts : List ℕ) (k : ℕ) : Type 0 where
  pub long : length levels ≡ total
  pub counts_long : length counts ≡ total
  pub told : take k counts ≡ map total_coeff (take k levels)
  pub none : (j : ℕ) → k ≤ j → get_or counts j 0 ≡ 0
  pub small : All AreSmall (take k levels)
  pub read : blocks max size coded left up (range_with_len 0 total) [] start ≡ blocks max size coded left up (range_with_len k (total - k)) (take k levels) now

module _ {max size total : ℕ} {coded : ℕ → Bool} {left up : Option (List ℕ)} {start : Bits} {levels : List (List ℤ)} where
  pub none_read : length levels ≡ total → AreRead max size total coded left up start start levels (replicate total 0) 0
  none_read long =
      let whole : total - 0 ≡ total = omega arith in
      record { long = long; counts_long = length-replicate {A = ℕ} total 0; told = refl; none = λ j later. all_zero total 0 j; small = λ k d within. absurd (omega arith); read = rw whole refl }

module _ {max size total : ℕ} {coded : ℕ → Bool} {left up : Option (List ℕ)} {start now : Bits} {levels : List (List ℤ)} {counts : List ℕ} {k : ℕ} where
  -- a block is read
  pub block_read : {test : Bool} {block : List ℤ} {mid : Bits} → AreRead max size total coded left up start now levels counts k → k < total → coded k ≡ test →
      block_where max test (nc size left up (take k counts) k) now ≡ Ok (block, mid) → AreSmall block → AreRead max size total coded left up start mid (set levels k block) (set counts k (total_coeff block)) (k + 1)
  block_read {test} {block} {mid} are below is_coded is small =
      let more : total - k ≡ suc (total - (k + 1)) = omega arith in
      let taken = take_more_set levels k block (omega (arith, are.long)) in
      let told = are.told in
      let here : block_where max (coded k) (nc size left up (map total_coeff (take k levels)) k) now ≡ Ok (block, mid) = rw is_coded (rw told at is) in
      record {
        long = length-set levels k block ∙ are.long;
        counts_long = length-set counts k (total_coeff block) ∙ are.counts_long;
        told = take_more_set counts k (total_coeff block) (omega (arith, are.counts_long)) ∙ rw (told, taken) (sym (map-append total_coeff (take k levels) (block ∷ [])));
        none = λ j later. get_or-set_other counts k j (total_coeff block) 0 (λ e. absurd (omega (arith, e, later))) ∙ are.none j (omega (arith, later));
        small = all_more AreSmall levels k block (omega (arith, are.long)) are.small small;
        read = are.read ∙ rw (more, taken) (next_block max size coded left up k (range_with_len (k + 1) (total - (k + 1))) (take k levels) block now mid here);
      }

  -- a block that is not coded
  pub block_passed : AreRead max size total coded left up start now levels counts k → k < total → coded k ≡ false → AreRead max size total coded left up start now (set levels k (no_levels max)) counts (k + 1)
  block_passed are below is_none =
      let same : set counts k (total_coeff (no_levels max)) ≡ counts = rw (total_none max, ← are.none k (omega arith)) (set-get_or counts k 0) in
      rw same at (block_read {block = no_levels max} {mid = now} are below is_none refl (λ i. small_none max i))

  pub block_fault : {f : Fault} → AreRead max size total coded left up start now levels counts k → k < total → coded k ≡ true →
      block_where max true (nc size left up (take k counts) k) now ≡ Err f → blocks max size coded left up (range_with_len 0 total) [] start ≡ Err f
  block_fault {f} are below is_coded is =
      let more : total - k ≡ suc (total - (k + 1)) = omega arith in
      let told = are.told in
      let here : block_where max (coded k) (nc size left up (map total_coeff (take k levels)) k) now ≡ Err f = rw is_coded (rw told at is) in
      are.read ∙ rw more (no_block max size coded left up k (range_with_len (k + 1) (total - (k + 1))) (take k levels) f now here)

  pub all_read : AreRead max size total coded left up start now levels counts k → total ≤ k → (blocks max size coded left up (range_with_len 0 total) [] start ≡ Ok (levels, now)) × All AreSmall levels
  unfolding blocks
  all_read are past = grind (arith, take_all)

-- one block more that is cleared
pub cleared_more : (xs : List (List ℤ)) (k n : ℕ) (x : List ℤ) → k < length xs → take k xs ≡ replicate k x → take (k + 1) (set xs k x) ≡ replicate (k + 1) x
cleared_more xs k n x within so_far = take_more_set xs k x within ∙ ap (λ l. l ++ x ∷ []) so_far ∙ replicate_more k x

-- ---- what is left of a macroblock when all before its blocks has been read

pub after_delta : (c : Context) (pattern : ℕ) (delta d : ℤ) (b b1 : Bits) → qp_delta_where (not (pattern == 0)) b ≡ Ok (delta, b1) → d ≡ delta →
    after_pattern c pattern b ≡ residual_blocks c 16 [] (pattern % 16) (pattern / 16) d b1
after_delta c pattern delta d b b1 is same = rw (same, is) refl

pub after_dc : (c : Context) (n chroma pattern : ℕ) (delta d : ℤ) (dc : List ℤ) (b b1 b2 b3 : Bits) →
    ue_to 3 b ≡ Ok (chroma, b1) → qp_delta b1 ≡ Ok (delta, b2) → luma_dc_levels c b2 ≡ Ok (dc, b3) → pattern ≡ luma_pattern_of n → d ≡ delta →
    i_16x16_mb c n b ≡ (residual_blocks c 15 dc pattern ((n / 4) % 3) d >>= λ r. give (with_residual c r (i_16x16 (n % 4) chroma r))) b3
after_dc c n chroma pattern delta d dc b b1 b2 b3 e1 e2 e3 e4 e5 = rw (e5, e4, e1, e2, e3) refl

pub i_16x16_fault : (c : Context) (n chroma pattern : ℕ) (delta d : ℤ) (dc : List ℤ) (b b1 b2 b3 : Bits) (f : Fault) →
    ue_to 3 b ≡ Ok (chroma, b1) → qp_delta b1 ≡ Ok (delta, b2) → luma_dc_levels c b2 ≡ Ok (dc, b3) → pattern ≡ luma_pattern_of n → d ≡ delta →
    residual_blocks c 15 dc pattern ((n / 4) % 3) d b3 ≡ Err f → i_16x16_mb c n b ≡ Err f
i_16x16_fault c n chroma pattern delta d dc b b1 b2 b3 f e1 e2 e3 e4 e5 e6 = after_dc c n chroma pattern delta d dc b b1 b2 b3 e1 e2 e3 e4 e5 ∙ rw e6 refl

pub i_16x16_read : (c : Context) (n chroma pattern q : ℕ) (delta d : ℤ) (dc : List ℤ) (r : Residual) (b b1 b2 b3 b4 : Bits) →
    ue_to 3 b ≡ Ok (chroma, b1) → qp_delta b1 ≡ Ok (delta, b2) → luma_dc_levels c b2 ≡ Ok (dc, b3) → pattern ≡ luma_pattern_of n → d ≡ delta →
    residual_blocks c 15 dc pattern ((n / 4) % 3) d b3 ≡ Ok (r, b4) → q ≡ qp_after c.qp r.mb_qp_delta →
    i_16x16_mb c n b ≡ Ok (record { syntax = i_16x16 (n % 4) chroma r; qp = q }, b4)
i_16x16_read c n chroma pattern q delta d dc r b b1 b2 b3 b4 e1 e2 e3 e4 e5 e6 e7 = grind (arith, after_dc)

-- ---- macroblocks that were read part by part, and what stands of them in their place

pub same_16x16 : {m m' ch ch' : ℕ} {dc dc' : List ℤ} {l l' : BlockLevels 15} → I16x16 m ch dc l ≡ I16x16 m' ch' dc' l' → (m ≡ m') × (ch ≡ ch') × (dc ≡ dc')
same_16x16 e = (cc, cc, cc)

pub same_nxn : {m m' : List (Option ℕ)} {ch ch' : ℕ} {l l' : BlockLevels 16} → INxN m ch l ≡ INxN m' ch' l' → (m ≡ m') × (ch ≡ ch')
same_nxn e = (cc, cc)

pub same_inter : {t t' : PMbType} {r r' : List ℕ} {v v' : List Mvd} {l l' : BlockLevels 16} → PInter t r v l ≡ PInter t' r' v' l' → (t ≡ t') × (r ≡ r') × (v ≡ v')
same_inter e = (cc, cc, cc)

nxn_with : (modes : Read (List (Option ℕ))) (chroma_mode pattern : Read ℕ) (residual : ℕ → Read Residual) (mb : List (Option ℕ) → ℕ → Residual → Mb) (m : List (Option ℕ)) (ch n : ℕ) (r : Residual) (b b1 b2 b3 b4 : Bits) →
    modes b ≡ Ok (m, b1) → chroma_mode b1 ≡ Ok (ch, b2) → pattern b2 ≡ Ok (n, b3) → residual n b3 ≡ Ok (r, b4) →
    (modes >>= λ m. chroma_mode >>= λ ch. pattern >>= λ n. residual n >>= λ r. give (mb m ch r)) b ≡ Ok (mb m ch r, b4)
nxn_with modes chroma_mode pattern residual mb m ch n r b b1 b2 b3 b4 e1 e2 e3 e4 = rw (e1, e2, e3, e4) refl

pub i_nxn_read : (c : Context) (m m' : List (Option ℕ)) (ch ch' n q : ℕ) (r : Residual) (b b1 b2 b3 b4 : Bits) →
    times 16 block_mode b ≡ Ok (m, b1) → ue_to 3 b1 ≡ Ok (ch, b2) → coded_block_pattern true b2 ≡ Ok (n, b3) → after_pattern c n b3 ≡ Ok (r, b4) → m' ≡ m → ch' ≡ ch → q ≡ qp_after c.qp r.mb_qp_delta →
    i_nxn_mb c b ≡ Ok (record { syntax = i_nxn m' ch' r; qp = q }, b4)
i_nxn_read c m m' ch ch' n q r b b1 b2 b3 b4 e1 e2 e3 e4 e5 e6 e7 =
    nxn_with (times 16 block_mode) (ue_to 3) (coded_block_pattern true) (after_pattern c) (λ m ch r. with_residual c r (i_nxn m ch r)) m ch n r b b1 b2 b3 b4 e1 e2 e3 e4 ∙ rw (e5, e6, e7) refl

pcm_with : {A B C : Type 0} (start : Read (Unit {0})) (luma : Read A) (cb : Read B) (cr : Read C) (mb : A → B → C → Mb) (done : Unit {0}) (x : A) (y : B) (z : C) (b b1 b2 b3 b4 : Bits) →
    start b ≡ Ok (done, b1) → luma b1 ≡ Ok (x, b2) → cb b2 ≡ Ok (y, b3) → cr b3 ≡ Ok (z, b4) → (start >> (luma >>= λ x. cb >>= λ y. cr >>= λ z. give (mb x y z))) b ≡ Ok (mb x y z, b4)
pcm_with start luma cb cr mb done x y z b b1 b2 b3 b4 e1 e2 e3 e4 = rw (e1, e2, e3, e4) refl

pub i_pcm_read : (c : Context) (done : Unit {0}) (luma cb cr : List ℕ) (b b1 b2 b3 b4 : Bits) →
    align b ≡ Ok (done, b1) → times 256 (u 8) b1 ≡ Ok (luma, b2) → times 64 (u 8) b2 ≡ Ok (cb, b3) → times 64 (u 8) b3 ≡ Ok (cr, b4) →
    i_pcm_mb c b ≡ Ok (record { syntax = i_pcm luma cb cr; qp = c.qp }, b4)
i_pcm_read c done luma cb cr b b1 b2 b3 b4 e1 e2 e3 e4 =
    pcm_with align (times 256 (u 8)) (times 64 (u 8)) (times 64 (u 8)) (λ x y z. record { syntax = i_pcm x y z; qp = c.qp }) done luma cb cr b b1 b2 b3 b4 e1 e2 e3 e4

pub p_mb_read : (c : Context) (number n q : ℕ) (t t' : PMbType) (refs refs' : List ℕ) (mvds mvds' : List Mvd) (r : Residual) (b b1 b2 b3 b4 b5 : Bits) →
    p_mb_type number b ≡ Ok (t, b1) → ref_idx_l0 c.num_ref_idx_active t b1 ≡ Ok (take (partitions t) refs, b2) → times (length (parts_of t)) mvd_l0 b2 ≡ Ok (take (length (parts_of t)) mvds, b3) →
    coded_block_pattern false b3 ≡ Ok (n, b4) → after_pattern c n b4 ≡ Ok (r, b5) → t' ≡ t → refs' ≡ refs → mvds' ≡ mvds → q ≡ qp_after c.qp r.mb_qp_delta →
    p_mb c number b ≡ Ok (record { syntax = p_inter t' (take (partitions t') refs') (take (length (parts_of t')) mvds') r; qp = q }, b5)
p_mb_read c number n q t t' refs refs' mvds mvds' r b b1 b2 b3 b4 b5 e1 e2 e3 e4 e5 e6 e7 e8 e9 = rw (e6, e7, e8, e9) (rw (e1, e2, e3, e4, e5) refl)

pub refs_same : (P : ℕ → Type 0) (t t' : PMbType) (refs refs' : List ℕ) → t' ≡ t → refs' ≡ refs → All P (take (partitions t) refs) → All P (take (partitions t') refs')
refs_same P t t' refs refs' e1 e2 all = rw (e1, e2) all

-- ---- where coded_block_pattern is 0

abbrev no_residual : Residual
no_residual = record {
  luma_pattern = 0;
  chroma_pattern = 0;
  mb_qp_delta = pos 0;
  luma_dc = [];
  luma = replicate 16 (no_levels 16);
  cb_dc = no_levels 4;
  cr_dc = no_levels 4;
  cb_ac = replicate 4 (no_levels 15);
  cr_ac = replicate 4 (no_levels 15);
}

no_residual_read : (c : Context) (b : Bits) → after_pattern c 0 b ≡ Ok (no_residual, b)
no_residual_read c b =
    rw (no_luma 16 0 (luma_side c.left) (luma_side c.up) b refl, no_chroma 0 (cb_side c.left) (cb_side c.up) b (λ e. absurd (omega (arith, e))), no_chroma 0 (cr_side c.left) (cr_side c.up) b (λ e. absurd (omega (arith, e)))) refl

none_stands : (levels : BlockLevels 16) → HasNoLevels levels → no_residual ≡ residual_of [] levels
none_stands levels z = rw (z.no_luma_pattern, z.no_chroma_pattern, z.no_delta, z.no_luma, z.no_cb_dc, z.no_cr_dc, z.no_cb_ac, z.no_cr_ac) refl

pub nothing_after : (c : Context) (pattern : ℕ) (levels : BlockLevels 16) (b : Bits) → pattern ≡ 0 → HasNoLevels levels → after_pattern c pattern b ≡ Ok (residual_of [] levels, b)
nothing_after c pattern levels b none z = ap (λ n. after_pattern c n b) none ∙ no_residual_read c b ∙ ap (λ r. Ok (r, b)) (none_stands levels z)

pub nothing_in_range : (levels : BlockLevels 16) → HasNoLevels levels → IsResidual (residual_of [] levels)
nothing_in_range levels z = record {
  luma_bits = omega (arith, z.no_luma_pattern);
  chroma_bits = omega (arith, z.no_chroma_pattern);
  dc = λ i. small_none 0 i;
  blocks = subst (All AreSmall) (sym z.no_luma) (All-replicate AreSmall 16 (no_levels 16) (λ i. small_none 16 i));
  dc_of_cb = subst AreSmall (sym z.no_cb_dc) (λ i. small_none 4 i);
  dc_of_cr = subst AreSmall (sym z.no_cr_dc) (λ i. small_none 4 i);
  blocks_of_cb = subst (All AreSmall) (sym z.no_cb_ac) (All-replicate AreSmall 4 (no_levels 15) (λ i. small_none 15 i));
  blocks_of_cr = subst (All AreSmall) (sym z.no_cr_ac) (All-replicate AreSmall 4 (no_levels 15) (λ i. small_none 15 i));
}

-- ---- a part of the syntax in other words

pub reads_same : {V : Type 0} (result : Result V Fault) (p q : Read V) (old new : BitReader) → ((b : Bits) → p b ≡ q b) → Reads result p old new → Reads result q old new
reads_same result p q old new same read = MatchResult-weaker result read (λ v r. (sym (same (reader_bits old)) ∙ r.0, r.1)) (λ f r. sym (same (reader_bits old)) ∙ r)

pub reads_into_same : {V : Type 0} (result : Result (Unit {0}) Fault) (value : V) (p q : Read V) (old new : BitReader) → ((b : Bits) → p b ≡ q b) → ReadsInto result value p old new → ReadsInto result value q old new
reads_into_same result value p q old new same read = MatchResult-weaker result read (λ v r. (sym (same (reader_bits old)) ∙ r.0, r.1)) (λ f r. sym (same (reader_bits old)) ∙ r)

-- the fault of one part is that of the whole
pub fault_told : {T V : Type 0} {answer : Result V Fault} {f : Fault} (P : T → Type 0) (result : Result T Fault) → IsErrAnd result (λ e. e ≡ f) → answer ≡ Err f → MatchResult result P (λ fault. answer ≡ Err fault)
fault_told P (Ok done) is e = absurd is
fault_told P (Err g) is e = e ∙ ap Err (sym is)

-- a part whose value is another's
pub then_given : {A V : Type 0} (part : Read A) (x : A) (v : V) (b b1 : Bits) → part b ≡ Ok (x, b1) → (part >>= λ _. give v) b ≡ Ok (v, b1)
then_given part x v b b1 e = rw e refl

pub then_fault : {A V : Type 0} (part : Read A) (v : V) (b : Bits) (f : Fault) → part b ≡ Err f → (part >>= λ _. give v) b ≡ Err f
then_fault part v b f e = rw e refl

pub capped_read : (max nC : ℕ) (z : ℤ) (b : Bits) → z ≡ pos (min nC 8) → residual_block max z b ≡ block_where max true nC b
capped_read max nC z b is = rw is (block_capped max nC b)

abbrev by_type : Context → (n : ℕ) → (pcm : Bool) → Read Mb
by_type c n pcm = elim pcm [ true ↦ i_pcm_mb c | false ↦ i_16x16_mb c n ]

-- mb_type 1 to 24 of an I slice
pub i_mb_16x16 : (c : Context) (t : ℕ) (b : Bits) → t ≢ 0 → t ≢ 25 → i_16x16_mb c (t - 1) b ≡ i_mb c t b
i_mb_16x16 c zero b some other = absurd (some refl)
i_mb_16x16 c (suc n) b some other =
    let less : suc n - 1 ≡ n = omega arith in
    let o : (n == 24) ≡ false = ne_eqb n 24 (λ e. other (omega (arith, e))) in
    ap (λ m. i_16x16_mb c m b) less ∙ sym (ap (λ pcm. by_type c n pcm b) o)

-- ---- what holds of the values that parts of a macroblock give

pub gives_te_to : (range : ℕ) → Gives (λ v. v ≤ range) (te_to range)
gives_te_to range = grind (arith, gives-bind, gives-any, gives-check, gives-give)

pub gives_u : (n : ℕ) → Gives (λ v. v < 2 ^ n) (u n)
gives_u n b next x e =
    let Q : Result (ℕ × Bits) Fault → Type 0 = λ r. IsReadBy (IsU n) faults.OutOfRange b r in
    let taken : Takes (IsU n) b x next = subst Q e (u_reads n faults.OutOfRange b) in
    taken.is_word.0

abbrev pub IsRem : Option ℕ → Type 0
IsRem m = IfSome m (λ rem. rem ≤ 7)

gives_rem : (predicted : Bool) → Gives IsRem (elim predicted [ true ↦ give None | false ↦ rem_mode ])
gives_rem true = gives-give IsRem None tt
gives_rem false = gives-bind (λ v. v < 8) IsRem (u 3) _ (gives_u 3) (λ v p. gives-give IsRem (Some v) (omega (arith, p)))

pub gives_block_mode : Gives IsRem block_mode
gives_block_mode = gives-then IsRem flag _ gives_rem

-- ---- of a reader's answer

pub if_gives_into : {W : Type 0} (P : W → Type 0) (result : Result (Unit {0}) Fault) (value : W) (part : Read W) (old new : BitReader) → ReadsInto result value part old new → Gives P part → IfOk result (λ _. P value)
if_gives_into P (Ok v) value part old new read gives = gives (reader_bits old) (reader_bits new) value read.0
if_gives_into P (Err f) value part old new read gives = tt

-- ---- prev_intra4x4_pred_mode_flag and rem_intra4x4_pred_mode from the next four bits

-- the first of some bits
abbrev first : List Bool → Bool
first [] = false
first (b ∷ bits) = b

abbrev ahead : ℕ → List Bool → Bits
ahead p bits = record { position = p; ahead = bits }

not_eight : (v : ℕ) → ((v / 8) % 2 == 1) ≡ true → v < 8 → ⊥
not_eight v e few = grind (arith, nat_tests)

eight : (v : ℕ) → ((v / 8) % 2 == 1) ≡ false → 8 ≤ v → v < 16 → ⊥
eight v e many few = grind (arith, nat_tests)

by_none : (p v : ℕ) (bits : List Bool) → bits_of 4 v ≡ take 4 (bits ++ replicate 4 false) → v < 16 → 8 ≤ v →
    block_mode (ahead p bits) ≡ (skip 1 >>= λ _. give None) (ahead p bits)
by_none p v (true ∷ bits) e few many = refl
by_none p v bits e few many = absurd (eight v (ap first e) many few)

by_some : (p v : ℕ) (bits : List Bool) → bits_of 4 v ≡ take 4 (bits ++ replicate 4 false) → v < 8 →
    block_mode (ahead p bits) ≡ (skip 4 >>= λ _. give (Some v)) (ahead p bits)
by_some p v (true ∷ bits) e few = absurd (not_eight v (ap first e) few)
by_some p v (false ∷ x ∷ y ∷ z ∷ bits) e few =
    let all : number_of (false ∷ x ∷ y ∷ z ∷ []) ≡ v % 2 ^ 4 = ap number_of (sym e) ∙ number-bits_of 4 v in
    let rest : number_of (x ∷ y ∷ z ∷ []) ≡ v = omega (arith, all, few) in
    let place : p + 1 + 3 ≡ p + 4 = omega arith in
    ap (λ n. Ok (Some n, ahead (p + 1 + 3) bits)) rest ∙ ap (λ k. Ok (Some v, ahead k bits)) place
by_some p v bits e few = refl

pub mode_none : (b : Bits) (v : ℕ) → bits_of 4 v ≡ take 4 (b.ahead ++ replicate 4 false) → v < 16 → 8 ≤ v → block_mode b ≡ (skip 1 >>= λ _. give None) b
mode_none b v e few many = by_none b.position v b.ahead e few many

pub mode_some : (b : Bits) (v : ℕ) → bits_of 4 v ≡ take 4 (b.ahead ++ replicate 4 false) → v < 8 → block_mode b ≡ (skip 4 >>= λ _. give (Some v)) b
mode_some b v e few = by_some b.position v b.ahead e few

-- ---- how many parts a macroblock has

abbrev pub count : SubMbType → ℕ
count s = length (parts_of_quarter s 0 0 0)

anywhere : (s : SubMbType) (x y q : ℕ) → length (parts_of_quarter s x y q) ≡ count s
anywhere Sub8x8 x y q = refl
anywhere s x y q = refl

one_quarter : (s : SubMbType) (subs : List SubMbType) (q : ℕ) → length (parts_of_quarters (s ∷ subs) q) ≡ count s + length (parts_of_quarters subs (q + 1))
one_quarter s subs q = length-append (parts_of_quarter s (quarter_x q) (quarter_y q) q) (parts_of_quarters subs (q + 1)) ∙ ap (λ n. n + length (parts_of_quarters subs (q + 1))) (anywhere s (quarter_x q) (quarter_y q) q)

pub four_quarters : (subs : List SubMbType) (d : SubMbType) → length subs ≡ 4 →
    count (get_or subs 0 d) + count (get_or subs 1 d) + count (get_or subs 2 d) + count (get_or subs 3 d) ≡ length (parts_of_quarters subs 0)
four_quarters (s ∷ t ∷ u ∷ v ∷ []) d long =
    omega (arith, one_quarter s (t ∷ u ∷ v ∷ []) 0, one_quarter t (u ∷ v ∷ []) (0 + 1), one_quarter u (v ∷ []) (0 + 1 + 1), one_quarter v [] (0 + 1 + 1 + 1))
four_quarters _ d long = absurd (omega arith)

-- ---- where reference indices are coded

pub ref_idx_coded : (n : ℕ) (s : PMbType) (b : Bits) → is_ref0 s ≡ false → 1 < n → ref_idx_l0 n s b ≡ times (partitions s) (te_to (n - 1)) b
ref_idx_coded n (P8x8Ref0 subs) b other some = cc
ref_idx_coded n s b other some = rw (ref_idx_l0, lt-leb n 1 some) refl

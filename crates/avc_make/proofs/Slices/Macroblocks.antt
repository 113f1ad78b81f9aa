-- Macroblocks: put, and read from their bits.
pub mod Blocks
unfoldable pub use Blocks.*
use Rattle.avc_make.specs.BlockWriting.{IsWritable}

-- ---- macroblocks read from their bits: residual

not_below : (n : ℕ) (most : ℕ) → pos n <ℤ pos 0 → most ≤ 4
not_below n most below = absurd (omega (arith, ints, below))

back-where_coded : (max n : ℕ) (coded : Bool) (block : List ℤ) → max ≤ 16 → IsBlock max coded block → GivesBack (block_where max coded n) (bits_where_coded max (pos n) coded block) block
back-where_coded max n true block few is = back-block max (pos n) block few (not_below n max) is.0 is.1
back-where_coded max n false block few is = rw is back-give

back-blocks : (max size : ℕ) (coded : ℕ → Bool) (left up : Option (List ℕ)) (numbers : List ℕ) (done bs out : List (List ℤ)) → max ≤ 16 → AreBlocks max coded numbers bs →
    done ++ bs ≡ out → GivesBack (blocks max size coded left up numbers done) (blocks_bits max size coded left up numbers done bs) out
unfolding blocks
back-blocks max size coded left up [] done [] out few is all = with_value (sym (append-nil done) ∙ all) back-give
back-blocks max size coded left up (k ∷ numbers) done (b ∷ bs) out few is all =
    back-bind _ (back-where_coded max (nc size left up (map total_coeff done) k) (coded k) b few is.0)
    (back-blocks max size coded left up numbers (done ++ b ∷ []) bs out few is.1 (append_assoc done (b ∷ []) bs ∙ all))
back-blocks max size coded left up _ done _ out few is all = absurd is

-- nC of the DC levels
abbrev dc_nc : Context → ℕ
dc_nc c = nc 16 (option_map (λ t. t.luma) c.left) (option_map (λ t. t.luma) c.up) [] 0

luma_max_small : (with_dc : Bool) → luma_max with_dc ≤ 16
luma_max_small with_dc = grind arith

back-chroma_dc : (pattern : ℕ) (levels : List ℤ) → IsChromaDc pattern levels → GivesBack (chroma_dc pattern) (chroma_dc_bits pattern levels) levels
back-chroma_dc zero levels is = rw is back-give
back-chroma_dc (suc p) levels is = back-block 4 (negsuc 0) levels (omega arith) (λ below. omega arith) is.0 is.1

back-residual_blocks : (c : Context) (with_dc : Bool) (r : Residual) → IsResidual with_dc r →
    GivesBack (residual_blocks c (luma_max with_dc) r.luma_dc r.luma_pattern r.chroma_pattern r.mb_qp_delta) (block_words c with_dc r) r
back-residual_blocks c with_dc r is =
    back-bind _ (back-blocks (luma_max with_dc) 16 (is_coded r.luma_pattern) _ _ (range_with_len 0 16) [] r.luma r.luma (luma_max_small with_dc) is.luma refl)
    (back-bind _ (back-chroma_dc r.chroma_pattern r.cb_dc is.cb_dc) (back-bind _ (back-chroma_dc r.chroma_pattern r.cr_dc is.cr_dc)
    (back-bind _ (back-blocks 15 8 (λ k. r.chroma_pattern == 2) _ _ (range_with_len 0 4) [] r.cb_ac r.cb_ac (omega arith) is.cb_ac refl)
    (back-last _ (back-blocks 15 8 (λ k. r.chroma_pattern == 2) _ _ (range_with_len 0 4) [] r.cr_ac r.cr_ac (omega arith) is.cr_ac refl)))))

back-residual : (c : Context) (with_dc : Bool) (r : Residual) → IsResidual with_dc r → GivesBack (residual c with_dc r.luma_pattern r.chroma_pattern r.mb_qp_delta) (residual_bits c with_dc r) r
back-residual c true r is = back-bind _ (back-where_coded 16 (dc_nc c) true r.luma_dc (omega arith) is.luma_dc) (back-residual_blocks c true r is)
back-residual c false r is =
    subst (λ dc. GivesBack (residual_blocks c 16 dc r.luma_pattern r.chroma_pattern r.mb_qp_delta) (block_words c false r) r) is.luma_dc (back-residual_blocks c false r is)

-- ---- coded_block_pattern

pub is_number : ℕ → Option ℕ → Bool
is_number n None = false
is_number n (Some m) = n == m

abbrev pub has_number : (intra : Bool) → ℕ → Bool
has_number intra n = is_number n (pattern_at intra (pattern_number intra n)) && nat_lt (pattern_number intra n) 48

all_have_numbers : (intra : Bool) → agree_below (has_number intra) (λ n. true) 48 ≡ true
unfolding is_number
all_have_numbers true = refl
all_have_numbers false = refl

is_number_true : (n : ℕ) (found : Option ℕ) → is_number n found ≡ true → found ≡ Some n
unfolding is_number
is_number_true n found is = grind (arith, nat_tests)

pub record HasNumber (intra : Bool) (n : ℕ) : Type 0 where
  pub place : pattern_at intra (pattern_number intra n) ≡ Some n
  pub small : pattern_number intra n < 48

pub number_below : (intra : Bool) (n : ℕ) → n < 48 → HasNumber intra n
number_below intra n below =
    let place = pattern_number intra n in
    let both = and_parts (is_number n (pattern_at intra place)) (nat_lt place 48) (agree_below_at (has_number intra) (λ k. true) 48 n (all_have_numbers intra) below) in
    record { place = is_number_true n (pattern_at intra place) both.0; small = ltb-true place 48 both.1 }

back-coded_block_pattern : (intra : Bool) {pattern : ℕ} → pattern < 48 → GivesBack (coded_block_pattern intra) (ue_word (pattern_number intra pattern)) pattern
back-coded_block_pattern intra {pattern} below =
    let is = number_below intra pattern below in
    back-then (λ k. elim (pattern_at intra k) [ Some p ↦ give p | None ↦ refuse faults.BadCode ]) (back-ue (omega (arith, is.small))) (rw (is.place) back-give)

back-qp_delta : {d : ℤ} → negsuc 25 ≤ℤ d → d ≤ℤ pos 25 → GivesBack qp_delta (se_word d) d
back-qp_delta least most = back-se_within (negsuc 25) (pos 25) refl least most

back-delta : (pattern : ℕ) (d : ℤ) → negsuc 25 ≤ℤ d → d ≤ℤ pos 25 → (pattern ≡ 0 → d ≡ pos 0) → GivesBack (qp_delta_where (not (pattern == 0))) (qp_delta_bits pattern d) d
back-delta zero d least most none = let same = none refl in rw same back-give
back-delta (suc p) d least most none = search (rules, back-qp_delta)

-- what follows coded_block_pattern
back-after_pattern : (c : Context) (r : Residual) → IsPattern r → GivesBack (after_pattern c (pattern_of r)) (qp_delta_bits (pattern_of r) r.mb_qp_delta ++ residual_bits c false r) r
back-after_pattern c r is =
    let all = is.residual in
    let low : pattern_of r % 16 ≡ r.luma_pattern = omega (arith, all.luma_pattern) in
    let high : pattern_of r / 16 ≡ r.chroma_pattern = omega (arith, all.luma_pattern) in
    back-bind (λ delta. residual c false (pattern_of r % 16) (pattern_of r / 16) delta) (back-delta (pattern_of r) r.mb_qp_delta all.least all.most is.no_delta) (rw (low, high) (back-residual c false r all))

pattern_small : (r : Residual) → IsPattern r → pattern_of r < 48
pattern_small r is = omega (arith, is.residual.luma_pattern, is.residual.chroma_pattern)

-- ---- I macroblocks

back-mode_of : (m : Option ℕ) → IsCodedMode m → GivesBack block_mode (mode_bits m) m
back-mode_of None is = back-then _ (back-flag {b = true}) back-give
back-mode_of (Some rem) is = back-bind _ (back-flag {b = false}) (back-last (λ r. Some r) (back-u 3 is))

back-mode : GivesEach block_mode mode_bits IsCodedMode
back-mode = record { each = back-mode_of }

abbrev mb_of : Context → Residual → MbSyntax → Mb
mb_of c r syntax = record { syntax = syntax; qp = qp_after c.qp r.mb_qp_delta }

back-i_nxn : (c : Context) (modes : List (Option ℕ)) (chroma_mode : ℕ) (r : Residual) → IsINxN modes chroma_mode r → GivesBack (i_nxn_mb c) (i_nxn_bits c modes chroma_mode r) (mb_of c r (i_nxn modes chroma_mode r))
back-i_nxn c modes chroma_mode r is =
    back-bind _ (back-times 16 is.all back-mode is.modes_fit) (back-bind _ (back-ue_to 3 refl is.chroma)
    (back-bind _ (back-coded_block_pattern true (pattern_small r is.pattern)) (back-last _ (back-after_pattern c r is.pattern))))

-- what mb_type says of Intra 16x16
record Is16x16 (n mode luma chroma : ℕ) : Type 0 where
  few : n ≤ 23
  mode_is : n % 4 ≡ mode
  chroma_is : (n / 4) % 3 ≡ chroma
  luma_is : elim (nat_le 12 n) [ true ↦ 15 | false ↦ 0 ] ≡ luma

type_says : (mode luma chroma : ℕ) (none : Bool) → mode ≤ 3 → chroma ≤ 2 → luma ≡ elim none [ true ↦ 0 | false ↦ 15 ] →
    Is16x16 (mode + 4 * chroma + elim none [ true ↦ 0 | false ↦ 12 ]) mode luma chroma
type_says mode luma chroma none m ch is = grind (arith, nat_tests)

back-i_16x16 : (c : Context) (mode chroma_mode n : ℕ) (r : Residual) → Is16x16 n mode r.luma_pattern r.chroma_pattern → IsI16x16 mode chroma_mode r →
    GivesBack (i_mb c (suc n)) (i_16x16_bits c chroma_mode r) (mb_of c r (i_16x16 mode chroma_mode r))
back-i_16x16 c mode chroma_mode n r says is =
    let all = is.residual in
    let other : (n == 24) ≡ false = ne_eqb n 24 (λ e. omega (arith, says.few, e)) in
    rw (i_mb, other, says.mode_is, says.chroma_is, says.luma_is)
    (back-bind _ (back-ue_to 3 refl is.chroma) (back-bind _ (back-qp_delta all.least all.most) (back-last _ (back-residual c true r all))))

back-byte : GivesEach (u 8) (bits_of 8) (λ v. v < 256)
back-byte = record { each = λ v fits. back-u 8 fits }

back-samples : (n : ℕ) {samples : List ℕ} → AreSamples n samples → GivesBack (times n (u 8)) (byte_bits samples) samples
back-samples n is = back-times n is.all back-byte is.bytes

at-align : (position : ℕ) (rest : List Bool) → ReadsAt position rest (zeros_to_byte position) align tt
at-align position rest =
    let n = (8 - position % 8) % 8 in
    let skipped : GivesBack (skip n) (replicate n false) tt = back-then _ (back-bits n (length-replicate n false)) back-give in
    record { read = (skipped.back position rest).read }

abbrev pcm_of : Context → (luma cb cr : List ℕ) → Mb
pcm_of c luma cb cr = record { syntax = i_pcm luma cb cr; qp = c.qp }

at-i_pcm : (position : ℕ) (rest : List Bool) (c : Context) (luma cb cr : List ℕ) → IsIPcm luma cb cr →
    ReadsAt position rest (i_pcm_bits position luma cb cr) (i_mb c 25) (pcm_of c luma cb cr)
at-i_pcm position rest c luma cb cr is =
    let samples = back-bind _ (back-samples 256 is.luma_samples) (back-bind _ (back-samples 64 is.cb_samples) (back-last _ (back-samples 64 is.cr_samples))) in
    let all : ReadsAt position rest (i_pcm_bits position luma cb cr) (i_pcm_mb c) (pcm_of c luma cb cr) = at-bind _ (at-align position _) (samples.back _ rest) in
    record { read = all.read }

-- ---- P macroblocks

number_is : (s : SubMbType) → (sub_mb_type (sub_mb_number s) ≡ s) × (sub_mb_number s ≤ 3)
number_is s = grind arith

back-sub : GivesEach (ue_to 3 >>= λ t. give (sub_mb_type t)) (λ s. ue_word (sub_mb_number s)) (λ (s : SubMbType). Unit {0})
back-sub = record { each = λ s any. with_value (number_is s).0 (back-last sub_mb_type (back-ue_to 3 refl (number_is s).1)) }

back-p_mb_type : (t : PMbType) → HasQuarters t → GivesBack (p_mb_type (p_mb_number t)) (sub_mb_types_bits t) t
back-p_mb_type (P8x8 subs) is = back-last (λ l. P8x8 l) (back-times 4 is back-sub (any_each subs))
back-p_mb_type (P8x8Ref0 subs) is = back-last (λ l. P8x8Ref0 l) (back-times 4 is back-sub (any_each subs))
back-p_mb_type t is = back-give

back-te_to : (range : ℕ) → GivesEach (te_to range) (te_word range) (λ v. (v ≤ range) × (v < 4294967295))
back-te_to range = record { each = λ v is. back-then _ (back-te range is.0 is.1) (back-then _ (back-check _ (le-leb v range is.0)) back-give) }

back-indices : (active n : ℕ) (one : Bool) (indices : List ℕ) → IsRefIdx active n (not one) indices →
    GivesBack (elim one [ true ↦ give (replicate n 0) | false ↦ times n (te_to (active - 1)) ]) (ref_idx_bits active (not one) indices) indices
back-indices active n true indices is = rw is back-give
back-indices active n false indices is = back-times n is.all (back-te_to (active - 1)) is.active

back-ref_idx : (active : ℕ) (t : PMbType) (indices : List ℕ) → IsRefIdx active (partitions t) (has_ref_idx active t) indices → GivesBack (ref_idx_l0 active t) (ref_idx_bits active (has_ref_idx active t) indices) indices
back-ref_idx active (P8x8Ref0 subs) indices is = rw is back-give
back-ref_idx active t indices is = back-indices active (partitions t) (nat_le active 1) indices is

back-mvd : GivesEach mvd_l0 mvd_bits IsMvd
back-mvd = record { each = λ d is. back-bind _ (back-se is.0.0 is.0.1) (back-last _ (back-se is.1.0 is.1.1)) }

back-p_mb : (c : Context) (t : PMbType) (indices : List ℕ) (mvds : List Mvd) (r : Residual) → IsPInter c t indices mvds r →
    GivesBack (p_mb c (p_mb_number t)) (p_inter_bits c t indices mvds r) (mb_of c r (p_inter t indices mvds r))
back-p_mb c t indices mvds r is =
    back-bind _ (back-p_mb_type t is.quarters) (back-bind _ (back-ref_idx c.num_ref_idx_active t indices is.ref_idx) (back-bind _ (back-times (length (parts_of t)) is.all back-mvd is.mvd)
    (back-bind _ (back-coded_block_pattern false (pattern_small r is.pattern)) (back-last _ (back-after_pattern c r is.pattern)))))

-- ---- macroblock_layer

abbrev macroblock_where : (p : Bool) → Context → Read Mb
macroblock_where p c =
    elim p [
      | false ↦ (ue_to 25 >>= λ mb_type. i_mb c mb_type)
      | true ↦ (ue_to 30 >>= λ mb_type. elim (nat_lt mb_type 5) [ true ↦ p_mb c mb_type | false ↦ i_mb c (mb_type - 5) ])
    ]

-- a macroblock of an I type after its mb_type
at-i_type : (p : Bool) {position : ℕ} {rest w : List Bool} (c : Context) (n : ℕ) {mb : Mb} → n ≤ 25 → ReadsAt (position + length (ue_word (i_type p n))) rest w (i_mb c n) mb →
    ReadsAt position rest (ue_word (i_type p n) ++ w) (macroblock_where p c) mb
at-i_type true c n few others =
    let above : nat_lt (5 + n) 5 ≡ false = le-ltb (5 + n) 5 (omega arith) in
    let less : 5 + n - 5 ≡ n = omega arith in
    at-bind (λ mb_type. elim (nat_lt mb_type 5) [ true ↦ p_mb c mb_type | false ↦ i_mb c (mb_type - 5) ]) ((back-ue_to 30 refl (omega (arith, few))).back _ _) (rw (above, less) others)
at-i_type false c n few others = at-bind _ ((back-ue_to 25 refl few).back _ _) others

p_number_few : (t : PMbType) → p_mb_number t < 5
p_number_few t = grind arith

back-p_type : {w : List Bool} (c : Context) (n : ℕ) {mb : Mb} → n < 5 → GivesBack (p_mb c n) w mb → GivesBack (macroblock_where true c) (ue_word n ++ w) mb
back-p_type c n few others =
    let below : nat_lt n 5 ≡ true = lt-ltb n 5 few in
    back-bind (λ mb_type. elim (nat_lt mb_type 5) [ true ↦ p_mb c mb_type | false ↦ i_mb c (mb_type - 5) ]) (back-ue_to 30 refl (omega (arith, few))) (rw below others)

at-mb : (position : ℕ) (rest : List Bool) (c : Context) (syntax : MbSyntax) → HasRanges c syntax →
    ReadsAt position rest (mb_bits c position syntax) (macroblock_where c.is_p c) (record { syntax = syntax; qp = qp_of c.qp syntax })
at-mb position rest c p_skip is = absurd is
at-mb position rest c (i_pcm luma cb cr) is = at-i_type c.is_p c 25 (omega arith) (at-i_pcm _ rest c luma cb cr is)
at-mb position rest c (i_nxn modes chroma_mode r) is = at-i_type c.is_p c 0 (omega arith) ((back-i_nxn c modes chroma_mode r is).back _ rest)
at-mb position rest c (i_16x16 mode chroma_mode r) is =
    let says = type_says mode r.luma_pattern r.chroma_pattern (r.luma_pattern == 0) is.mode_fits is.residual.chroma_pattern is.luma_pattern in
    at-i_type c.is_p c (type_16x16 mode r) (omega (arith, says.few)) ((back-i_16x16 c mode chroma_mode _ r says is).back _ rest)
at-mb position rest c (p_inter t indices mvds r) is =
    subst (λ p. ReadsAt position rest (mb_bits c position (p_inter t indices mvds r)) (macroblock_where p c) (mb_of c r (p_inter t indices mvds r))) (sym is.in_p)
    ((back-p_type c (p_mb_number t) (p_number_few t) (back-p_mb c t indices mvds r is)).back position rest)

pub mb_is_read : MbIsRead
mb_is_read c position rest syntax is = (at-mb position rest c syntax is).read

-- ---- the place of a pattern in its table

abbrev pub table_of : (intra : Bool) → List ℕ
table_of true = cbp_intra
table_of false = cbp_inter

pub number_is_place : (intra : Bool) (n : ℕ) → pattern_number intra n ≡ place_of n (table_of intra)
number_is_place intra n = grind arith

found_at : (intra : Bool) (k m : ℕ) → pattern_at intra k ≡ Some m → slice_get (table_of intra) k ≡ Some m
found_at intra k m is = grind arith

pub drop_at : (intra : Bool) (k m : ℕ) → pattern_at intra k ≡ Some m → drop k (table_of intra) ≡ m ∷ drop (k + 1) (table_of intra)
drop_at intra k m is =
    let table = table_of intra in
    let found = found_at intra k m is in
    drop_more table k 0 (slice_get_within table k m found) ∙ ap (λ x. x ∷ drop (k + 1) table) (get_or_from_slice_get table k m 0 found)

pub place_here : (n m : ℕ) (others all : List ℕ) → all ≡ m ∷ others → m ≡ n → place_of n all ≡ 0
place_here n m others all is same = rw is (grind (arith, nat_tests))

pub place_behind : (n m : ℕ) (others all : List ℕ) → all ≡ m ∷ others → m ≢ n → place_of n all ≡ suc (place_of n others)
place_behind n m others all is other = rw is (grind (arith, nat_tests))

-- ---- the blocks of a component put one after another: one block

abbrev with_token : (most : ℕ) → (word : Option (List Bool)) → List (ℤ × ℕ) → List Bool
with_token most word found =
    let values = values_of found in
    let total = length found in
    let ones = ones_first 3 values in
    joined (or_none word ∷ sign_bits ones values ∷ levels_bits (first_length total ones) (nat_lt ones 3) (drop ones values)
    ∷ zeros_bits most total (sum (runs_of found)) ∷ runs_bits (sum (runs_of found)) (runs_of found) ∷ [])

bits_capped : (max n : ℕ) (levels : List ℤ) → block_bits max (pos (min n 8)) levels ≡ block_bits max (pos n) levels
bits_capped max n levels = search (rules, token, token_capped)

pub coded_block : (max n : ℕ) (z : ℤ) (coded : Bool) (levels : List ℤ) → coded ≡ true → z ≡ pos (min n 8) → block_bits max z levels ≡ bits_where_coded max (pos n) coded levels
coded_block max n z coded levels is same = rw (same, is) (bits_capped max n levels)

pub writable_of : (max : ℕ) (coded : Bool) (levels : List ℤ) → coded ≡ true → IsBlock max coded levels → IsWritable levels
writable_of max coded levels is block = let both = rw is at block in both.1

pub writable_dc : (pattern : ℕ) (levels : List ℤ) → 0 < pattern → IsChromaDc pattern levels → IsWritable levels
writable_dc pattern levels some block = grind arith

pub some_dc : (pattern : ℕ) (levels : List ℤ) → 0 < pattern → block_bits 4 (negsuc 0) levels ≡ chroma_dc_bits pattern levels
some_dc pattern levels some = grind arith

-- the same bits
pub puts_same : (result : Result (Unit {0}) OutOfMemory) (v w : List Bool) (old new : Made) → v ≡ w → Puts result v old new → Puts result w old new
puts_same result v w old new same = subst (λ b. Puts result b old new) same

-- ---- blocks in turn

-- What was put of the first k blocks and what the others will put are all; the counts are those of the first.
pub record ArePut (max size total : ℕ) (coded : ℕ → Bool) (left up : Option (List ℕ)) (blocks : List (List ℤ)) (start now : Made) (counts : List ℕ) (k : ℕ) : Type 0 where
  pub going : now.failed ≡ false
  pub long : length counts ≡ total
  pub told : take k counts ≡ map total_coeff (take k blocks)
  pub fits : AreBlocks max coded (range_with_len k (total - k)) (drop k blocks)
  pub sum : now.bits ++ blocks_bits max size coded left up (range_with_len k (total - k)) (take k blocks) (drop k blocks) ≡ start.bits ++ blocks_bits max size coded left up (range_with_len 0 total) [] blocks

module _ {max size total : ℕ} {coded : ℕ → Bool} {left up : Option (List ℕ)} {blocks : List (List ℤ)} {start now : Made} {counts : List ℕ} {k : ℕ} where
  pub block_here : ArePut max size total coded left up blocks start now counts k → k < total → length blocks ≡ total → (d : List ℤ) →
      IsBlock max (coded k) (get_or blocks k d) × AreBlocks max coded (range_with_len (k + 1) (total - (k + 1))) (drop (k + 1) blocks)
  block_here are below long d =
      let more : total - k ≡ suc (total - (k + 1)) = omega arith in
      let next = drop_more blocks k d (omega arith) in
      rw (more, next) at are.fits

  pub block_put : {new : Made} → ArePut max size total coded left up blocks start now counts k → k < total → length blocks ≡ total → (d : List ℤ) →
      new ≡ with_bits now (bits_where_coded max (pos (nc size left up (take k counts) k)) (coded k) (get_or blocks k d)) →
      ArePut max size total coded left up blocks start new (set counts k (total_coeff (get_or blocks k d))) (k + 1)
  block_put are below long d is_new =
      let more : total - k ≡ suc (total - (k + 1)) = omega arith in
      let next = drop_more blocks k d (omega arith) in
      let taken = take_more blocks k d (omega arith) in
      let n = total_coeff (get_or blocks k d) in
      record {
        going = ap (λ m. m.failed) is_new;
        long = length-set counts k n ∙ are.long;
        told = take_more_set counts k n (omega (arith, are.long)) ∙ ap (λ l. l ++ n ∷ []) are.told ∙ sym (ap (map total_coeff) taken ∙ map-append total_coeff (take k blocks) (get_or blocks k d ∷ []));
        fits = (block_here are below long d).1;
        sum = rw (is_new, taken, append_assoc, are.told) (rw (more, next) at are.sum);
      }

  pub blocks_put : ArePut max size total coded left up blocks start now counts k → total ≤ k → now ≡ with_bits start (blocks_bits max size coded left up (range_with_len 0 total) [] blocks)
  blocks_put are past = search (rules, total, put_all)

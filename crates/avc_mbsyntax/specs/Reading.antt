-- One macroblock from its bits (7.3.5, 7.3.5.1 to 7.3.5.3).
use Rattle.std.specs.Prelude.{ℕ, zero, suc, ◌-◌, ◌/◌, ◌%◌, ◌^◌, ℤ, pos, negsuc, ◌+ℤ◌, nat_abs, Bool}
use Rattle.std.specs.Prelude.{true, false, not, ◌==◌, nat_le, nat_lt, List, [], ◌∷◌, ◌++◌, length}
use Rattle.std.specs.Prelude.{map, replicate, Option, Some, None}
use Rattle.std.specs.List.{range_with_len}
use Rattle.std.specs.Option.{option_map}
use Rattle.avc_types.specs.declared.macroblock.Mvd.{Mvd}
use Rattle.avc_types.specs.declared.macroblock.PMbType.{PMbType}
use Rattle.avc_types.specs.declared.macroblock.PMbType.TheVariants.{P16x16, P16x8, P8x16, P8x8}
use Rattle.avc_types.specs.declared.macroblock.PMbType.TheVariants.{P8x8Ref0}
use Rattle.avc_types.specs.declared.macroblock.SubMbType.{SubMbType}
use Rattle.avc_types.specs.declared.macroblock.SubMbType.TheVariants.{Sub8x8, Sub8x4, Sub4x8}
use Rattle.avc_types.specs.declared.macroblock.SubMbType.TheVariants.{Sub4x4}
use Rattle.avc_types.specs.Macroblock.{total_coeff, Residual, MbSyntax, i_pcm, i_nxn, i_16x16}
use Rattle.avc_types.specs.Macroblock.{p_inter, Mb, parts_of, partitions}
use Rattle.avc_bits.specs.Bits.{Read, ◌>>=◌, ◌>>◌, give, times}
use Rattle.avc_bits.specs.Codes.{u, flag, ue_to, se, se_within, te_to, align}
use Rattle.avc_vlc.specs.Reading.{coded_block_pattern}
use Rattle.avc_cavlc.specs.Block.{residual_block}
use Rattle.avc_neigh.specs.declared.neighbour_info.TotalCoeffs.{TotalCoeffs}
use Rattle.avc_neigh.specs.TotalCoeffs.{nc}
use Rattle.avc_mbsyntax.specs.declared.context.Context.{Context}

-- ---- residual (7.3.5.3)

-- a block that is not coded: its levels are 0 (7.3.5.3)
abbrev pub no_levels : ℕ → List ℤ
no_levels max = replicate max (pos 0)

-- A block of max levels, where it is coded (7.3.5.3).
abbrev pub block_where : (max : ℕ) → (coded : Bool) → (nC : ℕ) → Read (List ℤ)
block_where max true nC = residual_block max (pos nC)
block_where max false nC = give (no_levels max)

-- Further blocks of a component, after those done, each of max levels where it is coded (7.3.5.3,
-- 7.3.5.3.1).
unfoldable pub blocks : (max size : ℕ) → (coded : ℕ → Bool) → (left up : Option (List ℕ)) →
    (numbers : List ℕ) → (done : List (List ℤ)) → Read (List (List ℤ))
blocks max size coded left up [] done = give done
blocks max size coded left up (k ∷ numbers) done = do
  block ← block_where max (coded k) (nc size left up (map total_coeff done) k)
  blocks max size coded left up numbers (done ++ block ∷ [])

-- total_coeff of a neighbour's luma blocks (9.2.1)
abbrev pub luma_side : Option TotalCoeffs → Option (List ℕ)
luma_side = option_map (λ c. c.luma)

-- of its Cb blocks (9.2.1)
abbrev pub cb_side : Option TotalCoeffs → Option (List ℕ)
cb_side = option_map (λ c. c.cb)

-- of its Cr blocks (9.2.1)
abbrev pub cr_side : Option TotalCoeffs → Option (List ℕ)
cr_side = option_map (λ c. c.cr)

-- the bit of the quarter of luma block k in CodedBlockPatternLuma is set (7.4.5)
abbrev pub is_coded : (luma_pattern k : ℕ) → Bool
is_coded luma_pattern k = (luma_pattern / 2 ^ (k / 4)) % 2 == 1

-- ChromaDCLevel of one component, coded where CodedBlockPatternChroma is not 0 (7.3.5.3)
abbrev pub chroma_dc : (chroma_pattern : ℕ) → Read (List ℤ)
chroma_dc zero = give (no_levels 4)
chroma_dc (suc _) = residual_block 4 (negsuc 0)

-- Intra16x16DCLevel, at nC of block 0 (7.3.5.3.1, 9.2.1)
abbrev pub luma_dc_levels : Context → Read (List ℤ)
luma_dc_levels c = residual_block 16 (pos (nc 16 (luma_side c.left) (luma_side c.up) [] 0))

-- The residual of these patterns behind luma_dc, where a luma block has max levels (7.3.5.3).
abbrev pub residual_blocks : Context → (max : ℕ) → (luma_dc : List ℤ) →
    (luma_pattern chroma_pattern : ℕ) → (mb_qp_delta : ℤ) → Read Residual
residual_blocks c max luma_dc luma_pattern chroma_pattern mb_qp_delta = do
  luma ← blocks max 16 (is_coded luma_pattern) (luma_side c.left) (luma_side c.up)
      (range_with_len 0 16) []
  cb_dc ← chroma_dc chroma_pattern
  cr_dc ← chroma_dc chroma_pattern
  cb_ac ← blocks 15 8 (λ k. chroma_pattern == 2) (cb_side c.left) (cb_side c.up)
      (range_with_len 0 4) []
  cr_ac ← blocks 15 8 (λ k. chroma_pattern == 2) (cr_side c.left) (cr_side c.up)
      (range_with_len 0 4) []
  give (record {
    luma_pattern = luma_pattern;
    chroma_pattern = chroma_pattern;
    mb_qp_delta = mb_qp_delta;
    luma_dc = luma_dc;
    luma = luma;
    cb_dc = cb_dc;
    cr_dc = cr_dc;
    cb_ac = cb_ac;
    cr_ac = cr_ac;
  })

-- residual( ) of these patterns (7.3.5.3); with_dc says that the macroblock is Intra 16x16
abbrev pub residual : Context → (with_dc : Bool) → (luma_pattern chroma_pattern : ℕ) →
    (mb_qp_delta : ℤ) → Read Residual
residual c true luma_pattern chroma_pattern mb_qp_delta = do
  luma_dc ← luma_dc_levels c
  residual_blocks c 15 luma_dc luma_pattern chroma_pattern mb_qp_delta
residual c false luma_pattern chroma_pattern mb_qp_delta =
    residual_blocks c 16 [] luma_pattern chroma_pattern mb_qp_delta

-- mb_qp_delta, -26 to 25 at 8 bits (7.4.5)
abbrev pub qp_delta : Read ℤ
qp_delta = se_within (negsuc 25) (pos 25)

-- mb_qp_delta, which is 0 where it is not coded (7.3.5, 7.4.5)
abbrev pub qp_delta_where : (coded : Bool) → Read ℤ
qp_delta_where true = qp_delta
qp_delta_where false = give (pos 0)

-- what follows coded_block_pattern: CodedBlockPatternLuma is its remainder by 16 (7.3.5, 7.4.5)
abbrev pub after_pattern : Context → (pattern : ℕ) → Read Residual
after_pattern c pattern = do
  delta ← qp_delta_where (not (pattern == 0))
  residual c false (pattern % 16) (pattern / 16) delta

-- QP_Y (7.4.5)
abbrev pub qp_after : (previous : ℕ) → (mb_qp_delta : ℤ) → ℕ
qp_after previous delta = nat_abs ((pos previous +ℤ delta) +ℤ pos 52) % 52

-- a macroblock with this residual, and its QP_Y (7.4.5)
abbrev pub with_residual : Context → Residual → MbSyntax → Mb
with_residual c r syntax = record { syntax = syntax; qp = qp_after c.qp r.mb_qp_delta }

-- ---- I macroblocks

-- rem_intra4x4_pred_mode (7.3.5.1)
abbrev pub rem_mode : Read (Option ℕ)
rem_mode = u 3 >>= λ rem. give (Some rem)

-- prev_intra4x4_pred_mode_flag, and rem_intra4x4_pred_mode where it is 0 (7.3.5.1)
abbrev pub block_mode : Read (Option ℕ)
block_mode = flag >>= λ predicted. elim predicted [ true ↦ give None | false ↦ rem_mode ]

-- an I_NxN macroblock, with Intra_4x4 prediction (7.3.5, 7.3.5.1)
abbrev pub i_nxn_mb : Context → Read Mb
i_nxn_mb c = do
  modes ← times 16 block_mode
  chroma_mode ← ue_to 3
  pattern ← coded_block_pattern true
  r ← after_pattern c pattern
  give (with_residual c r (i_nxn modes chroma_mode r))

-- CodedBlockPatternLuma of an Intra 16x16 macroblock (Table 7-11); n is mb_type - 1
abbrev pub luma_pattern_of : (n : ℕ) → ℕ
luma_pattern_of n = elim (nat_le 12 n) [ true ↦ 15 | false ↦ 0 ]

-- an Intra 16x16 macroblock (7.3.5, Table 7-11); n is mb_type - 1
abbrev pub i_16x16_mb : Context → (n : ℕ) → Read Mb
i_16x16_mb c n = do
  chroma_mode ← ue_to 3
  delta ← qp_delta
  r ← residual c true (luma_pattern_of n) ((n / 4) % 3) delta
  give (with_residual c r (i_16x16 (n % 4) chroma_mode r))

-- an I_PCM macroblock, behind pcm_alignment_zero_bit: 256 luma samples, 64 Cb and 64 Cr samples
-- (7.3.5)
abbrev pub i_pcm_mb : Context → Read Mb
i_pcm_mb c = do
  align
  luma ← times 256 (u 8)
  cb ← times 64 (u 8)
  cr ← times 64 (u 8)
  give (record { syntax = i_pcm luma cb cr; qp = c.qp })

-- mb_type of an I slice (Table 7-11)
abbrev pub i_mb : Context → (mb_type : ℕ) → Read Mb
i_mb c zero = i_nxn_mb c
i_mb c (suc n) = elim (n == 24) [ true ↦ i_pcm_mb c | false ↦ i_16x16_mb c n ]

-- ---- P macroblocks

-- sub_mb_type of a P macroblock by its number (Table 7-17)
abbrev pub sub_mb_type : ℕ → SubMbType
sub_mb_type zero = Sub8x8
sub_mb_type (suc zero) = Sub8x4
sub_mb_type (suc (suc zero)) = Sub4x8
sub_mb_type (suc (suc (suc _))) = Sub4x4

-- sub_mb_type, 0 to 3 (7.3.5.2, Table 7-17)
abbrev pub sub_mb_type_code : Read SubMbType
sub_mb_type_code = ue_to 3 >>= λ t. give (sub_mb_type t)

-- those of the four quarters (7.3.5.2)
abbrev pub sub_mb_types : Read (List SubMbType)
sub_mb_types = times 4 sub_mb_type_code

-- mb_type 0 to 4 of a P slice, with the four of sub_mb_type in 3 and 4 (Table 7-13, 7.3.5.2)
abbrev pub p_mb_type : (mb_type : ℕ) → Read PMbType
p_mb_type zero = give P16x16
p_mb_type (suc zero) = give P16x8
p_mb_type (suc (suc zero)) = give P8x16
p_mb_type (suc (suc (suc zero))) = sub_mb_types >>= λ subs. give (P8x8 subs)
p_mb_type (suc (suc (suc (suc _)))) = sub_mb_types >>= λ subs. give (P8x8Ref0 subs)

-- ref_idx_l0 of each partition (7.3.5.1, 7.3.5.2); 0 where it is not coded (7.4.5.1, 7.4.5.2)
abbrev pub ref_idx_l0 : (num_ref_idx_active : ℕ) → PMbType → Read (List ℕ)
ref_idx_l0 num_ref_idx_active (P8x8Ref0 subs) = give (replicate 4 0)
ref_idx_l0 num_ref_idx_active s =
    elim (nat_le num_ref_idx_active 1) [
      | true ↦ give (replicate (partitions s) 0)
      | false ↦ times (partitions s) (te_to (num_ref_idx_active - 1))
    ]

-- mvd_l0 of a part, its horizontal and its vertical component (7.3.5.1, 7.3.5.2)
abbrev pub mvd_l0 : Read Mvd
mvd_l0 = do
  x ← se
  y ← se
  give (record { x = x; y = y })

-- a P macroblock, mb_type 0 to 4 (7.3.5)
abbrev pub p_mb : Context → (mb_type : ℕ) → Read Mb
p_mb c mb_type = do
  s ← p_mb_type mb_type
  ref_idx ← ref_idx_l0 c.num_ref_idx_active s
  mvd ← times (length (parts_of s)) mvd_l0
  pattern ← coded_block_pattern false
  r ← after_pattern c pattern
  give (with_residual c r (p_inter s ref_idx mvd r))

-- macroblock_layer: mb_type 5 to 30 of a P slice is that of an I slice plus 5 (7.3.5, Table 7-13)
abbrev pub macroblock : Context → Read Mb
macroblock c =
    elim c.is_p [
      | false ↦ (ue_to 25 >>= λ mb_type. i_mb c mb_type)
      | true ↦ (ue_to 30 >>= λ mb_type.
          elim (nat_lt mb_type 5) [ true ↦ p_mb c mb_type | false ↦ i_mb c (mb_type - 5) ])
    ]

-- Macroblocks as bits (7.3.5): their elements in the order of the syntax, and the ranges in which
-- they can be written.
use Rattle.std.specs.Prelude.{◌≡◌, ℕ, zero, suc, ◌+◌, ◌-◌, ◌*◌, ◌%◌, ◌<◌, ◌≤◌, ℤ, pos, negsuc}
use Rattle.std.specs.Prelude.{◌≤ℤ◌, Bool, true, false, not, ◌==◌, nat_le, List, [], ◌∷◌, ◌++◌}
use Rattle.std.specs.Prelude.{length, map, replicate, Option, Ok}
use Rattle.std.specs.List.{flat_map, range_with_len}
use Rattle.avc_types.specs.declared.macroblock.Mvd.{Mvd}
use Rattle.avc_types.specs.declared.macroblock.PMbType.{PMbType}
use Rattle.avc_types.specs.declared.macroblock.PMbType.TheVariants.{P16x16, P16x8, P8x16, P8x8}
use Rattle.avc_types.specs.declared.macroblock.PMbType.TheVariants.{P8x8Ref0}
use Rattle.avc_types.specs.Macroblock.{Residual, MbSyntax, p_skip, i_pcm, i_nxn, i_16x16, p_inter}
use Rattle.avc_types.specs.Macroblock.{total_coeff, parts_of, partitions}
use Rattle.avc_bits.specs.Bits.{byte_bits}
use Rattle.avc_vlc.specs.Tables.{cbp_intra, cbp_inter}
use Rattle.avc_neigh.specs.TotalCoeffs.{nc}
use Rattle.avc_mbsyntax.specs.declared.context.Context.{Context}
use Rattle.avc_mbsyntax.specs.Reading.{cb_side, cr_side, is_coded, luma_side, macroblock, qp_after}
use Rattle.avc_rbsp.specs.Words.{joined, se_word, te_word, ue_word}
use Rattle.avc_make_headers.specs.MbParts.{IsCodedMode, IsMvd, mode_bits, mvd_bits, sub_mb_number}
use Rattle.avc_make_headers.specs.VuiWriting.{Each}
use Rattle.avc_make.specs.BlockWriting.{IsWritable, block_bits}

-- ---- residual (7.3.5.3)

-- a block where it is coded
abbrev pub bits_where_coded : (max : ℕ) → (nc : ℤ) → (coded : Bool) → List ℤ → List Bool
bits_where_coded max nc true block = block_bits max nc block
bits_where_coded max nc false block = []

-- Further blocks of a component after those done, as they are read.
abbrev pub blocks_bits : (max size : ℕ) → (coded : ℕ → Bool) → (left up : Option (List ℕ)) →
    (numbers : List ℕ) → (done blocks : List (List ℤ)) → List Bool
blocks_bits max size coded left up (k ∷ numbers) done (block ∷ blocks) =
    bits_where_coded max (pos (nc size left up (map total_coeff done) k)) (coded k) block
    ++ blocks_bits max size coded left up numbers (done ++ block ∷ []) blocks
blocks_bits max size coded left up numbers done blocks = []

-- the DC levels of one chroma component, where CodedBlockPatternChroma is not 0 (7.3.5.3)
abbrev pub chroma_dc_bits : (chroma_pattern : ℕ) → List ℤ → List Bool
chroma_dc_bits zero levels = []
chroma_dc_bits (suc p) levels = block_bits 4 (negsuc 0) levels

-- Intra16x16DCLevel, in an Intra 16x16 macroblock alone (7.3.5.3.1)
abbrev pub luma_dc_bits : Context → (with_dc : Bool) → List ℤ → List Bool
luma_dc_bits c true levels =
    block_bits 16 (pos (nc 16 (luma_side c.left) (luma_side c.up) [] 0)) levels
luma_dc_bits c false levels = []

-- how many levels a luma block has: the DC levels of Intra 16x16 stand apart
abbrev pub luma_max : (with_dc : Bool) → ℕ
luma_max with_dc = elim with_dc [ true ↦ 15 | false ↦ 16 ]

-- the sixteen luma blocks, each where CodedBlockPatternLuma says so (7.3.5.3.1)
abbrev pub luma_words : Context → (max : ℕ) → (luma_pattern : ℕ) → List (List ℤ) → List Bool
luma_words c max luma_pattern luma =
    blocks_bits max 16 (is_coded luma_pattern) (luma_side c.left) (luma_side c.up)
    (range_with_len 0 16) [] luma

-- the AC blocks of a component
abbrev pub ac_words : (chroma_pattern : ℕ) → (left up : Option (List ℕ)) → List (List ℤ) → List Bool
ac_words chroma_pattern left up ac =
    blocks_bits 15 8 (λ k. chroma_pattern == 2) left up (range_with_len 0 4) [] ac

-- the blocks of Cb and Cr
abbrev pub chroma_words : Context → Residual → List Bool
chroma_words c r =
    joined (chroma_dc_bits r.chroma_pattern r.cb_dc ∷ chroma_dc_bits r.chroma_pattern r.cr_dc
    ∷ ac_words r.chroma_pattern (cb_side c.left) (cb_side c.up) r.cb_ac
    ∷ ac_words r.chroma_pattern (cr_side c.left) (cr_side c.up) r.cr_ac ∷ [])

-- what follows Intra16x16DCLevel
abbrev pub block_words : Context → (with_dc : Bool) → Residual → List Bool
block_words c with_dc r = luma_words c (luma_max with_dc) r.luma_pattern r.luma ++ chroma_words c r

-- residual( ): the luma DC levels, and then all other blocks (7.3.5.3)
abbrev pub residual_bits : Context → (with_dc : Bool) → Residual → List Bool
residual_bits c with_dc r = luma_dc_bits c with_dc r.luma_dc ++ block_words c with_dc r

-- a block of so many levels: they have codes where it is coded, and else are all 0
abbrev pub IsBlock : (max : ℕ) → (coded : Bool) → List ℤ → Type 0
IsBlock max true block = (length block ≡ max) × IsWritable block
IsBlock max false block = block ≡ replicate max (pos 0)

-- the blocks of these numbers: each can be written, and has no levels where it is not coded
abbrev pub AreBlocks : (max : ℕ) → (coded : ℕ → Bool) → (numbers : List ℕ) → List (List ℤ) → Type 0
AreBlocks max coded [] [] = Unit {0}
AreBlocks max coded (k ∷ numbers) (block ∷ blocks) =
    IsBlock max (coded k) block × AreBlocks max coded numbers blocks
AreBlocks max coded [] (block ∷ blocks) = ⊥
AreBlocks max coded (k ∷ numbers) [] = ⊥

-- the luma DC levels can be written; there are none but in Intra 16x16
abbrev pub IsLumaDc : (with_dc : Bool) → List ℤ → Type 0
IsLumaDc true levels = IsBlock 16 true levels
IsLumaDc false levels = levels ≡ []

-- levels of DC of a chroma component are coded for pattern 1 and 2
abbrev pub IsChromaDc : (chroma_pattern : ℕ) → List ℤ → Type 0
IsChromaDc zero levels = IsBlock 4 false levels
IsChromaDc (suc p) levels = IsBlock 4 true levels

-- a residual that can be written: patterns, mb_qp_delta and levels are in their ranges (7.4.5)
pub record IsResidual (with_dc : Bool) (r : Residual) : Type 0 where
  pub luma_pattern : r.luma_pattern ≤ 15
  pub chroma_pattern : r.chroma_pattern ≤ 2
  pub least : negsuc 25 ≤ℤ r.mb_qp_delta
  pub most : r.mb_qp_delta ≤ℤ pos 25
  pub luma_dc : IsLumaDc with_dc r.luma_dc
  pub luma : AreBlocks (luma_max with_dc) (is_coded r.luma_pattern) (range_with_len 0 16) r.luma
  pub cb_dc : IsChromaDc r.chroma_pattern r.cb_dc
  pub cr_dc : IsChromaDc r.chroma_pattern r.cr_dc
  pub cb_ac : AreBlocks 15 (λ k. r.chroma_pattern == 2) (range_with_len 0 4) r.cb_ac
  pub cr_ac : AreBlocks 15 (λ k. r.chroma_pattern == 2) (range_with_len 0 4) r.cr_ac

-- ---- coded_block_pattern (7.4.5, Table 9-4)

-- coded_block_pattern: CodedBlockPatternLuma + 16 * CodedBlockPatternChroma (7.4.5)
abbrev pub pattern_of : Residual → ℕ
pattern_of r = r.luma_pattern + 16 * r.chroma_pattern

-- the first place of a number in a list
abbrev pub place_of : ℕ → List ℕ → ℕ
place_of n [] = 0
place_of n (m ∷ others) = elim (n == m) [ true ↦ 0 | false ↦ suc (place_of n others) ]

-- codeNum of a pattern
abbrev pub pattern_number : (intra : Bool) → (pattern : ℕ) → ℕ
pattern_number true pattern = place_of pattern cbp_intra
pattern_number false pattern = place_of pattern cbp_inter

-- mb_qp_delta stands where a block is coded
abbrev pub qp_delta_bits : (pattern : ℕ) → ℤ → List Bool
qp_delta_bits zero delta = []
qp_delta_bits (suc p) delta = se_word delta

-- coded_block_pattern and what follows it
abbrev pub pattern_bits : Context → (intra : Bool) → Residual → List Bool
pattern_bits c intra r =
    joined (ue_word (pattern_number intra (pattern_of r)) ∷ qp_delta_bits (pattern_of r)
    r.mb_qp_delta ∷ residual_bits c false r ∷ [])

-- the residual of a macroblock with coded_block_pattern; where that is 0, mb_qp_delta is not coded
-- (7.3.5)
pub record IsPattern (r : Residual) : Type 0 where
  pub residual : IsResidual false r
  pub no_delta : pattern_of r ≡ 0 → r.mb_qp_delta ≡ pos 0

-- ---- I macroblocks

-- an I_NxN macroblock after mb_type: its modes, its pattern and its residual (7.3.5)
abbrev pub i_nxn_bits : Context → List (Option ℕ) → (chroma_mode : ℕ) → Residual → List Bool
i_nxn_bits c modes chroma_mode r =
    joined (flat_map mode_bits modes ∷ ue_word chroma_mode ∷ pattern_bits c true r ∷ [])

-- mb_type of Intra 16x16 (Table 7-11): 1 and on
abbrev pub type_16x16 : (mode : ℕ) → Residual → ℕ
type_16x16 mode r =
    suc (mode + 4 * r.chroma_pattern + elim (r.luma_pattern == 0) [ true ↦ 0 | false ↦ 12 ])

-- an Intra 16x16 macroblock after mb_type (7.3.5)
abbrev pub i_16x16_bits : Context → (chroma_mode : ℕ) → Residual → List Bool
i_16x16_bits c chroma_mode r =
    joined (ue_word chroma_mode ∷ se_word r.mb_qp_delta ∷ residual_bits c true r ∷ [])

-- pcm_alignment_zero_bit up to the next byte
abbrev pub zeros_to_byte : (position : ℕ) → List Bool
zeros_to_byte position = replicate ((8 - position % 8) % 8) false

-- an I_PCM macroblock after mb_type: zeros up to the next byte, and the samples (7.3.5)
abbrev pub i_pcm_bits : (position : ℕ) → (luma cb cr : List ℕ) → List Bool
i_pcm_bits position luma cb cr =
    joined (zeros_to_byte position ∷ byte_bits luma ∷ byte_bits cb ∷ byte_bits cr ∷ [])

-- so many samples of eight bits
pub record AreSamples (n : ℕ) (samples : List ℕ) : Type 0 where
  pub all : length samples ≡ n
  pub bytes : Each (λ v. v < 256) samples

-- ---- P macroblocks

-- sub_mb_type of each quarter, where there are quarters (7.3.5.2)
abbrev pub sub_mb_types_bits : PMbType → List Bool
sub_mb_types_bits (P8x8 subs) = flat_map (λ s. ue_word (sub_mb_number s)) subs
sub_mb_types_bits (P8x8Ref0 subs) = flat_map (λ s. ue_word (sub_mb_number s)) subs
sub_mb_types_bits P16x16 = []
sub_mb_types_bits P16x8 = []
sub_mb_types_bits P8x16 = []

-- mb_type (Table 7-13)
abbrev pub p_mb_number : PMbType → ℕ
p_mb_number P16x16 = 0
p_mb_number P16x8 = 1
p_mb_number P8x16 = 2
p_mb_number (P8x8 subs) = 3
p_mb_number (P8x8Ref0 subs) = 4

-- a macroblock of quarters has four
abbrev pub HasQuarters : PMbType → Type 0
HasQuarters (P8x8 subs) = length subs ≡ 4
HasQuarters (P8x8Ref0 subs) = length subs ≡ 4
HasQuarters P16x16 = Unit {0}
HasQuarters P16x8 = Unit {0}
HasQuarters P8x16 = Unit {0}

-- ref_idx_l0 is coded where there is more than one index
abbrev pub has_ref_idx : (num_ref_idx_active : ℕ) → PMbType → Bool
has_ref_idx num_ref_idx_active (P8x8Ref0 subs) = false
has_ref_idx num_ref_idx_active t = not (nat_le num_ref_idx_active 1)

-- ref_idx_l0 of each partition, where it is coded (7.3.5.1)
abbrev pub ref_idx_bits : (num_ref_idx_active : ℕ) → (coded : Bool) → List ℕ → List Bool
ref_idx_bits num_ref_idx_active true indices = flat_map (te_word (num_ref_idx_active - 1)) indices
ref_idx_bits num_ref_idx_active false indices = []

-- so many reference indices, each of an entry of the list
pub record AreIndices (num_ref_idx_active n : ℕ) (indices : List ℕ) : Type 0 where
  pub all : length indices ≡ n
  pub active : Each (λ i. (i ≤ num_ref_idx_active - 1) × (i < 4294967295)) indices

-- the reference indices can be written; where they are not coded they are 0 (7.4.5.1)
abbrev pub IsRefIdx : (num_ref_idx_active n : ℕ) → (coded : Bool) → List ℕ → Type 0
IsRefIdx num_ref_idx_active n true indices = AreIndices num_ref_idx_active n indices
IsRefIdx num_ref_idx_active n false indices = indices ≡ replicate n 0

-- an inter macroblock after mb_type (7.3.5.1, 7.3.5.2)
abbrev pub p_inter_bits : Context → PMbType → (ref_idx : List ℕ) → (mvd : List Mvd) → Residual →
    List Bool
p_inter_bits c t ref_idx mvd r =
    joined (sub_mb_types_bits t ∷ ref_idx_bits c.num_ref_idx_active
    (has_ref_idx c.num_ref_idx_active t) ref_idx ∷ flat_map mvd_bits mvd ∷ pattern_bits c
    false r ∷ [])

-- ---- macroblock_layer

-- mb_type (Tables 7-11 and 7-13): in a P slice five types stand before those of I slices
abbrev pub i_type : (is_p : Bool) → ℕ → ℕ
i_type true n = 5 + n
i_type false n = n

-- mb_type and what follows it, after so many bits; nothing of a skipped macroblock
abbrev pub mb_bits : Context → (position : ℕ) → MbSyntax → List Bool
mb_bits c position p_skip = []
mb_bits c position (i_pcm luma cb cr) =
    ue_word (i_type c.is_p 25)
    ++ i_pcm_bits (position + length (ue_word (i_type c.is_p 25))) luma cb cr
mb_bits c position (i_nxn modes chroma_mode r) =
    ue_word (i_type c.is_p 0) ++ i_nxn_bits c modes chroma_mode r
mb_bits c position (i_16x16 mode chroma_mode r) =
    ue_word (i_type c.is_p (type_16x16 mode r)) ++ i_16x16_bits c chroma_mode r
mb_bits c position (p_inter t ref_idx mvd r) =
    ue_word (p_mb_number t) ++ p_inter_bits c t ref_idx mvd r

-- an I_NxN macroblock that can be written
pub record IsINxN (modes : List (Option ℕ)) (chroma_mode : ℕ) (r : Residual) : Type 0 where
  pub all : length modes ≡ 16
  pub modes_fit : Each IsCodedMode modes
  pub chroma : chroma_mode ≤ 3
  pub pattern : IsPattern r

-- an Intra 16x16 macroblock that can be written: its luma AC levels are coded all or not at all
pub record IsI16x16 (mode chroma_mode : ℕ) (r : Residual) : Type 0 where
  pub mode_fits : mode ≤ 3
  pub chroma : chroma_mode ≤ 3
  pub luma_pattern : r.luma_pattern ≡ elim (r.luma_pattern == 0) [ true ↦ 0 | false ↦ 15 ]
  pub residual : IsResidual true r

-- an I_PCM macroblock that can be written
pub record IsIPcm (luma cb cr : List ℕ) : Type 0 where
  pub luma_samples : AreSamples 256 luma
  pub cb_samples : AreSamples 64 cb
  pub cr_samples : AreSamples 64 cr

-- an inter macroblock that can be written: an index for each partition and a vector for each part,
-- in a P slice
pub record IsPInter (c : Context) (t : PMbType) (indices : List ℕ) (mvds : List Mvd)
    (r : Residual) : Type 0 where
  pub in_p : c.is_p ≡ true
  pub quarters : HasQuarters t
  pub ref_idx : IsRefIdx c.num_ref_idx_active (partitions t) (has_ref_idx c.num_ref_idx_active t)
      indices
  pub all : length mvds ≡ length (parts_of t)
  pub mvd : Each IsMvd mvds
  pub pattern : IsPattern r

-- The elements of a macroblock that is not skipped are in their ranges.
abbrev pub HasRanges : Context → MbSyntax → Type 0
HasRanges c p_skip = ⊥
HasRanges c (i_pcm luma cb cr) = IsIPcm luma cb cr
HasRanges c (i_nxn modes chroma_mode r) = IsINxN modes chroma_mode r
HasRanges c (i_16x16 mode chroma_mode r) = IsI16x16 mode chroma_mode r
HasRanges c (p_inter t ref_idx mvd r) = IsPInter c t ref_idx mvd r

-- QP_Y after a macroblock (7.4.5)
abbrev pub qp_of : (previous : ℕ) → MbSyntax → ℕ
qp_of previous p_skip = previous
qp_of previous (i_pcm luma cb cr) = previous
qp_of previous (i_nxn modes chroma_mode r) = qp_after previous r.mb_qp_delta
qp_of previous (i_16x16 mode chroma_mode r) = qp_after previous r.mb_qp_delta
qp_of previous (p_inter t ref_idx mvd r) = qp_after previous r.mb_qp_delta

-- The bits of a macroblock whose elements are in their ranges are read as it is, whatever comes
-- after it.
abbrev pub MbIsRead : Type 0
MbIsRead =
    (c : Context) (position : ℕ) (rest : List Bool) (syntax : MbSyntax) → HasRanges c syntax →
    macroblock c (record { position = position; ahead = mb_bits c position syntax ++ rest })
    ≡ Ok (
      record { syntax = syntax; qp = qp_of c.qp syntax },
      record { position = position + length (mb_bits c position syntax); ahead = rest },
    )

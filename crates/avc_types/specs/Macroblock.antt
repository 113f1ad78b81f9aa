-- One macroblock as the syntax gives it (7.3.5, 7.4.5).
use Rattle.std.specs.Prelude.{ℕ, ℤ, List, [], ◌∷◌, ◌++◌, ◌+◌, ◌*◌, ◌/◌, ◌%◌, ◌==◌, nat_abs, not}
use Rattle.std.specs.Prelude.{Option}
use Rattle.std.specs.List.{count_by}
use Rattle.avc_types.specs.declared.macroblock.Mvd.{Mvd}
use Rattle.avc_types.specs.declared.macroblock.Part.{Part}
use Rattle.avc_types.specs.declared.macroblock.SubMbType.{SubMbType}
use Rattle.avc_types.specs.declared.macroblock.SubMbType.TheVariants.{Sub8x8, Sub8x4, Sub4x8}
use Rattle.avc_types.specs.declared.macroblock.SubMbType.TheVariants.{Sub4x4}
use Rattle.avc_types.specs.declared.macroblock.PMbType.{PMbType}
use Rattle.avc_types.specs.declared.macroblock.PMbType.TheVariants.{P16x16, P16x8, P8x16, P8x8}
use Rattle.avc_types.specs.declared.macroblock.PMbType.TheVariants.{P8x8Ref0}

-- The coded differences of one macroblock (7.3.5.3). Where a block is not coded its levels are all
-- 0.
pub record Residual : Type 0 where
  -- CodedBlockPatternLuma, 0 to 15, and CodedBlockPatternChroma, 0 to 2
  pub luma_pattern : ℕ
  pub chroma_pattern : ℕ
  -- 0 where it is not coded
  pub mb_qp_delta : ℤ
  -- the 16 levels of Intra16x16DCLevel, in Intra 16x16 only; else no level
  pub luma_dc : List ℤ
  -- for each of the 16 luma blocks, in block order: 16 levels, in Intra 16x16 the last 15
  pub luma : List (List ℤ)
  -- four levels each
  pub cb_dc : List ℤ
  pub cr_dc : List ℤ
  -- for each of the four blocks of the component: 15 levels
  pub cb_ac : List (List ℤ)
  pub cr_ac : List (List ℤ)

-- total_coeff of a block (9.2.1): how many of its levels are not 0
abbrev pub total_coeff : List ℤ → ℕ
total_coeff levels = count_by (λ l. not (nat_abs l == 0)) levels

-- What stands in the bits of one macroblock, by its mb_type (7.3.5, Tables 7-11 and 7-13).
pub data MbSyntax : Type 0 where
  -- inferred in a P slice by mb_skip_run
  p_skip : MbSyntax
  -- 256 luma, 64 Cb and 64 Cr samples, row by row
  i_pcm : (luma cb cr : List ℕ) → MbSyntax
  -- For each of the 16 luma blocks: no number where prev_intra4x4_pred_mode_flag is 1, else
  -- rem_intra4x4_pred_mode. Then intra_chroma_pred_mode.
  i_nxn : (modes : List (Option ℕ)) → (chroma_mode : ℕ) → Residual → MbSyntax
  -- Intra16x16PredMode and intra_chroma_pred_mode
  i_16x16 : (mode chroma_mode : ℕ) → Residual → MbSyntax
  -- ref_idx_l0 for each partition, and mvd_l0 for each sub-macroblock partition, in decoding order
  p_inter : PMbType → (ref_idx : List ℕ) → (mvd : List Mvd) → Residual → MbSyntax

-- A macroblock with its luma quantiser QP_Y (of I_PCM and of a skipped one: that which it passes
-- on, 7.4.5).
pub record Mb : Type 0 where
  pub syntax : MbSyntax
  pub qp : ℕ

-- a part of a macroblock at (x, y), of this size, in the macroblock partition with this number
-- (6.4.2)
abbrev pub part : ℕ → ℕ → ℕ → ℕ → ℕ → Part
part x y width height partition =
    record { x = x; y = y; width = width; height = height; partition = partition }

-- The column of the upper left sample of an 8x8 quarter of a macroblock (6.4.5).
abbrev pub quarter_x : ℕ → ℕ
quarter_x q = 8 * (q % 2)

-- the row of that sample (6.4.5)
abbrev pub quarter_y : ℕ → ℕ
quarter_y q = 8 * (q / 2)

-- the sub-macroblock partitions of the quarter q at (x, y) (6.4.2.2, Table 7-17)
abbrev pub parts_of_quarter : SubMbType → ℕ → ℕ → ℕ → List Part
parts_of_quarter Sub8x8 x y q = part x y 8 8 q ∷ []
parts_of_quarter Sub8x4 x y q = part x y 8 4 q ∷ part x (y + 4) 8 4 q ∷ []
parts_of_quarter Sub4x8 x y q = part x y 4 8 q ∷ part (x + 4) y 4 8 q ∷ []
parts_of_quarter Sub4x4 x y q =
    part x y 4 4 q ∷ part (x + 4) y 4 4 q ∷ part x (y + 4) 4 4 q ∷ part (x + 4) (y + 4) 4 4 q ∷ []

-- those of the quarters from q on, one after another (6.4.2.2)
abbrev pub parts_of_quarters : List SubMbType → ℕ → List Part
parts_of_quarters [] q = []
parts_of_quarters (s ∷ subs) q =
    parts_of_quarter s (quarter_x q) (quarter_y q) q ++ parts_of_quarters subs (q + 1)

-- The parts of a macroblock in decoding order: one for each element of `mvd` (6.4.2, Tables 7-13
-- and 7-17).
abbrev pub parts_of : PMbType → List Part
parts_of P16x16 = part 0 0 16 16 0 ∷ []
parts_of P16x8 = part 0 0 16 8 0 ∷ part 0 8 16 8 1 ∷ []
parts_of P8x16 = part 0 0 8 16 0 ∷ part 8 0 8 16 1 ∷ []
parts_of (P8x8 subs) = parts_of_quarters subs 0
parts_of (P8x8Ref0 subs) = parts_of_quarters subs 0

-- how many partitions a macroblock has, each with a reference index (Table 7-13)
abbrev pub partitions : PMbType → ℕ
partitions P16x16 = 1
partitions P16x8 = 2
partitions P8x16 = 2
partitions (P8x8 subs) = 4
partitions (P8x8Ref0 subs) = 4

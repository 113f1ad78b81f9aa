-- The syntax elements of a macroblock, in words.
use Rattle.std.specs.Prelude.{ℕ, ◌+◌, ◌*◌, ℤ, List, [], ◌∷◌, ◌++◌, Option, Some, None, codes}
use Rattle.std.specs.Fmt.{signed_decimal}
use Rattle.std.specs.List.{flat_map}
use Rattle.avc_types.specs.declared.macroblock.Mvd.{Mvd}
use Rattle.avc_types.specs.declared.macroblock.PMbType.{PMbType}
use Rattle.avc_types.specs.declared.macroblock.PMbType.TheVariants.{P16x16, P16x8, P8x16, P8x8}
use Rattle.avc_types.specs.declared.macroblock.PMbType.TheVariants.{P8x8Ref0}
use Rattle.avc_types.specs.declared.macroblock.SubMbType.{SubMbType}
use Rattle.avc_types.specs.Macroblock.{total_coeff, Residual, MbSyntax, p_skip, i_pcm, i_nxn}
use Rattle.avc_types.specs.Macroblock.{i_16x16, p_inter}
use Rattle.avc_neigh.specs.declared.neighbour_info.Motion.{Motion}
use Rattle.avc_neigh.specs.declared.neighbour_info.NearMode.{NearMode}
use Rattle.avc_neigh.specs.declared.neighbour_info.NearMode.TheVariants.{Absent as no_mode}
use Rattle.avc_neigh.specs.declared.neighbour_info.NearMode.TheVariants.{Inter as inter_mode}
use Rattle.avc_neigh.specs.declared.neighbour_info.NearMode.TheVariants.{Mode as mode_is}
use Rattle.avc_tools.specs.Lines.{and_number}
use Rattle.avc_selection.specs.Words.{vectors_text}
use Rattle.avc_elements.specs.Levels.{up_to_last}
use Rattle.avc_elements.specs.Names.{sub_name}
use Rattle.avc_elements.specs.declared.block_facts.BlockFacts.{BlockFacts}
use Rattle.avc_elements.specs.declared.block_facts.BlockFacts.TheVariants.{TotalCoeff, CoeffLevel}

-- a hyphen where prev_intra4x4_pred_mode_flag is 1, else rem_intra4x4_pred_mode (7.3.5.1)
abbrev pub and_mode : Option ℕ → List ℕ
and_mode None = codes " -"
and_mode (Some rem) = and_number rem

-- of each of the sixteen blocks
abbrev pub modes_text : List (Option ℕ) → List ℕ
modes_text modes = codes " modes" ++ flat_map and_mode modes

-- Intra4x4PredMode of a block (8.3.1.1)
abbrev pub and_derived_mode : NearMode → List ℕ
and_derived_mode (mode_is m) = and_number m
and_derived_mode no_mode = codes " -"
and_derived_mode inter_mode = codes " -"

-- of each of the sixteen blocks
abbrev pub derived_modes_text : List NearMode → List ℕ
derived_modes_text modes = codes " intra4x4" ++ flat_map and_derived_mode modes

-- intra_chroma_pred_mode
abbrev pub chroma_text : ℕ → List ℕ
chroma_text chroma_mode = codes " chroma" ++ and_number chroma_mode

-- a sub_mb_type behind a space
abbrev pub and_sub : SubMbType → List ℕ
and_sub s = codes " " ++ sub_name s

-- those of the four quarters, where the macroblock has them (7.3.5.2)
abbrev pub subs_text : PMbType → List ℕ
subs_text P16x16 = []
subs_text P16x8 = []
subs_text P8x16 = []
subs_text (P8x8 subs) = codes " sub" ++ flat_map and_sub subs
subs_text (P8x8Ref0 subs) = codes " sub" ++ flat_map and_sub subs

-- ref_idx_l0 of each partition
abbrev pub ref_idx_text : List ℕ → List ℕ
ref_idx_text ref_idx = codes " ref" ++ flat_map and_number ref_idx

-- mvd_l0 of a part: its horizontal and its vertical component
abbrev pub and_mvd : Mvd → List ℕ
and_mvd m = codes " " ++ signed_decimal m.x ++ codes "," ++ signed_decimal m.y

-- of each part
abbrev pub mvd_text : List Mvd → List ℕ
mvd_text mvd = codes " mvd" ++ flat_map and_mvd mvd

-- ---- residual

-- coded_block_pattern (7.4.5)
abbrev pub pattern_of : Residual → ℕ
pattern_of r = r.luma_pattern + 16 * r.chroma_pattern

-- as it is told
abbrev pub pattern_text : Residual → List ℕ
pattern_text r = codes " cbp" ++ and_number (pattern_of r)

-- a level behind others
abbrev pub level_behind : ℤ → List ℕ
level_behind level = codes "," ++ signed_decimal level

-- levels with commas between them, or a hyphen where there is none
abbrev pub levels_text : List ℤ → List ℕ
levels_text [] = codes " -"
levels_text (level ∷ levels) = codes " " ++ signed_decimal level ++ flat_map level_behind levels

-- total_coeff of a block (9.2.1), or coeffLevel up to the last that is not 0 (7.3.5.3.2)
abbrev pub and_block : BlockFacts → List ℤ → List ℕ
and_block TotalCoeff levels = and_number (total_coeff levels)
and_block CoeffLevel levels = levels_text (up_to_last levels)

-- of the luma blocks, of those of Cb and of those of Cr
abbrev pub blocks_text : BlockFacts → Residual → List ℕ
blocks_text facts r =
    codes " luma" ++ flat_map (and_block facts) r.luma
    ++ codes " cb" ++ flat_map (and_block facts) r.cb_ac
    ++ codes " cr" ++ flat_map (and_block facts) r.cr_ac

-- of the DC levels of Cb and of Cr
abbrev pub chroma_dc_text : BlockFacts → Residual → List ℕ
chroma_dc_text facts r =
    codes " cbdc" ++ and_block facts r.cb_dc ++ codes " crdc" ++ and_block facts r.cr_dc

-- of the levels of Intra16x16DCLevel
abbrev pub luma_dc_text : BlockFacts → List ℤ → List ℕ
luma_dc_text facts levels = codes " dc" ++ and_block facts levels

-- what is told of a residual
abbrev pub residual_text : Residual → List ℕ
residual_text r = pattern_text r ++ blocks_text TotalCoeff r ++ chroma_dc_text TotalCoeff r

-- ---- a macroblock

-- what is told beside mb_type and QP_Y
abbrev pub elements_text : MbSyntax → (modes : List NearMode) → (vectors : List Motion) → List ℕ
elements_text p_skip derived vectors = vectors_text vectors
elements_text (i_pcm luma cb cr) derived vectors = []
elements_text (i_nxn modes chroma_mode r) derived vectors =
    modes_text modes ++ derived_modes_text derived ++ chroma_text chroma_mode ++ residual_text r
elements_text (i_16x16 mode chroma_mode r) derived vectors =
    chroma_text chroma_mode ++ luma_dc_text TotalCoeff r.luma_dc ++ residual_text r
elements_text (p_inter mb_type ref_idx mvd r) derived vectors =
    subs_text mb_type ++ ref_idx_text ref_idx ++ mvd_text mvd ++ vectors_text vectors
    ++ residual_text r

-- the levels of all blocks
abbrev pub coefficients_text : MbSyntax → List ℕ
coefficients_text p_skip = []
coefficients_text (i_pcm luma cb cr) = []
coefficients_text (i_nxn modes chroma_mode r) =
    codes " levels" ++ blocks_text CoeffLevel r ++ chroma_dc_text CoeffLevel r
coefficients_text (i_16x16 mode chroma_mode r) =
    codes " levels" ++ luma_dc_text CoeffLevel r.luma_dc ++ blocks_text CoeffLevel r
    ++ chroma_dc_text CoeffLevel r
coefficients_text (p_inter mb_type ref_idx mvd r) =
    codes " levels" ++ blocks_text CoeffLevel r ++ chroma_dc_text CoeffLevel r

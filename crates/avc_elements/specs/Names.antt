-- Names of macroblock types.
use Rattle.std.specs.Prelude.{ℕ, List, ◌++◌, codes}
use Rattle.std.specs.Fmt.{decimal}
use Rattle.avc_types.specs.declared.macroblock.PMbType.{PMbType}
use Rattle.avc_types.specs.declared.macroblock.PMbType.TheVariants.{P16x16, P16x8, P8x16, P8x8}
use Rattle.avc_types.specs.declared.macroblock.PMbType.TheVariants.{P8x8Ref0}
use Rattle.avc_types.specs.declared.macroblock.SubMbType.{SubMbType}
use Rattle.avc_types.specs.declared.macroblock.SubMbType.TheVariants.{Sub8x8, Sub8x4, Sub4x8}
use Rattle.avc_types.specs.declared.macroblock.SubMbType.TheVariants.{Sub4x4}
use Rattle.avc_types.specs.Macroblock.{Residual, MbSyntax, p_skip, i_pcm, i_nxn, i_16x16, p_inter}

-- the name of mb_type of an Intra 16x16 macroblock: Intra16x16PredMode, CodedBlockPatternChroma and
-- CodedBlockPatternLuma stand in it (Table 7-11)
abbrev pub i_16x16_name : (mode : ℕ) → Residual → List ℕ
i_16x16_name mode r =
    codes "I_16x16_" ++ decimal mode ++ codes "_" ++ decimal r.chroma_pattern ++ codes "_"
    ++ decimal r.luma_pattern

-- the name of mb_type 0 to 4 of a P macroblock (Table 7-13)
abbrev pub p_name : PMbType → List ℕ
p_name P16x16 = codes "P_L0_16x16"
p_name P16x8 = codes "P_L0_L0_16x8"
p_name P8x16 = codes "P_L0_L0_8x16"
p_name (P8x8 subs) = codes "P_8x8"
p_name (P8x8Ref0 subs) = codes "P_8x8ref0"

-- the name of mb_type (Tables 7-11 and 7-13)
abbrev pub type_name : MbSyntax → List ℕ
type_name p_skip = codes "P_Skip"
type_name (i_pcm luma cb cr) = codes "I_PCM"
type_name (i_nxn modes chroma_mode r) = codes "I_NxN"
type_name (i_16x16 mode chroma_mode r) = i_16x16_name mode r
type_name (p_inter mb_type ref_idx mvd r) = p_name mb_type

-- the name of sub_mb_type (Table 7-17)
abbrev pub sub_name : SubMbType → List ℕ
sub_name Sub8x8 = codes "P_L0_8x8"
sub_name Sub8x4 = codes "P_L0_8x4"
sub_name Sub4x8 = codes "P_L0_4x8"
sub_name Sub4x4 = codes "P_L0_4x4"

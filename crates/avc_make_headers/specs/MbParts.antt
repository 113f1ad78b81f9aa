-- Parts of macroblocks as bits (7.3.5.1, 7.3.5.2): modes, types of quarters and differences of
-- vectors, and when they can be written.
use Rattle.std.specs.Prelude.{ℕ, ◌<◌, ℤ, pos, neg_ℤ, ◌<ℤ◌, Bool, true, false, List, [], ◌∷◌, ◌++◌}
use Rattle.std.specs.Prelude.{Option, Some, None}
use Rattle.avc_types.specs.declared.macroblock.Mvd.{Mvd}
use Rattle.avc_types.specs.declared.macroblock.SubMbType.{SubMbType}
use Rattle.avc_types.specs.declared.macroblock.SubMbType.TheVariants.{Sub8x8, Sub8x4, Sub4x8}
use Rattle.avc_types.specs.declared.macroblock.SubMbType.TheVariants.{Sub4x4}
use Rattle.avc_bits.specs.Bits.{bits_of}
use Rattle.avc_rbsp.specs.Words.{se_word}

-- prev_intra4x4_pred_mode_flag, and rem_intra4x4_pred_mode where it is 0
abbrev pub mode_bits : Option ℕ → List Bool
mode_bits None = true ∷ []
mode_bits (Some rem) = false ∷ bits_of 3 rem

-- rem_intra4x4_pred_mode, where it is coded, is 0 to 7 (7.4.5.1)
abbrev pub IsCodedMode : Option ℕ → Type 0
IsCodedMode None = Unit {0}
IsCodedMode (Some rem) = rem < 8

-- sub_mb_type (Table 7-17)
abbrev pub sub_mb_number : SubMbType → ℕ
sub_mb_number Sub8x8 = 0
sub_mb_number Sub8x4 = 1
sub_mb_number Sub4x8 = 2
sub_mb_number Sub4x4 = 3

-- mvd_l0: the horizontal component, then the vertical one (7.3.5.1)
abbrev pub mvd_bits : Mvd → List Bool
mvd_bits d = se_word d.x ++ se_word d.y

-- what se(v) can have (9.1.1)
abbrev IsSe32 : ℤ → Type 0
IsSe32 v = (neg_ℤ (pos 2147483648) <ℤ v) × (v <ℤ pos 2147483648)

-- both components can be written
abbrev pub IsMvd : Mvd → Type 0
IsMvd d = IsSe32 d.x × IsSe32 d.y

-- Sequence parameter sets as bits (7.3.2.1.1): the elements in their order, and the ranges in which
-- they can be written.
use Rattle.std.specs.Prelude.{◌≡◌, ℕ, ◌*◌, ◌<◌, ◌≤◌, ◌==◌, ◌||◌, ℤ, pos, neg_ℤ, ◌<ℤ◌, Bool, true}
use Rattle.std.specs.Prelude.{List, [], ◌∷◌, length, IfSome, IsSome}
use Rattle.std.specs.List.{flat_map}
use Rattle.avc_bits.specs.Bits.{bits_of}
use Rattle.avc_rbsp.specs.Words.{joined, se_word, ue_word}
use Rattle.avc_make_headers.specs.VuiWriting.{Each, IsVui, flag_bits, optional_bits, vui_bits}
use Rattle.avc_params.specs.Limits.{height_in_mbs, max_dpb_mbs, width_in_mbs}
use Rattle.avc_params.specs.Within.{IsCropping, IsOrderCount}
use Rattle.avc_params.specs.declared.sps.ConstraintFlags.{ConstraintFlags}
use Rattle.avc_params.specs.declared.sps.Cropping.{Cropping}
use Rattle.avc_params.specs.declared.sps.OrderCount.{OrderCount}
use Rattle.avc_params.specs.declared.sps.OrderCount.TheVariants as orders
use Rattle.avc_params.specs.declared.sps.Sps.{Sps}

-- constraint_set0_flag to constraint_set5_flag
abbrev pub constraint_bits : ConstraintFlags → List Bool
constraint_bits c =
    c.constraint_set0_flag ∷ c.constraint_set1_flag ∷ c.constraint_set2_flag ∷
    c.constraint_set3_flag ∷ c.constraint_set4_flag ∷ c.constraint_set5_flag ∷ []

-- what a set begins with, up to its id
abbrev pub identity_bits : Sps → List Bool
identity_bits sps =
    joined (bits_of 8 sps.profile_idc ∷ constraint_bits sps.constraint_flags ∷ bits_of 2
    sps.reserved_zero_2bits ∷ bits_of 8 sps.level_idc ∷ ue_word sps.seq_parameter_set_id ∷
    [])

-- pic_order_cnt_type and what it brings with it
abbrev pub order_bits : OrderCount → List Bool
order_bits (orders.Type0 log2_max_pic_order_cnt_lsb_minus4) =
    joined (ue_word 0 ∷ ue_word log2_max_pic_order_cnt_lsb_minus4 ∷ [])
order_bits (orders.Type1 always_zero non_ref top_to_bottom offsets) =
    joined (ue_word 1 ∷ flag_bits always_zero ∷ se_word non_ref ∷ se_word top_to_bottom ∷ ue_word
    (length offsets) ∷ flat_map se_word offsets ∷ [])
order_bits orders.Type2 = ue_word 2

-- the values of se(v)
abbrev pub IsSeValue : ℤ → Type 0
IsSeValue v = (neg_ℤ (pos 2147483648) <ℤ v) × (v <ℤ pos 2147483648)

-- the offsets of pic_order_cnt_type 1 have codewords
abbrev pub HasSeValues : OrderCount → Type 0
HasSeValues (orders.Type0 log2_max_pic_order_cnt_lsb_minus4) = Unit {0}
HasSeValues (orders.Type1 always_zero non_ref top_to_bottom offsets) =
    IsSeValue non_ref × IsSeValue top_to_bottom × Each IsSeValue offsets
HasSeValues orders.Type2 = Unit {0}

-- the four offsets of frame cropping
abbrev pub cropping_bits : Cropping → List Bool
cropping_bits c =
    joined (ue_word c.frame_crop_left_offset ∷ ue_word c.frame_crop_right_offset ∷ ue_word
    c.frame_crop_top_offset ∷ ue_word c.frame_crop_bottom_offset ∷ [])

-- width and height in macroblocks, each less one
abbrev pub size_bits : Sps → List Bool
size_bits sps =
    joined (ue_word sps.pic_width_in_mbs_minus1 ∷ ue_word sps.pic_height_in_map_units_minus1 ∷ [])

-- With frame_mbs_only_flag 1.
abbrev pub sps_bits : Sps → List Bool
sps_bits sps =
    joined (identity_bits sps ∷ ue_word sps.log2_max_frame_num_minus4 ∷ order_bits sps.order_count ∷
    ue_word sps.max_num_ref_frames ∷ flag_bits sps.gaps_in_frame_num_value_allowed_flag
    ∷ size_bits sps ∷ flag_bits true ∷ flag_bits sps.direct_8x8_inference_flag
    ∷ optional_bits cropping_bits sps.frame_cropping ∷ optional_bits vui_bits sps.vui ∷ [])

-- the greatest width and height that can be written, in macroblocks
abbrev pub max_written_side : ℕ
max_written_side = 4096

-- A set that can be written: each field within its code and its range. Its size may be one that no
-- set is read with.
pub record IsWritable (sps : Sps) : Type 0 where
  pub profile : (sps.profile_idc == 66 || sps.profile_idc == 77 || sps.profile_idc == 88) ≡ true
  pub profile_fits : sps.profile_idc < 256
  pub reserved : sps.reserved_zero_2bits < 4
  pub level : IsSome (max_dpb_mbs sps.level_idc sps.constraint_flags.constraint_set3_flag)
  pub level_fits : sps.level_idc < 256
  pub id : sps.seq_parameter_set_id ≤ 31
  pub frame_num : sps.log2_max_frame_num_minus4 ≤ 12
  pub order : IsOrderCount sps.order_count
  pub order_values : HasSeValues sps.order_count
  pub references : sps.max_num_ref_frames ≤ 16
  pub width : width_in_mbs sps ≤ max_written_side
  pub height : height_in_mbs sps ≤ max_written_side
  pub crop : IfSome sps.frame_cropping (IsCropping (16 * width_in_mbs sps) (16 * height_in_mbs sps))
  pub usability : IfSome sps.vui IsVui

-- What each accepted parameter set keeps to.
use Rattle.std.specs.Prelude.{◌≡◌, ℕ, ◌+◌, ◌*◌, ◌<◌, ◌≤◌, pos, negsuc, ◌≤ℤ◌, List, length, Some}
use Rattle.std.specs.Prelude.{IfSome, IsSome, Ok}
use Rattle.avc_params.specs.Limits.{max_dpb_mbs, max_macroblocks, max_side, width_in_mbs}
use Rattle.avc_params.specs.Limits.{height_in_mbs, size_in_mbs}
use Rattle.avc_params.specs.Reading.{pps_of, sps_of}
use Rattle.avc_params.specs.Tables.{pps_in_force, sps_in_force}
use Rattle.avc_params.specs.declared.pps.Pps.{Pps}
use Rattle.avc_params.specs.declared.set_unit.SetUnit.{SetUnit}
use Rattle.avc_params.specs.declared.sps.Cropping.{Cropping}
use Rattle.avc_params.specs.declared.sps.OrderCount.{OrderCount}
use Rattle.avc_params.specs.declared.sps.OrderCount.TheVariants as orders
use Rattle.avc_params.specs.declared.sps.Sps.{Sps}

-- log2_max_pic_order_cnt_lsb_minus4 is at most 12, and a cycle has at most 255 frames (7.4.2.1.1)
abbrev pub IsOrderCount : OrderCount → Type 0
IsOrderCount (orders.Type0 log2_max_pic_order_cnt_lsb_minus4) =
    log2_max_pic_order_cnt_lsb_minus4 ≤ 12
IsOrderCount (orders.Type1 always_zero non_ref top_to_bottom offset_for_ref_frame) =
    length offset_for_ref_frame ≤ 255
IsOrderCount orders.Type2 = Unit {0}

-- Of a picture of this size in luma samples some samples are left.
pub record IsCropping (width height : ℕ) (c : Cropping) : Type 0 where
  pub columns : 2 * (c.frame_crop_left_offset + c.frame_crop_right_offset) < width
  pub rows : 2 * (c.frame_crop_top_offset + c.frame_crop_bottom_offset) < height

-- A sequence parameter set whose elements are in their ranges (7.4.2.1.1), and whose size is within
-- this decoder's limits (A.3.1).
pub record IsSps (sps : Sps) : Type 0 where
  pub level : IsSome (max_dpb_mbs sps.level_idc sps.constraint_flags.constraint_set3_flag)
  pub id : sps.seq_parameter_set_id ≤ 31
  pub frame_num : sps.log2_max_frame_num_minus4 ≤ 12
  pub order : IsOrderCount sps.order_count
  pub references : sps.max_num_ref_frames ≤ 16
  pub width : width_in_mbs sps ≤ max_side
  pub height : height_in_mbs sps ≤ max_side
  pub size : size_in_mbs sps ≤ max_macroblocks
  pub crop : IfSome sps.frame_cropping (IsCropping (16 * width_in_mbs sps) (16 * height_in_mbs sps))

-- A picture parameter set whose elements are in their ranges (7.4.2.2).
pub record IsPps (pps : Pps) : Type 0 where
  pub id : pps.pic_parameter_set_id ≤ 255
  pub sps_id : pps.seq_parameter_set_id ≤ 31
  pub l0 : pps.num_ref_idx_l0_default_active_minus1 ≤ 31
  pub l1 : pps.num_ref_idx_l1_default_active_minus1 ≤ 31
  pub weighted : pps.weighted_bipred_idc ≤ 2
  pub qp_low : negsuc 25 ≤ℤ pps.pic_init_qp_minus26
  pub qp_high : pps.pic_init_qp_minus26 ≤ℤ pos 25
  pub qs_low : negsuc 25 ≤ℤ pps.pic_init_qs_minus26
  pub qs_high : pps.pic_init_qs_minus26 ≤ℤ pos 25
  pub chroma_low : negsuc 11 ≤ℤ pps.chroma_qp_index_offset
  pub chroma_high : pps.chroma_qp_index_offset ≤ℤ pos 12

-- A set in force is within these limits, and has the id under which it is in force.
pub record SpsIsInForce (id : ℕ) (sps : Sps) : Type 0 where
  pub within : IsSps sps
  pub id_is : sps.seq_parameter_set_id ≡ id

-- The set in force under an id is of that id, and in its ranges.
pub record PpsIsInForce (id : ℕ) (pps : Pps) : Type 0 where
  pub within : IsPps pps
  pub id_is : pps.pic_parameter_set_id ≡ id

-- Each sequence parameter set that is read keeps them.
abbrev pub SpsKeepsLimits : Type 0
SpsKeepsLimits = (rbsp : List ℕ) (sps : Sps) → sps_of rbsp ≡ Ok sps → IsSps sps

-- So does each picture parameter set,
abbrev pub PpsKeepsLimits : Type 0
PpsKeepsLimits = (rbsp : List ℕ) (pps : Pps) → pps_of rbsp ≡ Ok pps → IsPps pps

-- and each sequence parameter set in force,
abbrev pub SpsInForceKeepsLimits : Type 0
SpsInForceKeepsLimits =
    (units : List SetUnit) (id : ℕ) (sps : Sps) → sps_in_force units id ≡ Some sps →
    SpsIsInForce id sps

-- and each picture parameter set in force.
abbrev pub PpsInForceKeepsLimits : Type 0
PpsInForceKeepsLimits =
    (units : List SetUnit) (id : ℕ) (pps : Pps) → pps_in_force units id ≡ Some pps →
    PpsIsInForce id pps

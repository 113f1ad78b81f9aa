-- Sequence parameter sets from their bits (7.3.2.1.1): the elements in their order, each check
-- where its element stands.
use Rattle.std.specs.Prelude.{ℕ, ◌+◌, ◌*◌, true, false, ◌==◌, ◌&&◌, ◌||◌, nat_le, nat_lt, is_some}
use Rattle.avc_types.specs.declared.fault.Fault.TheVariants as faults
use Rattle.avc_bits.specs.Bits.{Read, ◌>>=◌, ◌>>◌, give, check, times}
use Rattle.avc_bits.specs.Codes.{u, flag, ue, ue_to, se}
use Rattle.avc_params.specs.Limits.{max_dpb_mbs, max_macroblocks, max_side}
use Rattle.avc_params.specs.Parsing.{optional}
use Rattle.avc_params.specs.VuiReading.{vui}
use Rattle.avc_params.specs.declared.sps.ConstraintFlags.{ConstraintFlags}
use Rattle.avc_params.specs.declared.sps.Cropping.{Cropping}
use Rattle.avc_params.specs.declared.sps.OrderCount.{OrderCount}
use Rattle.avc_params.specs.declared.sps.OrderCount.TheVariants as orders
use Rattle.avc_params.specs.declared.sps.Sps.{Sps}
use Rattle.avc_params.specs.declared.sps_reading.Identity.{Identity}
use Rattle.avc_params.specs.declared.sps_reading.Size.{Size}

-- constraint_set0_flag to constraint_set5_flag (7.3.2.1.1)
abbrev pub constraint_flags : Read ConstraintFlags
constraint_flags = do
  constraint_set0_flag ← flag
  constraint_set1_flag ← flag
  constraint_set2_flag ← flag
  constraint_set3_flag ← flag
  constraint_set4_flag ← flag
  constraint_set5_flag ← flag
  give (record {
    constraint_set0_flag = constraint_set0_flag;
    constraint_set1_flag = constraint_set1_flag;
    constraint_set2_flag = constraint_set2_flag;
    constraint_set3_flag = constraint_set3_flag;
    constraint_set4_flag = constraint_set4_flag;
    constraint_set5_flag = constraint_set5_flag;
  })

-- what a set begins with, profile_idc to seq_parameter_set_id, which is 0 to 31 (7.3.2.1.1,
-- 7.4.2.1.1)
abbrev pub identity : Read Identity
identity = do
  profile_idc ← u 8
  constraints ← constraint_flags
  reserved_zero_2bits ← u 2
  level_idc ← u 8
  seq_parameter_set_id ← ue_to 31
  give (record {
    profile_idc = profile_idc;
    constraint_flags = constraints;
    reserved_zero_2bits = reserved_zero_2bits;
    level_idc = level_idc;
    seq_parameter_set_id = seq_parameter_set_id;
  })

-- log2_max_pic_order_cnt_lsb_minus4, 0 to 12, at pic_order_cnt_type 0 (7.3.2.1.1, 7.4.2.1.1)
abbrev pub lsb : Read OrderCount
lsb = do
  log2_max_pic_order_cnt_lsb_minus4 ← ue_to 12
  give (orders.Type0 log2_max_pic_order_cnt_lsb_minus4)

-- delta_pic_order_always_zero_flag to offset_for_ref_frame, at pic_order_cnt_type 1 (7.3.2.1.1)
abbrev pub cycle : Read OrderCount
cycle = do
  delta_pic_order_always_zero_flag ← flag
  offset_for_non_ref_pic ← se
  offset_for_top_to_bottom_field ← se
  num_ref_frames_in_pic_order_cnt_cycle ← ue_to 255
  offset_for_ref_frame ← times num_ref_frames_in_pic_order_cnt_cycle se
  give (orders.Type1 delta_pic_order_always_zero_flag offset_for_non_ref_pic
      offset_for_top_to_bottom_field offset_for_ref_frame)

-- what follows pic_order_cnt_type (7.3.2.1.1)
abbrev pub order_count_of : ℕ → Read OrderCount
order_count_of kind =
    elim (kind == 0) [
      | true ↦ lsb
      | false ↦ elim (kind == 1) [ true ↦ cycle | false ↦ give orders.Type2 ]
    ]

-- pic_order_cnt_type, 0 to 2, and what follows it (7.3.2.1.1, 7.4.2.1.1)
abbrev pub order_count : Read OrderCount
order_count = ue_to 2 >>= λ pic_order_cnt_type. order_count_of pic_order_cnt_type

-- pic_width_in_mbs_minus1 and pic_height_in_map_units_minus1 (7.3.2.1.1); the limits are those of
-- A.3.1
abbrev pub size : Read Size
size = do
  pic_width_in_mbs_minus1 ← ue
  check (nat_lt pic_width_in_mbs_minus1 max_side) faults.PictureSize
  pic_height_in_map_units_minus1 ← ue
  check (nat_lt pic_height_in_map_units_minus1 max_side
      && nat_le ((pic_width_in_mbs_minus1 + 1) * (pic_height_in_map_units_minus1 + 1))
      max_macroblocks) faults.PictureSize
  give (record {
    pic_width_in_mbs_minus1 = pic_width_in_mbs_minus1;
    pic_height_in_map_units_minus1 = pic_height_in_map_units_minus1;
  })

-- The four offsets, of a picture of so many luma samples, of which some have to be left (7.3.2.1.1,
-- 7.4.2.1.1).
abbrev pub cropping : (width height : ℕ) → Read Cropping
cropping width height = do
  left ← ue
  right ← ue
  check (nat_lt (2 * (left + right)) width) faults.OutOfRange
  top ← ue
  bottom ← ue
  check (nat_lt (2 * (top + bottom)) height) faults.OutOfRange
  give (record {
    frame_crop_left_offset = left;
    frame_crop_right_offset = right;
    frame_crop_top_offset = top;
    frame_crop_bottom_offset = bottom;
  })

-- what follows the id (7.3.2.1.1); that other profiles, levels and interlaced coding are
-- refused is this decoder's rule
abbrev pub sps_after : Identity → Read Sps
sps_after head = do
  check (head.profile_idc == 66 || head.profile_idc == 77 || head.profile_idc == 88) faults.Profile
  check (is_some (max_dpb_mbs head.level_idc head.constraint_flags.constraint_set3_flag))
      faults.Level
  log2_max_frame_num_minus4 ← ue_to 12
  order ← order_count
  max_num_ref_frames ← ue_to 16
  gaps_in_frame_num_value_allowed_flag ← flag
  mbs ← size
  frame_mbs_only_flag ← flag
  check frame_mbs_only_flag faults.Interlaced
  direct_8x8_inference_flag ← flag
  frame_cropping ← optional
      (cropping (16 * (mbs.pic_width_in_mbs_minus1 + 1))
      (16 * (mbs.pic_height_in_map_units_minus1 + 1)))
  usability ← optional vui
  give (record {
    profile_idc = head.profile_idc;
    constraint_flags = head.constraint_flags;
    reserved_zero_2bits = head.reserved_zero_2bits;
    level_idc = head.level_idc;
    seq_parameter_set_id = head.seq_parameter_set_id;
    log2_max_frame_num_minus4 = log2_max_frame_num_minus4;
    order_count = order;
    max_num_ref_frames = max_num_ref_frames;
    gaps_in_frame_num_value_allowed_flag = gaps_in_frame_num_value_allowed_flag;
    pic_width_in_mbs_minus1 = mbs.pic_width_in_mbs_minus1;
    pic_height_in_map_units_minus1 = mbs.pic_height_in_map_units_minus1;
    direct_8x8_inference_flag = direct_8x8_inference_flag;
    frame_cropping = frame_cropping;
    vui = usability;
  })

-- seq_parameter_set_data (7.3.2.1.1)
abbrev pub sps : Read Sps
sps = identity >>= sps_after

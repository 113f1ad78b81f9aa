-- Picture parameter sets from their bits (7.3.2.2): the elements in their order, each check where
-- its element stands.
use Rattle.std.specs.Prelude.{ℕ, pos, negsuc, not, ◌==◌}
use Rattle.avc_types.specs.declared.fault.Fault.TheVariants as faults
use Rattle.avc_bits.specs.Bits.{Read, ◌>>=◌, ◌>>◌, give, check, more}
use Rattle.avc_bits.specs.Codes.{u_to, flag, ue, ue_to, se_within}
use Rattle.avc_params.specs.declared.pps.Pps.{Pps}
use Rattle.avc_params.specs.declared.pps_reading.DefaultCounts.{DefaultCounts}
use Rattle.avc_params.specs.declared.pps_reading.Quantisation.{Quantisation}
use Rattle.avc_params.specs.declared.pps_reading.Switches.{Switches}

-- num_ref_idx_l0_default_active_minus1 and num_ref_idx_l1_default_active_minus1, each 0 to 31
-- (7.4.2.2)
abbrev pub default_counts : Read DefaultCounts
default_counts = do
  num_ref_idx_l0_default_active_minus1 ← ue_to 31
  num_ref_idx_l1_default_active_minus1 ← ue_to 31
  give (record {
    num_ref_idx_l0_default_active_minus1 = num_ref_idx_l0_default_active_minus1;
    num_ref_idx_l1_default_active_minus1 = num_ref_idx_l1_default_active_minus1;
  })

-- weighted_pred_flag to chroma_qp_index_offset, in their ranges at 8 bits (7.3.2.2, 7.4.2.2)
abbrev pub quantisation : Read Quantisation
quantisation = do
  weighted_pred_flag ← flag
  weighted_bipred_idc ← u_to 2 2
  pic_init_qp_minus26 ← se_within (negsuc 25) (pos 25)
  pic_init_qs_minus26 ← se_within (negsuc 25) (pos 25)
  chroma_qp_index_offset ← se_within (negsuc 11) (pos 12)
  give (record {
    weighted_pred_flag = weighted_pred_flag;
    weighted_bipred_idc = weighted_bipred_idc;
    pic_init_qp_minus26 = pic_init_qp_minus26;
    pic_init_qs_minus26 = pic_init_qs_minus26;
    chroma_qp_index_offset = chroma_qp_index_offset;
  })

-- deblocking_filter_control_present_flag to redundant_pic_cnt_present_flag (7.3.2.2)
abbrev pub switches : Read Switches
switches = do
  deblocking_filter_control_present_flag ← flag
  constrained_intra_pred_flag ← flag
  redundant_pic_cnt_present_flag ← flag
  give (record {
    deblocking_filter_control_present_flag = deblocking_filter_control_present_flag;
    constrained_intra_pred_flag = constrained_intra_pred_flag;
    redundant_pic_cnt_present_flag = redundant_pic_cnt_present_flag;
  })

-- what follows the id (7.3.2.2); that Cabac, SliceGroups and PpsExtension are refused is this
-- decoder's rule
abbrev pub pps_after : (pic_parameter_set_id : ℕ) → Read Pps
pps_after pic_parameter_set_id = do
  seq_parameter_set_id ← ue_to 31
  entropy_coding_mode_flag ← flag
  check (not entropy_coding_mode_flag) faults.Cabac
  bottom_field_pic_order_in_frame_present_flag ← flag
  num_slice_groups_minus1 ← ue
  check (num_slice_groups_minus1 == 0) faults.SliceGroups
  counts ← default_counts
  numbers ← quantisation
  flags ← switches
  extension ← more
  check (not extension) faults.PpsExtension
  give (record {
    pic_parameter_set_id = pic_parameter_set_id;
    seq_parameter_set_id = seq_parameter_set_id;
    bottom_field_pic_order_in_frame_present_flag = bottom_field_pic_order_in_frame_present_flag;
    num_ref_idx_l0_default_active_minus1 = counts.num_ref_idx_l0_default_active_minus1;
    num_ref_idx_l1_default_active_minus1 = counts.num_ref_idx_l1_default_active_minus1;
    weighted_pred_flag = numbers.weighted_pred_flag;
    weighted_bipred_idc = numbers.weighted_bipred_idc;
    pic_init_qp_minus26 = numbers.pic_init_qp_minus26;
    pic_init_qs_minus26 = numbers.pic_init_qs_minus26;
    chroma_qp_index_offset = numbers.chroma_qp_index_offset;
    deblocking_filter_control_present_flag = flags.deblocking_filter_control_present_flag;
    constrained_intra_pred_flag = flags.constrained_intra_pred_flag;
    redundant_pic_cnt_present_flag = flags.redundant_pic_cnt_present_flag;
  })

-- pic_parameter_set_rbsp; its id is 0 to 255 (7.3.2.2, 7.4.2.2)
abbrev pub pps : Read Pps
pps = ue_to 255 >>= pps_after

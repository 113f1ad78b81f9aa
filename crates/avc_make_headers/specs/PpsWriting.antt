-- Picture parameter sets as bits (7.3.2.2): the elements in their order.
use Rattle.std.specs.Prelude.{false, Bool, List, [], ◌∷◌}
use Rattle.avc_bits.specs.Bits.{bits_of}
use Rattle.avc_rbsp.specs.Words.{joined, se_word, ue_word}
use Rattle.avc_make_headers.specs.VuiWriting.{flag_bits}
use Rattle.avc_params.specs.declared.pps.Pps.{Pps}

-- the default numbers of reference indices, each less one
abbrev pub default_counts_bits : Pps → List Bool
default_counts_bits pps =
    joined (ue_word pps.num_ref_idx_l0_default_active_minus1 ∷ ue_word
    pps.num_ref_idx_l1_default_active_minus1 ∷ [])

-- weighted prediction, the initial quantisers and chroma_qp_index_offset
abbrev pub quantisation_bits : Pps → List Bool
quantisation_bits pps =
    joined (flag_bits pps.weighted_pred_flag ∷ bits_of 2 pps.weighted_bipred_idc ∷ se_word
    pps.pic_init_qp_minus26 ∷ se_word pps.pic_init_qs_minus26 ∷ se_word
    pps.chroma_qp_index_offset ∷ [])

-- the last three flags
abbrev pub switches_bits : Pps → List Bool
switches_bits pps =
    pps.deblocking_filter_control_present_flag ∷ pps.constrained_intra_pred_flag ∷
    pps.redundant_pic_cnt_present_flag ∷ []

-- With entropy_coding_mode_flag and num_slice_groups_minus1 0.
abbrev pub pps_bits : Pps → List Bool
pps_bits pps =
    joined (ue_word pps.pic_parameter_set_id ∷ ue_word pps.seq_parameter_set_id ∷ (false ∷ []) ∷
    (pps.bottom_field_pic_order_in_frame_present_flag ∷ []) ∷ ue_word 0
    ∷ default_counts_bits pps ∷ quantisation_bits pps ∷ switches_bits pps ∷ [])

-- Listings as JSON: no value of them has a float, and worked examples.
use Rattle.std.proofs.Common.{◌≡◌, ℕ, ℤ, pos, negsuc, true, false, ◌||◌, List, [], ◌∷◌, ◌++◌, Ok, Err, ap, refl}
use Rattle.std.specs.Fmt.{digits}
use Rattle.std.specs.Prelude.{codes}
use Rattle.serde_json.proofs.OnLiterals.{serde_json_on_literals}
use Rattle.serde_json.specs.Find.{is_float, of_integer}
use Rattle.serde_json.specs.Written.{has_float}
use Rattle.avc_params.specs.declared.pps.Pps.{Pps}
use Rattle.avc_tools.specs.CutPoints.{cut_point_lines_so_far}
use Rattle.avc_tools.specs.Lines.{header_lines_so_far, unit_lines_so_far}
use Rattle.avc_units.specs.declared.set_reading.ParameterSet.{ParameterSet}
use Rattle.avc_units.specs.declared.set_reading.ParameterSet.TheVariants.{OfSequence, OfPicture}
use Rattle.avc_info.specs.ListingJson.{header_json, piece_json, pps_data, set_data, unit_json}

-- ---- no float

integer_has_none : (z : ℤ) → is_float (of_integer z) ≡ false
integer_has_none (pos n) = refl
integer_has_none (negsuc n) = refl

pps_has_none : (unit : ℕ) (p : Pps) → has_float (pps_data unit p) ≡ false
pps_has_none unit p = ap (λ b. b || false) (integer_has_none p.pic_init_qp_minus26)

pub set_has_no_float : (unit : ℕ) (set : ParameterSet) → has_float (set_data unit set) ≡ false
set_has_no_float unit (OfSequence (Ok s)) = refl
set_has_no_float unit (OfSequence (Err f)) = refl
set_has_no_float unit (OfPicture (Ok p)) = pps_has_none unit p
set_has_no_float unit (OfPicture (Err f)) = refl

-- ---- worked examples

-- 16x16 luma samples, order count type 2, one reference frame; a picture parameter set; an IDR picture of one slice
abbrev stream : List ℕ
stream =
    (0 ∷ 0 ∷ 0 ∷ 1 ∷ 103 ∷ 66 ∷ 192 ∷ 10 ∷ 218 ∷ 113 ∷ []) ++ (0 ∷ 0 ∷ 0 ∷ 1 ∷ 104 ∷ 206 ∷ 56 ∷ 128 ∷ [])
    ++ (0 ∷ 0 ∷ 1 ∷ 101 ∷ 136 ∷ 132 ∷ 147 ∷ 192 ∷ [])

units_text : unit_lines_so_far unit_json stream true ≡ codes "{\"bytes\":6,\"first_byte\":4,\"nal_ref_idc\":3,\"nal_unit_type\":7,\"unit\":0}\n{\"bytes\":4,\"first_byte\":14,\"nal_ref_idc\":3,\"nal_unit_type\":8,\"unit\":1}\n{\"bytes\":5,\"first_byte\":21,\"nal_ref_idc\":3,\"nal_unit_type\":5,\"unit\":2}\n"
unfolding digits serde_json_on_literals
units_text = refl

headers_text : header_lines_so_far header_json stream true ≡ codes "{\"dpb_size\":16,\"height\":16,\"kind\":\"sps\",\"level_idc\":10,\"max_num_ref_frames\":1,\"pic_order_cnt_type\":2,\"profile_idc\":66,\"seq_parameter_set_id\":0,\"unit\":0,\"width\":16}\n{\"constrained_intra_pred_flag\":0,\"deblocking_filter_control_present_flag\":0,\"kind\":\"pps\",\"num_ref_idx_l0_default_active_minus1\":0,\"pic_init_qp_minus26\":0,\"pic_parameter_set_id\":0,\"seq_parameter_set_id\":0,\"unit\":1}\n{\"IdrPicFlag\":1,\"SliceQPY\":26,\"first_mb_in_slice\":0,\"frame_num\":0,\"kind\":\"slice\",\"pic_parameter_set_id\":0,\"slice_type\":\"I\",\"unit\":2}\n"
unfolding digits serde_json_on_literals
headers_text = refl

-- forbidden_zero_bit is 1
refused_text : header_lines_so_far header_json (0 ∷ 0 ∷ 1 ∷ 230 ∷ 66 ∷ []) true ≡ codes "{\"kind\":\"refused\",\"name\":\"ForbiddenBit\",\"number\":4,\"unit\":0}\n"
unfolding digits serde_json_on_literals
refused_text = refl

pieces_text : cut_point_lines_so_far piece_json stream true ≡ codes "{\"first_byte\":21,\"pictures\":1,\"piece\":0,\"unit\":2}\n"
unfolding digits serde_json_on_literals
pieces_text = refl

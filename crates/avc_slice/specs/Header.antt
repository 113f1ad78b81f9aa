-- What is asked of a slice header (7.3.3).
use Rattle.std.specs.Prelude.{ℤ, pos, ◌+ℤ◌, Bool, true, false, not, ◌==◌, Option, Some, is_some}
use Rattle.std.specs.List.{list_any}
use Rattle.avc_types.specs.declared.references.Marking.{Marking}
use Rattle.avc_types.specs.declared.references.Marking.TheVariants.{Idr, Adaptive}
use Rattle.avc_types.specs.declared.references.Operation.{Operation}
use Rattle.avc_types.specs.declared.references.Operation.TheVariants.{UnmarkAll}
use Rattle.avc_params.specs.declared.pps.Pps.{Pps}
use Rattle.avc_slice.specs.declared.header.Header.{Header}
use Rattle.avc_slice.specs.declared.header.SliceType.{SliceType}
use Rattle.avc_slice.specs.declared.header.SliceType.TheVariants.{P, I, AllP, AllI}

-- slice_type 0 or 5 (Table 7-6)
abbrev pub is_p_type : SliceType → Bool
is_p_type P = true
is_p_type AllP = true
is_p_type I = false
is_p_type AllI = false

-- the header of a P slice (Table 7-6)
abbrev pub is_p : Header → Bool
is_p h = is_p_type h.slice_type

-- the header of a slice of an IDR picture: IdrPicFlag is 1 (7.4.1)
abbrev pub is_idr : Header → Bool
is_idr h = is_some h.idr_pic_id

-- the header of a slice of a reference picture: nal_ref_idc is not 0 (7.4.1)
abbrev pub is_reference : Header → Bool
is_reference h = not (h.nal_ref_idc == 0)

-- SliceQPY (7.4.3)
abbrev pub slice_qp : Pps → (slice_qp_delta : ℤ) → ℤ
slice_qp pps delta = (pos 26 +ℤ pps.pic_init_qp_minus26) +ℤ delta

-- memory_management_control_operation 5 (Table 7-9)
abbrev pub is_unmark_all : Operation → Bool
is_unmark_all UnmarkAll = true
is_unmark_all _ = false

-- a marking with that operation (7.3.3.3)
abbrev marks_all : Option Marking → Bool
marks_all (Some (Adaptive list)) = list_any is_unmark_all list
marks_all _ = false

-- the picture has memory_management_control_operation 5 (7.4.3.3)
abbrev pub has_operation_5 : Header → Bool
has_operation_5 h = marks_all h.marking

-- the marking is one of an IDR picture (7.3.3.3)
abbrev pub is_idr_marking : Option Marking → Bool
is_idr_marking (Some (Idr no_output_of_prior_pics_flag long_term_reference_flag)) = true
is_idr_marking _ = false

-- the same of a header (7.3.3.3)
abbrev pub has_idr_marking : Header → Bool
has_idr_marking h = is_idr_marking h.marking

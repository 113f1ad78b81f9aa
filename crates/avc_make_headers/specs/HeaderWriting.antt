-- Slice headers as bits (7.3.3, 7.3.3.1, 7.3.3.3): the elements in their order, and the headers
-- that can be written.
use Rattle.std.specs.Prelude.{◌≡◌, ℕ, ◌+◌, ◌*◌, ◌^◌, ◌<◌, ◌≤◌, ℤ, pos, negsuc, ◌≤ℤ◌, Bool, true}
use Rattle.std.specs.Prelude.{false, not, ◌&&◌, if◌then◌else◌, List, [], ◌∷◌, length, Option, Some}
use Rattle.std.specs.Prelude.{None, is_some, IfSome}
use Rattle.std.specs.List.{flat_map}
use Rattle.avc_types.specs.declared.edges.FilteredEdges.{FilteredEdges}
use Rattle.avc_types.specs.declared.edges.FilteredEdges.TheVariants as edges
use Rattle.avc_types.specs.declared.references.Marking.{Marking}
use Rattle.avc_types.specs.declared.references.Marking.TheVariants.{Idr, SlidingWindow, Adaptive}
use Rattle.avc_types.specs.declared.references.Modification.{Modification}
use Rattle.avc_types.specs.declared.references.Modification.TheVariants.{Subtract, Add, LongTerm}
use Rattle.avc_types.specs.declared.references.Operation.{Operation}
use Rattle.avc_types.specs.declared.references.Operation.TheVariants.{UnmarkShortTerm}
use Rattle.avc_types.specs.declared.references.Operation.TheVariants.{UnmarkLongTerm}
use Rattle.avc_types.specs.declared.references.Operation.TheVariants.{AssignLongTerm}
use Rattle.avc_types.specs.declared.references.Operation.TheVariants.{MaxLongTermFrameIdx}
use Rattle.avc_types.specs.declared.references.Operation.TheVariants.{UnmarkAll, CurrentToLongTerm}
use Rattle.avc_bits.specs.Bits.{bits_of}
use Rattle.avc_rbsp.specs.Words.{joined, se_word, ue_word}
use Rattle.avc_make_headers.specs.SpsWriting.{IsSeValue}
use Rattle.avc_make_headers.specs.VuiWriting.{Each, IsUeValue, flag_bits, optional_bits, where_bits}
use Rattle.avc_make_headers.specs.WeightsWriting.{pred_weight_table_bits}
use Rattle.avc_params.specs.Limits.{max_frame_num, size_in_mbs}
use Rattle.avc_params.specs.Within.{IsPps, IsSps}
use Rattle.avc_params.specs.declared.pps.Pps.{Pps}
use Rattle.avc_params.specs.declared.sps.OrderCount.{OrderCount}
use Rattle.avc_params.specs.declared.sps.OrderCount.TheVariants as orders
use Rattle.avc_params.specs.declared.sps.Sps.{Sps}
use Rattle.avc_slice.specs.Header.{is_idr, is_p, is_reference, slice_qp}
use Rattle.avc_slice.specs.Reading.{num_ref_idx_active, most_operations}
use Rattle.avc_slice.specs.Within.{IsPredWeightTable}
use Rattle.avc_slice.specs.declared.header.CodedOrder.{CodedOrder}
use Rattle.avc_slice.specs.declared.header.CodedOrder.TheVariants.{Type0, Type1, Type2}
use Rattle.avc_slice.specs.declared.header.Deblocking.{Deblocking}
use Rattle.avc_slice.specs.declared.header.Header.{Header}
use Rattle.avc_slice.specs.declared.header.SliceType.{SliceType}
use Rattle.avc_slice.specs.declared.header.SliceType.TheVariants as slice_types

-- ---- the elements

-- Table 7-6
abbrev pub slice_type_number : SliceType → ℕ
slice_type_number slice_types.P = 0
slice_type_number slice_types.I = 2
slice_type_number slice_types.AllP = 5
slice_type_number slice_types.AllI = 7

-- the element, where it is coded
abbrev pub se_where : Bool → ℤ → List Bool
se_where true v = se_word v
se_where false v = []

-- What tells the picture's order count, for each pic_order_cnt_type.
abbrev pub coded_order_bits : OrderCount → (bottom_present : Bool) → CodedOrder → List Bool
coded_order_bits (orders.Type0 log2_minus4) bottom_present (Type0 lsb bottom) =
    joined (bits_of (log2_minus4 + 4) lsb ∷ se_where bottom_present bottom ∷ [])
coded_order_bits (orders.Type1 always_zero _ _ _) bottom_present (Type1 delta_0 delta_1) =
    joined (se_where (not always_zero) delta_0 ∷ se_where (not always_zero
    && bottom_present) delta_1 ∷ [])
coded_order_bits _ _ _ = []

-- modification_of_pic_nums_idc and its number (7.3.3.1)
abbrev pub modification_bits : Modification → List Bool
modification_bits (Subtract n) = joined (ue_word 0 ∷ ue_word n ∷ [])
modification_bits (Add n) = joined (ue_word 1 ∷ ue_word n ∷ [])
modification_bits (LongTerm n) = joined (ue_word 2 ∷ ue_word n ∷ [])

-- the entries of ref_pic_list_modification, and 3, which ends them (7.3.3.1)
abbrev pub modifications_bits : List Modification → List Bool
modifications_bits list = joined (flat_map modification_bits list ∷ ue_word 3 ∷ [])

-- num_ref_idx_active_override_flag and ref_pic_list_modification_flag_l0 with what they bring, and
-- the weights, in P slices
abbrev pub list_bits : Header → List Bool
list_bits h =
    joined (optional_bits ue_word h.active_override ∷ optional_bits modifications_bits
    h.modifications ∷ where_bits pred_weight_table_bits h.pred_weight_table ∷ [])

-- what a P slice alone has of the list; an I slice has nothing
abbrev pub list_bits_where : (p : Bool) → Header → List Bool
list_bits_where true h = list_bits h
list_bits_where false h = []

-- memory_management_control_operation and its numbers (7.3.3.3)
abbrev pub operation_bits : Operation → List Bool
operation_bits (UnmarkShortTerm n) = joined (ue_word 1 ∷ ue_word n ∷ [])
operation_bits (UnmarkLongTerm n) = joined (ue_word 2 ∷ ue_word n ∷ [])
operation_bits (AssignLongTerm n index) = joined (ue_word 3 ∷ ue_word n ∷ ue_word index ∷ [])
operation_bits (MaxLongTermFrameIdx n) = joined (ue_word 4 ∷ ue_word n ∷ [])
operation_bits UnmarkAll = ue_word 5
operation_bits (CurrentToLongTerm index) = joined (ue_word 6 ∷ ue_word index ∷ [])

-- dec_ref_pic_marking (7.3.3.3)
abbrev pub marking_bits : Marking → List Bool
marking_bits (Idr no_output_of_prior_pics_flag long_term_reference_flag) =
    joined (flag_bits no_output_of_prior_pics_flag ∷ flag_bits long_term_reference_flag ∷ [])
marking_bits SlidingWindow = flag_bits false
marking_bits (Adaptive list) =
    joined (flag_bits true ∷ flat_map operation_bits list ∷ ue_word 0 ∷ [])

-- the offsets, unless no edge is filtered
abbrev pub deblocking_bits_of : FilteredEdges → (alpha beta : ℤ) → List Bool
deblocking_bits_of edges.All alpha beta = joined (ue_word 0 ∷ se_word alpha ∷ se_word beta ∷ [])
deblocking_bits_of edges.NoEdges alpha beta = ue_word 1
deblocking_bits_of edges.WithinSlice alpha beta =
    joined (ue_word 2 ∷ se_word alpha ∷ se_word beta ∷ [])

-- disable_deblocking_filter_idc and the two offsets (7.3.3)
abbrev pub deblocking_bits : Deblocking → List Bool
deblocking_bits d =
    deblocking_bits_of d.disable_deblocking_filter_idc d.slice_alpha_c0_offset_div2
    d.slice_beta_offset_div2

-- ---- the header

-- first_mb_in_slice, slice_type and pic_parameter_set_id (7.3.3)
abbrev pub front_bits : Header → List Bool
front_bits h =
    joined (ue_word h.first_mb_in_slice ∷ ue_word (slice_type_number h.slice_type) ∷ ue_word
    h.pic_parameter_set_id ∷ [])

-- frame_num, idr_pic_id, the elements of the order count and redundant_pic_cnt (7.3.3)
abbrev pub numbers_bits : Sps → Pps → Header → List Bool
numbers_bits sps pps h =
    joined (bits_of (sps.log2_max_frame_num_minus4 + 4) h.frame_num ∷ where_bits ue_word
    h.idr_pic_id
    ∷ coded_order_bits sps.order_count pps.bottom_field_pic_order_in_frame_present_flag h.order ∷
    where_bits ue_word h.redundant_pic_cnt ∷ [])

-- slice_qp_delta, and what is said of deblocking (7.3.3)
abbrev pub filtering_bits : Header → List Bool
filtering_bits h = joined (se_word h.slice_qp_delta ∷ where_bits deblocking_bits h.deblocking ∷ [])

-- Under these sets. The field `position` is none of the syntax.
abbrev pub header_bits : Sps → Pps → Header → List Bool
header_bits sps pps h =
    joined (front_bits h ∷ numbers_bits sps pps h ∷ list_bits_where (is_p h) h ∷ where_bits
    marking_bits h.marking ∷ filtering_bits h ∷ [])

-- nal_ref_idc, and nal_unit_type 5 or 1 (7.3.1)
abbrev pub slice_unit_header : Header → ℕ
slice_unit_header h = 32 * h.nal_ref_idc + (if is_idr h then 5 else 1)

-- ---- the headers that can be written

-- the value, where it is coded, else 0
abbrev pub IsSeWhere : Bool → ℤ → Type 0
IsSeWhere true v = IsSeValue v
IsSeWhere false v = v ≡ pos 0

-- the elements of the order count are those of pic_order_cnt_type, and fit (7.3.3)
abbrev pub IsOrderOf : OrderCount → (bottom_present : Bool) → CodedOrder → Type 0
IsOrderOf (orders.Type0 log2_minus4) bottom_present (Type0 lsb bottom) =
    (lsb < 2 ^ (log2_minus4 + 4)) × IsSeWhere bottom_present bottom
IsOrderOf (orders.Type1 always_zero _ _ _) bottom_present (Type1 delta_0 delta_1) =
    IsSeWhere (not always_zero) delta_0 × IsSeWhere (not always_zero && bottom_present) delta_1
IsOrderOf orders.Type2 bottom_present Type2 = Unit {0}
IsOrderOf _ _ _ = ⊥

-- abs_diff_pic_num_minus1 is below MaxFrameNum
abbrev pub IsModification : (max_frame_num : ℕ) → Modification → Type 0
IsModification max_frame_num (Subtract n) = n < max_frame_num
IsModification max_frame_num (Add n) = n < max_frame_num
IsModification max_frame_num (LongTerm n) = IsUeValue n

-- as many as the list has entries, at most
abbrev pub IsModificationList : (max_frame_num room : ℕ) → List Modification → Type 0
IsModificationList max_frame_num room list =
    (length list ≤ room) × Each (IsModification max_frame_num) list

-- The overriding count is at most 16; so is a default one that is used.
abbrev pub IsOverride : Pps → Option ℕ → Type 0
IsOverride pps (Some count_minus1) = count_minus1 < 16
IsOverride pps None = pps.num_ref_idx_l0_default_active_minus1 < 16

-- What a P slice's header says of its list fits the parameter sets.
pub record IsListOf (sps : Sps) (pps : Pps) (h : Header) : Type 0 where
  pub override : IsOverride pps h.active_override
  pub count : h.num_ref_idx_active ≡ num_ref_idx_active pps h.active_override
  pub list : IfSome h.modifications
      (IsModificationList (max_frame_num sps) (num_ref_idx_active pps h.active_override))
  pub is_weighted : is_some h.pred_weight_table ≡ pps.weighted_pred_flag
  pub weights : IfSome h.pred_weight_table (IsPredWeightTable h.num_ref_idx_active)

-- An I slice's header says nothing of a list.
pub record HasNoList (h : Header) : Type 0 where
  pub override : h.active_override ≡ None
  pub count : h.num_ref_idx_active ≡ 0
  pub list : h.modifications ≡ None
  pub weights : h.pred_weight_table ≡ None

-- the one or the other
abbrev pub IsListWhere : (p : Bool) → Sps → Pps → Header → Type 0
IsListWhere true sps pps h = IsListOf sps pps h
IsListWhere false sps pps h = HasNoList h

-- the numbers of a marking operation have codewords (7.3.3.3)
abbrev pub IsOperation : Operation → Type 0
IsOperation (UnmarkShortTerm n) = IsUeValue n
IsOperation (UnmarkLongTerm n) = IsUeValue n
IsOperation (AssignLongTerm n index) = IsUeValue n × IsUeValue index
IsOperation (MaxLongTermFrameIdx n) = IsUeValue n
IsOperation UnmarkAll = Unit {0}
IsOperation (CurrentToLongTerm index) = IsUeValue index

-- of an IDR picture or of another
abbrev pub IsMarkingOf : (idr : Bool) → Marking → Type 0
IsMarkingOf true (Idr _ _) = Unit {0}
IsMarkingOf false SlidingWindow = Unit {0}
IsMarkingOf false (Adaptive list) = (length list ≤ most_operations) × Each IsOperation list
IsMarkingOf _ _ = ⊥

-- -6 to 6, as slice_alpha_c0_offset_div2 and slice_beta_offset_div2 are (7.4.3)
abbrev pub IsOffset : ℤ → Type 0
IsOffset v = (negsuc 5 ≤ℤ v) × (v ≤ℤ pos 6)

-- the offsets are in range; where no edge is filtered they are not coded, and 0
abbrev pub IsDeblockingOf : FilteredEdges → (alpha beta : ℤ) → Type 0
IsDeblockingOf edges.NoEdges alpha beta = (alpha ≡ pos 0) × (beta ≡ pos 0)
IsDeblockingOf edges.All alpha beta = IsOffset alpha × IsOffset beta
IsDeblockingOf edges.WithinSlice alpha beta = IsOffset alpha × IsOffset beta

-- the same of all three elements
abbrev pub IsDeblocking : Deblocking → Type 0
IsDeblocking d =
    IsDeblockingOf d.disable_deblocking_filter_idc d.slice_alpha_c0_offset_div2
    d.slice_beta_offset_div2

-- a luma quantiser
abbrev pub IsQp : ℤ → Type 0
IsQp qp = (pos 0 ≤ℤ qp) × (qp ≤ℤ pos 51)

-- In a unit of type 5: an I slice of a reference picture with frame_num 0.
pub record IsIdr (h : Header) (idr_pic_id : ℕ) : Type 0 where
  pub id : idr_pic_id ≤ 65535
  pub reference : is_reference h ≡ true
  pub i : is_p h ≡ false
  pub frame_num : h.frame_num ≡ 0

-- A header that can be written under these sets: what reading it asks for, and each field within
-- its code.
pub record IsHeader (sps : Sps) (pps : Pps) (h : Header) : Type 0 where
  pub sps_within : IsSps sps
  pub pps_within : IsPps pps
  pub pps_id : h.pic_parameter_set_id ≡ pps.pic_parameter_set_id
  pub sps_id : pps.seq_parameter_set_id ≡ sps.seq_parameter_set_id
  pub reference : h.nal_ref_idc < 4
  pub first : h.first_mb_in_slice < size_in_mbs sps
  pub frame_num : h.frame_num < max_frame_num sps
  pub idr : IfSome h.idr_pic_id (IsIdr h)
  pub order : IsOrderOf sps.order_count pps.bottom_field_pic_order_in_frame_present_flag h.order
  pub primary : h.redundant_pic_cnt ≡ (if pps.redundant_pic_cnt_present_flag then Some 0 else None)
  pub list : IsListWhere (is_p h) sps pps h
  pub is_marked : is_some h.marking ≡ is_reference h
  pub marked : IfSome h.marking (IsMarkingOf (is_idr h))
  pub qp : IsQp (slice_qp pps h.slice_qp_delta)
  pub is_filtered : is_some h.deblocking ≡ pps.deblocking_filter_control_present_flag
  pub filtered : IfSome h.deblocking IsDeblocking

-- Slice headers from their bits (7.3.3, 7.3.3.1, 7.3.3.3; 7.3.3.2 is in WeightsReading): the
-- elements in their order, each check where its element stands.
use Rattle.std.specs.Prelude.{ℕ, zero, suc, ◌+◌, ◌-◌, ◌/◌, ◌%◌, ℤ, pos, negsuc, int_le, Bool, true}
use Rattle.std.specs.Prelude.{false, not, ◌==◌, ◌&&◌, ◌||◌, nat_lt, List, [], ◌∷◌, Option, Some}
use Rattle.std.specs.Prelude.{None, slice_index_or, if◌then◌else◌, Result, Ok, Err}
use Rattle.avc_types.specs.declared.fault.Fault.{Fault}
use Rattle.avc_types.specs.declared.fault.Fault.TheVariants as faults
use Rattle.avc_types.specs.declared.references.Marking.{Marking}
use Rattle.avc_types.specs.declared.references.Marking.TheVariants.{Idr, SlidingWindow, Adaptive}
use Rattle.avc_types.specs.declared.references.Modification.{Modification}
use Rattle.avc_types.specs.declared.references.Modification.TheVariants.{Subtract, Add, LongTerm}
use Rattle.avc_types.specs.declared.references.Operation.{Operation}
use Rattle.avc_types.specs.declared.references.Operation.TheVariants.{UnmarkShortTerm}
use Rattle.avc_types.specs.declared.references.Operation.TheVariants.{UnmarkLongTerm}
use Rattle.avc_types.specs.declared.references.Operation.TheVariants.{AssignLongTerm}
use Rattle.avc_types.specs.declared.references.Operation.TheVariants.{MaxLongTermFrameIdx}
use Rattle.avc_types.specs.declared.references.Operation.TheVariants.{UnmarkAll, CurrentToLongTerm}
use Rattle.avc_bits.specs.Bits.{Bits, Read, start, ◌>>=◌, ◌>>◌, give, refuse, check, where_set}
use Rattle.avc_bits.specs.Codes.{u, flag, ue, ue_to, se, se_within}
use Rattle.avc_params.specs.declared.pps.Pps.{Pps}
use Rattle.avc_params.specs.declared.sps.OrderCount.{OrderCount}
use Rattle.avc_params.specs.declared.sps.OrderCount.TheVariants as order_counts
use Rattle.avc_params.specs.declared.sps.Sps.{Sps}
use Rattle.avc_params.specs.Limits.{size_in_mbs, max_frame_num}
use Rattle.avc_params.specs.Tables.{Sets}
use Rattle.avc_slice.specs.declared.header.CodedOrder.{CodedOrder}
use Rattle.avc_slice.specs.declared.header.CodedOrder.TheVariants.{Type0, Type1, Type2}
use Rattle.avc_slice.specs.declared.header.Deblocking.{Deblocking}
use Rattle.avc_slice.specs.declared.header.Header.{Header}
use Rattle.avc_slice.specs.declared.parts.Filtering.{Filtering}
use Rattle.avc_slice.specs.declared.parts.Front.{Front}
use Rattle.avc_slice.specs.declared.parts.ListPart.{ListPart}
use Rattle.avc_slice.specs.declared.parts.Numbers.{Numbers}
use Rattle.avc_slice.specs.declared.header.SliceType.{SliceType}
use Rattle.avc_slice.specs.declared.header.SliceType.TheVariants as slice_types
use Rattle.avc_types.specs.declared.edges.FilteredEdges.{FilteredEdges}
use Rattle.avc_types.specs.declared.edges.FilteredEdges.TheVariants as edges
use Rattle.avc_slice.specs.Header.{is_p_type, slice_qp}
use Rattle.avc_slice.specs.WeightsReading.{pred_weight_table}

-- ---- order counts (7.3.3)

-- an element that is 0 where it is not present (7.4.3)
abbrev pub optional_se : Bool → Read ℤ
optional_se true = se
optional_se false = give (pos 0)

-- pic_order_cnt_lsb and delta_pic_order_cnt_bottom, or delta_pic_order_cnt[ 0 ] and [ 1 ] (7.3.3)
abbrev pub coded_order : OrderCount → (bottom_present : Bool) → Read CodedOrder
coded_order (order_counts.Type0 log2_minus4) bottom_present = do
  pic_order_cnt_lsb ← u (log2_minus4 + 4)
  delta_pic_order_cnt_bottom ← optional_se bottom_present
  give (Type0 pic_order_cnt_lsb delta_pic_order_cnt_bottom)
coded_order (order_counts.Type1 always_zero _ _ _) bottom_present = do
  delta_0 ← optional_se (not always_zero)
  delta_1 ← optional_se (not always_zero && bottom_present)
  give (Type1 delta_0 delta_1)
coded_order order_counts.Type2 bottom_present = give Type2

-- ---- the active count of a P slice (7.3.3)

-- num_ref_idx_l0_active_minus1, of a frame 0 to 15 (7.3.3, 7.4.3)
abbrev pub overridden_count : Read (Option ℕ)
overridden_count = do
  count_minus1 ← ue_to 15
  give (Some count_minus1)

-- num_ref_idx_active_override_flag and what it brings; a default count that is used is one of
-- a frame too (7.3.3, 7.4.3)
abbrev pub active_override : Pps → Read (Option ℕ)
active_override pps = do
  num_ref_idx_active_override_flag ← flag
  elim num_ref_idx_active_override_flag [
    | true ↦ overridden_count
    | false ↦ (check (nat_lt pps.num_ref_idx_l0_default_active_minus1 16) faults.OutOfRange >> give
        None)
  ]

-- ---- lists that a code ends (7.3.3.1, 7.3.3.3)

-- no item where the list ends here (7.3.3.1, 7.3.3.3)
abbrev pub unless_ended : {A : Type 0} → Bool → Read (List A) → Read (List A)
unless_ended true others = give []
unless_ended false others = others

-- Each item behind its code, until the code is `stop`: so many items may stand, and one more is the
-- fault (7.3.3.1, 7.3.3.3).
abbrev pub up_to : {A : Type 0} → (code : Read ℕ) → (stop : ℕ) → (item : ℕ → Read A) → Fault →
    (room : ℕ) → Read (List A)
up_to code stop item fault zero = do
  last ← code
  check (last == stop) fault
  give []
up_to code stop item fault (suc room) = do
  next ← code
  unless_ended (next == stop) (do
    one ← item next
    others ← up_to code stop item fault room
    give (one ∷ others))

-- ---- modification of the list (7.3.3.1)

-- What follows modification_of_pic_nums_idc 0, 1 or 2 (Table 7-7): abs_diff_pic_num_minus1, at most
-- `most` (7.4.3.1), or long_term_pic_num.
abbrev pub modification : (most idc : ℕ) → Read Modification
modification most zero = ue_to most >>= λ n. give (Subtract n)
modification most (suc zero) = ue_to most >>= λ n. give (Add n)
modification most (suc (suc _)) = ue >>= λ n. give (LongTerm n)

-- The entries up to idc 3, of which so many may stand (7.3.3.1, 7.4.3.1).
abbrev pub modifications : (max_frame_num room : ℕ) → Read (List Modification)
modifications max_frame_num room =
    up_to (ue_to 3) 3 (modification (max_frame_num - 1)) faults.BadRefList room

-- ref_pic_list_modification_flag_l0, and the entries where it is 1 (7.3.3.1)
abbrev pub modification_list : (max_frame_num room : ℕ) → Read (Option (List Modification))
modification_list max_frame_num room =
    flag >>= λ present. where_set present (modifications max_frame_num room)

-- ---- marking (7.3.3.3)

-- an operation with two numbers (7.3.3.3)
abbrev pub two : (ℕ → ℕ → Operation) → Read Operation
two make = ue >>= λ a. ue >>= λ b. give (make a b)

-- what follows memory_management_control_operation 1 to 6 (7.3.3.3, Table 7-9)
abbrev pub operation : (number : ℕ) → Read Operation
operation (suc zero) = ue >>= λ n. give (UnmarkShortTerm n)
operation (suc (suc zero)) = ue >>= λ n. give (UnmarkLongTerm n)
operation (suc (suc (suc zero))) = two AssignLongTerm
operation (suc (suc (suc (suc zero)))) = ue >>= λ n. give (MaxLongTermFrameIdx n)
operation (suc (suc (suc (suc (suc zero))))) = give UnmarkAll
operation _ = ue >>= λ n. give (CurrentToLongTerm n)

-- the operations up to 0, of which so many may stand (7.3.3.3)
abbrev pub operations : (room : ℕ) → Read (List Operation)
operations room = up_to (ue_to 6) 0 operation faults.BadMarking room

-- an operation, none of whose numbers is limited
abbrev pub any_operation : (most number : ℕ) → Read Operation
any_operation most number = operation number

-- how many operations may stand (this decoder's rule)
abbrev pub most_operations : ℕ
most_operations = 64

-- dec_ref_pic_marking (7.3.3.3)
abbrev pub marking : (idr : Bool) → Read Marking
marking true = do
  no_output_of_prior_pics_flag ← flag
  long_term_reference_flag ← flag
  give (Idr no_output_of_prior_pics_flag long_term_reference_flag)
marking false = do
  adaptive_ref_pic_marking_mode_flag ← flag
  elim adaptive_ref_pic_marking_mode_flag [
    | true ↦ (operations most_operations >>= λ list. give (Adaptive list))
    | false ↦ give SlidingWindow
  ]

-- ---- deblocking (7.3.3)

-- slice_alpha_c0_offset_div2 and slice_beta_offset_div2, each -6 to 6 (7.3.3, 7.4.3)
abbrev pub offset_pair : FilteredEdges → Read Deblocking
offset_pair filtered = do
  alpha ← se_within (negsuc 5) (pos 6)
  beta ← se_within (negsuc 5) (pos 6)
  give (record {
    disable_deblocking_filter_idc = filtered;
    slice_alpha_c0_offset_div2 = alpha;
    slice_beta_offset_div2 = beta;
  })

-- disable_deblocking_filter_idc 1, where the two offsets are not coded (7.3.3)
abbrev pub no_edges : Deblocking
no_edges = record {
  disable_deblocking_filter_idc = edges.NoEdges;
  slice_alpha_c0_offset_div2 = pos 0;
  slice_beta_offset_div2 = pos 0;
}

-- disable_deblocking_filter_idc, 0 to 2, and the offsets where it is not 1 (7.3.3, 7.4.3)
abbrev pub deblocking : Read Deblocking
deblocking = do
  idc ← ue_to 2
  elim (idc == 1) [
    | true ↦ give no_edges
    | false ↦ offset_pair (if idc == 0 then edges.All else edges.WithinSlice)
  ]

-- ---- the header, in parts (7.3.3)

-- the value that must be there, else the fault
abbrev pub found : {A : Type 0} → Option A → Fault → Read A
found (Some a) f = give a
found None f = refuse f

-- the slice_type with this number, where it is one of an I or P slice (Table 7-6)
abbrev pub slice_type_of : ℕ → Option SliceType
slice_type_of n = slice_index_or
    (Some slice_types.P ∷ None ∷ Some slice_types.I ∷ None ∷ None ∷ Some slice_types.AllP ∷ None ∷
    Some slice_types.AllI ∷ []) n None

-- up to the picture parameter set's id (7.3.3); a slice of an IDR picture is an I slice of a
-- reference picture (7.4.1, 7.4.3)
abbrev pub front : (nal_ref_idc : ℕ) → (idr : Bool) → Read Front
front nal_ref_idc idr = do
  first_mb_in_slice ← ue
  number ← ue_to 9
  slice_type ← found (slice_type_of number) faults.SliceType
  check (not (idr && (nal_ref_idc == 0 || is_p_type slice_type))) faults.BadIdr
  pic_parameter_set_id ← ue_to 255
  give (record {
    first_mb_in_slice = first_mb_in_slice;
    slice_type = slice_type;
    pic_parameter_set_id = pic_parameter_set_id;
  })

-- idr_pic_id, 0 to 65535, in units of type 5 alone (7.3.3, 7.4.3)
abbrev pub idr_pic_id : (idr : Bool) → Read (Option ℕ)
idr_pic_id idr = where_set idr (ue_to 65535)

-- redundant_pic_cnt, 0 to 127 (7.4.3); that one above 0 is refused is this decoder's rule
abbrev pub primary : Read ℕ
primary = do
  redundant ← ue_to 127
  check (redundant == 0) faults.RedundantSlice
  give redundant

-- the same where redundant_pic_cnt_present_flag is 1 (7.3.3)
abbrev pub redundant_pic_cnt : (present : Bool) → Read (Option ℕ)
redundant_pic_cnt present = where_set present primary

-- what tells the slice's picture from others: frame_num, which is 0 in an IDR picture, to
-- redundant_pic_cnt (7.3.3, 7.4.3)
abbrev pub numbers : (idr : Bool) → Pps → Sps → Read Numbers
numbers idr pps sps = do
  frame_num ← u (sps.log2_max_frame_num_minus4 + 4)
  check (not (idr && not (frame_num == 0))) faults.BadIdr
  of_idr ← idr_pic_id idr
  order ← coded_order sps.order_count pps.bottom_field_pic_order_in_frame_present_flag
  redundant ← redundant_pic_cnt pps.redundant_pic_cnt_present_flag
  give (record {
    frame_num = frame_num;
    idr_pic_id = of_idr;
    order = order;
    redundant_pic_cnt = redundant;
  })

-- RefPicList0's length in a P slice: the overriding count or the default one (7.4.3)
abbrev pub num_ref_idx_active : Pps → Option ℕ → ℕ
num_ref_idx_active pps (Some count_minus1) = count_minus1 + 1
num_ref_idx_active pps None = pps.num_ref_idx_l0_default_active_minus1 + 1

-- of a P slice: the active count, the modification and pred_weight_table (7.3.3)
abbrev pub p_list : Pps → Sps → Read ListPart
p_list pps sps = do
  override ← active_override pps
  given ← modification_list (max_frame_num sps) (num_ref_idx_active pps override)
  weights ← where_set pps.weighted_pred_flag (pred_weight_table (num_ref_idx_active pps override))
  give (record {
    active_override = override;
    num_ref_idx_active = num_ref_idx_active pps override;
    modifications = given;
    pred_weight_table = weights;
  })

-- what RefPicList0 is made by, and by what its predictions are weighted; an I slice has neither
-- (7.3.3)
abbrev pub list_part : (p : Bool) → Pps → Sps → Read ListPart
list_part true pps sps = p_list pps sps
list_part false pps sps = give (record {
  active_override = None;
  num_ref_idx_active = 0;
  modifications = None;
  pred_weight_table = None;
})

-- SliceQPY is 0 to 51 at 8 bits (7.4.3)
abbrev pub is_qp : ℤ → Bool
is_qp qp = int_le (pos 0) qp && int_le qp (pos 51)

-- the quantiser and the deblocking fields (7.3.3)
abbrev pub filtering : Pps → Read Filtering
filtering pps = do
  slice_qp_delta ← se
  check (is_qp (slice_qp pps slice_qp_delta)) faults.OutOfRange
  given ← where_set pps.deblocking_filter_control_present_flag deblocking
  give (record { slice_qp_delta = slice_qp_delta; deblocking = given })

-- how many bits have been read so far
abbrev pub position_here : Read ℕ
position_here b = Ok (b.position, b)

-- ---- the header (7.3.3)

-- What stands after the front, under its parameter sets (7.3.3); first_mb_in_slice is that of a
-- macroblock of the picture (7.4.3).
abbrev pub back : (nal_ref_idc : ℕ) → (idr : Bool) → Front → Pps → Sps → Read Header
back nal_ref_idc idr start pps sps = do
  check (nat_lt start.first_mb_in_slice (size_in_mbs sps)) faults.OutOfRange
  of_picture ← numbers idr pps sps
  list ← list_part (is_p_type start.slice_type) pps sps
  marked ← where_set (not (nal_ref_idc == 0)) (marking idr)
  filtered ← filtering pps
  position ← position_here
  give (record {
    nal_ref_idc = nal_ref_idc;
    first_mb_in_slice = start.first_mb_in_slice;
    slice_type = start.slice_type;
    pic_parameter_set_id = start.pic_parameter_set_id;
    frame_num = of_picture.frame_num;
    idr_pic_id = of_picture.idr_pic_id;
    order = of_picture.order;
    redundant_pic_cnt = of_picture.redundant_pic_cnt;
    active_override = list.active_override;
    num_ref_idx_active = list.num_ref_idx_active;
    modifications = list.modifications;
    pred_weight_table = list.pred_weight_table;
    marking = marked;
    slice_qp_delta = filtered.slice_qp_delta;
    deblocking = filtered.deblocking;
    position = position;
  })

-- slice_header, of a unit of type 1, or of type 5 (idr) (7.3.3). NoParameterSet is this decoder's
-- rule.
abbrev pub slice_header : (nal_ref_idc : ℕ) → (idr : Bool) → Sets → Read Header
slice_header nal_ref_idc idr sets = do
  start ← front nal_ref_idc idr
  pps ← found (sets.pps start.pic_parameter_set_id) faults.NoParameterSet
  sps ← found (sets.sps pps.seq_parameter_set_id) faults.NoParameterSet
  back nal_ref_idc idr start pps sps

-- The same by the unit's first byte (7.3.1).
abbrev pub header_of : (header : ℕ) → Sets → Read Header
header_of header sets = slice_header (header / 32 % 4) (header % 32 == 5) sets

-- what was read, without what is left
abbrev pub value_or_fault : {A : Type 0} → Result (A × Bits) Fault → Result A Fault
value_or_fault (Ok r) = Ok r.0
value_or_fault (Err f) = Err f

-- The header in a unit's RBSP, by the unit's first byte, or the first fault (7.3.3).
abbrev pub header_in_rbsp : (header : ℕ) → Sets → (rbsp : List ℕ) → Result Header Fault
header_in_rbsp header sets rbsp = value_or_fault (header_of header sets (start rbsp))

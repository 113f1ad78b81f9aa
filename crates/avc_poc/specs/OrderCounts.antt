-- Picture order counts (8.2.1), from the history: the closed pictures and the missing frame numbers
-- of a coded video sequence, in decoding order. A history is written with its newest entry first.
use Rattle.std.specs.Prelude.{ℕ, zero, suc, ◌+◌, ◌-◌, ◌*◌, ◌/◌, ◌%◌, ◌^◌, ℤ, pos, neg_ℤ, ◌+ℤ◌, ◌-ℤ◌}
use Rattle.std.specs.Prelude.{◌*ℤ◌, int_lt, int_le, Bool, true, false, ◌&&◌, nat_lt, if◌then◌else◌}
use Rattle.std.specs.Prelude.{List, [], ◌∷◌, length, take, Result, Ok, Err}
use Rattle.std.specs.Int.{int_min}
use Rattle.avc_types.specs.declared.fault.Fault.{Fault}
use Rattle.avc_types.specs.declared.fault.Fault.TheVariants as faults
use Rattle.avc_params.specs.declared.sps.Sps.{Sps}
use Rattle.avc_params.specs.declared.sps.OrderCount.{OrderCount}
use Rattle.avc_params.specs.declared.sps.OrderCount.TheVariants as orders
use Rattle.avc_params.specs.Limits.{max_frame_num}
use Rattle.avc_slice.specs.declared.header.CodedOrder.{CodedOrder}
use Rattle.avc_slice.specs.declared.header.CodedOrder.TheVariants.{Type0, Type1}
use Rattle.avc_slice.specs.declared.header.Header.{Header}
use Rattle.avc_slice.specs.Header.{is_idr, is_reference, has_operation_5}
use Rattle.avc_poc.specs.declared.most_significant.Previous.{Previous}

-- an entry of the history: a coded picture, or a missing frame number (8.2.5.2)
pub data Past : Type 0 where
  picture : Sps → Header → Past
  missing : Sps → (frame_num : ℕ) → Past

-- TopFieldOrderCnt and BottomFieldOrderCnt (8.2.1)
pub record Counts : Type 0 where
  pub top : ℤ
  pub bottom : ℤ

-- PicOrderCnt of a frame: the smaller of the two (8.2.1)
abbrev pub order_of : Counts → ℤ
order_of c = int_min c.top c.bottom

-- after memory_management_control_operation 5 (8.2.1): both are lowered by the frame's count
abbrev pub lowered_by_operation_5 : Counts → Counts
lowered_by_operation_5 c = record { top = c.top -ℤ order_of c; bottom = c.bottom -ℤ order_of c }

-- ---- type 0 (8.2.1.1)

-- prevPicOrderCntMsb and prevPicOrderCntLsb of an IDR picture (8.2.1.1)
abbrev pub no_previous : Previous
no_previous = record { msb = pos 0; lsb = pos 0 }

-- MaxPicOrderCntLsb (7.4.2.1.1)
abbrev pub max_lsb : OrderCount → ℤ
max_lsb (orders.Type0 log2_minus4) = pos (2 ^ (log2_minus4 + 4))
max_lsb _ = pos 0

-- pic_order_cnt_lsb (7.4.3)
abbrev pub lsb_of : CodedOrder → ℤ
lsb_of (Type0 lsb bottom) = pos lsb
lsb_of _ = pos 0

-- delta_pic_order_cnt_bottom (7.4.3)
abbrev pub delta_bottom : CodedOrder → ℤ
delta_bottom (Type0 lsb bottom) = bottom
delta_bottom _ = pos 0

-- PicOrderCntMsb (8.2.1.1)
abbrev pub msb_of : (max : ℤ) → Previous → (lsb : ℤ) → ℤ
msb_of max previous lsb =
    if int_lt lsb previous.lsb && int_le max (pos 2 *ℤ (previous.lsb -ℤ lsb))
    then previous.msb +ℤ max
    else (if int_lt previous.lsb lsb && int_lt max (pos 2 *ℤ (lsb -ℤ previous.lsb))
    then previous.msb -ℤ max
    else previous.msb)

-- TopFieldOrderCnt and BottomFieldOrderCnt of a frame (8.2.1.1)
abbrev pub counts_0 : Sps → Header → Previous → Counts
counts_0 sps h previous =
    let top = msb_of (max_lsb sps.order_count) previous (lsb_of h.order) +ℤ lsb_of h.order in
    record { top = top; bottom = top +ℤ delta_bottom h.order }

-- prevPicOrderCntMsb and prevPicOrderCntLsb as a reference picture leaves them to the
-- pictures after it (8.2.1.1)
abbrev pub previous_from : Sps → Header → Previous → Previous
previous_from sps h previous =
    if has_operation_5 h then record {
      msb = pos 0;
      lsb = (lowered_by_operation_5 (counts_0 sps h previous)).top;
    }
    else record {
      msb = msb_of (max_lsb sps.order_count) previous (lsb_of h.order);
      lsb = lsb_of h.order;
    }

-- Those of the last reference picture of the history, non-existing frames excepted (8.2.1.1).
abbrev pub previous_of : List Past → Previous
previous_of [] = no_previous
previous_of (missing sps frame_num ∷ older) = previous_of older
previous_of (picture sps h ∷ older) =
    elim (is_reference h) [
      | false ↦ previous_of older
      | true ↦
          elim (is_idr h) [
            | true ↦ previous_from sps h no_previous
            | false ↦ previous_from sps h (previous_of older)
          ]
    ]

-- ---- types 1 and 2 (8.2.1.2, 8.2.1.3)

-- the sequence parameter set of an entry, which gives MaxFrameNum (7.4.2.1.1)
abbrev past_sps : Past → Sps
past_sps (picture sps h) = sps
past_sps (missing sps frame_num) = sps

-- its frame_num (7.4.3)
abbrev pub past_number : Past → ℕ
past_number (picture sps h) = h.frame_num
past_number (missing sps frame_num) = frame_num

-- it is an IDR picture (7.4.1)
abbrev past_is_idr : Past → Bool
past_is_idr (picture sps h) = is_idr h
past_is_idr (missing sps frame_num) = false

-- it has memory_management_control_operation 5, after which FrameNumOffset and frame_num
-- count as 0 (8.2.1.2, 8.2.1.3)
abbrev pub resets_order_counts : Past → Bool
resets_order_counts (picture sps h) = has_operation_5 h
resets_order_counts (missing sps frame_num) = false

-- FrameNumOffset after an entry whose own is `offset`: one MaxFrameNum more where its frame_num is
-- the greater (8.2.1.2, 8.2.1.3)
abbrev offset_after : (offset : ℕ) → (older newer : Past) → ℕ
offset_after offset older newer =
    if resets_order_counts older then 0
    else (if nat_lt (past_number newer) (past_number older)
    then offset + max_frame_num (past_sps newer) else offset)

-- FrameNumOffset of the newest entry: 0 of an IDR picture (8.2.1.2, 8.2.1.3)
abbrev pub frame_num_offset : List Past → ℕ
frame_num_offset [] = 0
frame_num_offset (newest ∷ []) = 0
frame_num_offset (newest ∷ older ∷ others) =
    elim (past_is_idr newest) [
      | true ↦ 0
      | false ↦ offset_after (frame_num_offset (older ∷ others)) older newest
    ]

-- the sum of a list; of a whole cycle ExpectedDeltaPerPicOrderCntCycle (7.4.2.1.1)
abbrev pub sum_ℤ : List ℤ → ℤ
sum_ℤ [] = pos 0
sum_ℤ (x ∷ xs) = x +ℤ sum_ℤ xs

-- absFrameNum, from FrameNumOffset + frame_num (8.2.1.2)
abbrev pub abs_frame_num : (number : ℕ) → (cycle : List ℤ) → (reference : Bool) → ℕ
abs_frame_num number [] reference = 0
abs_frame_num number (x ∷ cycle) true = number
abs_frame_num number (x ∷ cycle) false = number - 1

-- expectedPicOrderCnt without offset_for_non_ref_pic (8.2.1.2)
abbrev pub expected_order_count : (abs : ℕ) → (cycle : List ℤ) → ℤ
expected_order_count zero cycle = pos 0
expected_order_count (suc n) [] = pos 0
expected_order_count (suc n) (x ∷ xs) =
    pos (n / length (x ∷ xs)) *ℤ sum_ℤ (x ∷ xs) +ℤ sum_ℤ (take (n % length (x ∷ xs) + 1) (x ∷ xs))

-- delta_pic_order_cnt[ 0 ] (7.4.3)
abbrev pub delta_0 : CodedOrder → ℤ
delta_0 (Type1 a b) = a
delta_0 _ = pos 0

-- delta_pic_order_cnt[ 1 ] (7.4.3)
abbrev pub delta_1 : CodedOrder → ℤ
delta_1 (Type1 a b) = b
delta_1 _ = pos 0

-- TopFieldOrderCnt and BottomFieldOrderCnt of a frame at type 1 (8.2.1.2)
abbrev pub counts_1 : (non_ref top_to_bottom : ℤ) → (cycle : List ℤ) → Header → (number : ℕ) →
    Counts
counts_1 non_ref top_to_bottom cycle h number =
    let expected_delta = expected_order_count (abs_frame_num number cycle (is_reference h)) cycle in
    let top = (expected_delta +ℤ (if is_reference h then pos 0 else non_ref)) +ℤ delta_0 h.order in
    record { top = top; bottom = (top +ℤ top_to_bottom) +ℤ delta_1 h.order }

-- TopFieldOrderCnt and BottomFieldOrderCnt of a frame at type 2: tempPicOrderCnt (8.2.1.3)
abbrev pub counts_2 : Header → (number : ℕ) → Counts
counts_2 h number =
    let count = if is_idr h then pos 0
    else (if is_reference h then pos (2 * number) else pos (2 * number) -ℤ pos 1) in
    record { top = count; bottom = count }

-- ---- all types (8.2.1)

-- prevPicOrderCntMsb and prevPicOrderCntLsb as the picture with this header takes them: 0
-- for an IDR picture (8.2.1.1)
abbrev pub previous_for : Header → Previous → Previous
previous_for h previous = elim (is_idr h) [ true ↦ no_previous | false ↦ previous ]

-- Of the picture with this header, before any lowering: from what the last reference picture
-- leaves, and from FrameNumOffset + frame_num (8.2.1).
abbrev pub counts_by : OrderCount → Sps → Header → Previous → (number : ℕ) → Counts
counts_by (orders.Type0 log2_minus4) sps h previous number = counts_0 sps h previous
counts_by (orders.Type1 always_zero non_ref top_to_bottom cycle) sps h previous number =
    counts_1 non_ref top_to_bottom cycle h number
counts_by orders.Type2 sps h previous number = counts_2 h number

-- from -2^31 to 2^31 - 1 (8.2.1)
abbrev pub in_32_bits : ℤ → Bool
in_32_bits z = int_le (neg_ℤ (pos (2 ^ 31))) z && int_lt z (pos (2 ^ 31))

-- both counts are (8.2.1)
abbrev pub both_in_32_bits : Counts → Bool
both_in_32_bits c = in_32_bits c.top && in_32_bits c.bottom

-- FrameNumOffset + frame_num stays in 32 signed bits, where it is used (this decoder's rule)
abbrev pub number_in_range : OrderCount → (number : ℕ) → Bool
number_in_range (orders.Type0 log2_minus4) number = true
number_in_range _ number = nat_lt number (2 ^ 31)

-- the counts as they are answered: lowered where the picture has operation 5 (8.2.1)
abbrev pub final_counts : Header → Counts → Counts
final_counts h c = if has_operation_5 h then lowered_by_operation_5 c else c

-- both, before and after lowering, are in the range that 8.2.1 gives; else PocRange (this decoder's
-- rule)
abbrev pub in_range : Header → Counts → Result Counts Fault
in_range h c =
    if both_in_32_bits c && both_in_32_bits (final_counts h c) then Ok (final_counts h c)
    else Err faults.PocRange

-- the counts from what stands before the picture (8.2.1), or PocRange (this decoder's rule)
abbrev pub counts_from : Sps → Header → Previous → (number : ℕ) → Result Counts Fault
counts_from sps h previous number =
    if number_in_range sps.order_count number
    then in_range h (counts_by sps.order_count sps h previous number) else Err faults.PocRange

-- The counts of the picture with this header after the older entries (8.2.1), or PocRange.
abbrev pub order_counts : Sps → Header → (older : List Past) → Result Counts Fault
order_counts sps h older =
    counts_from sps h (previous_for h (previous_of older)) (frame_num_offset (picture sps h ∷ older)
    + h.frame_num)

-- What earlier pictures and missing frame numbers leave to the next picture (8.2.1): all that its
-- order counts ask of them.
use Rattle.std.specs.Prelude.{◌≡◌, ℕ, zero, suc, ◌+◌, ◌*◌, ◌/◌, ◌%◌, ◌^◌, min, ℤ, pos, neg_ℤ, ◌≤ℤ◌}
use Rattle.std.specs.Prelude.{true, false, nat_lt, if◌then◌else◌, List, [], ◌∷◌, Result, Ok, Err}
use Rattle.std.specs.Result.{is_ok}
use Rattle.avc_types.specs.declared.fault.Fault.{Fault}
use Rattle.avc_types.specs.declared.fault.Fault.TheVariants.{PocRange}
use Rattle.avc_params.specs.declared.sps.Sps.{Sps}
use Rattle.avc_params.specs.Limits.{max_frame_num}
use Rattle.avc_slice.specs.declared.header.Header.{Header}
use Rattle.avc_slice.specs.Header.{is_idr, is_reference, has_operation_5}
use Rattle.avc_poc.specs.declared.most_significant.Previous.{Previous}
use Rattle.avc_poc.specs.OrderCounts.{Counts, Past, missing, past_number, previous_of, no_previous}
use Rattle.avc_poc.specs.OrderCounts.{frame_num_offset, resets_order_counts, previous_for}
use Rattle.avc_poc.specs.OrderCounts.{previous_from, counts_from, counts_by, number_in_range}

-- What is kept between pictures.
pub record OrderCountState : Type 0 where
  -- prevPicOrderCntMsb and prevPicOrderCntLsb
  pub previous : Previous
  -- prevFrameNumOffset, held at 2^31: from there on no picture of type 1 or 2 has counts
  pub offset : ℕ
  -- prevFrameNum
  pub frame_num : ℕ

-- the offset, held at 2^31
abbrev pub saturated : ℕ → ℕ
saturated offset = min offset (2 ^ 31)

-- After operation 5 the offset and frame_num count as 0.
abbrev pub order_count_state : List Past → OrderCountState
order_count_state [] = record { previous = no_previous; offset = 0; frame_num = 0 }
order_count_state (newest ∷ older) = record {
  previous = previous_of (newest ∷ older);
  offset = if resets_order_counts newest then 0 else saturated (frame_num_offset (newest ∷ older));
  frame_num = if resets_order_counts newest then 0 else past_number newest;
}

-- ---- what the functions of this crate say of one another

-- FrameNumOffset: greater by MaxFrameNum where frame_num has begun anew (8.2.1.2)
abbrev pub next_offset : (offset before frame_num max : ℕ) → ℕ
next_offset offset before frame_num max =
    if nat_lt frame_num before then saturated (offset + max) else offset

-- TopFieldOrderCnt and BottomFieldOrderCnt
abbrev pub pair : Counts → ℤ × ℤ
pair c = (c.top, c.bottom)

-- the counts of such a pair
abbrev pub counts_of : ℤ × ℤ → Counts
counts_of p = record { top = p.0; bottom = p.1 }

-- top and bottom
abbrev pub count_pair : Result Counts Fault → Result (ℤ × ℤ) Fault
count_pair (Ok c) = Ok (pair c)
count_pair (Err f) = Err f

-- before any lowering
abbrev pub raw_counts : Sps → Header → Previous → (number : ℕ) → Result (ℤ × ℤ) Fault
raw_counts sps h previous number =
    if number_in_range sps.order_count number
    then Ok (pair (counts_by sps.order_count sps h previous number)) else Err PocRange

-- prevPicOrderCntMsb and prevPicOrderCntLsb after a picture, from those before it
abbrev pub previous_after : Sps → Header → Previous → Previous
previous_after sps h before =
    elim (is_reference h) [
      | false ↦ before
      | true ↦ previous_from sps h (previous_for h before)
    ]

-- FrameNumOffset of a picture
abbrev pub picture_offset : Sps → Header → OrderCountState → ℕ
picture_offset sps h s =
    elim (is_idr h) [
      | true ↦ 0
      | false ↦ next_offset s.offset s.frame_num h.frame_num (max_frame_num sps)
    ]

-- what a picture with this header leaves
abbrev pub after_picture : Sps → Header → OrderCountState → OrderCountState
after_picture sps h s = record {
  previous = previous_after sps h s.previous;
  offset = if has_operation_5 h then 0 else picture_offset sps h s;
  frame_num = if has_operation_5 h then 0 else h.frame_num;
}

-- the counts of a picture with this header, or PocRange (8.2.1)
abbrev pub counts_after : Sps → Header → OrderCountState → Result Counts Fault
counts_after sps h s =
    counts_from sps h (previous_for h s.previous) (picture_offset sps h s + h.frame_num)

-- no further from 0 than 2 to the power of this number of bits
pub record IsNear (bits : ℕ) (z : ℤ) : Type 0 where
  pub low : neg_ℤ (pos (2 ^ bits)) ≤ℤ z
  pub high : z ≤ℤ pos (2 ^ bits)

-- how far from 0 the kept count can be
pub record IsPrevious (p : Previous) : Type 0 where
  pub msb : IsNear 34 p.msb
  pub lsb : IsNear 33 p.lsb

-- With some FrameNumOffset + frame_num the picture has counts.
abbrev pub IsCounted : Sps → Header → Previous → Type 0
IsCounted sps h previous = (number : ℕ) × is_ok (counts_from sps h previous number) ≡ true

-- ---- gaps in frame_num (8.2.5.2)

-- the older entries, and n missing numbers from `first` on, modulo MaxFrameNum
abbrev pub with_missing_from : Sps → (first n : ℕ) → (older : List Past) → List Past
with_missing_from sps first zero older = older
with_missing_from sps first (suc n) older =
    with_missing_from sps (first + 1) n (missing sps (first % max_frame_num sps) ∷ older)

-- What one missing number and n more leave, where the first is below MaxFrameNum: FrameNumOffset is
-- greater by MaxFrameNum each time that they have come round (8.2.1.2, 8.2.1.3). Nothing else
-- changes but prevFrameNum.
abbrev pub after_missing_from : (max first n : ℕ) → OrderCountState → OrderCountState
after_missing_from max first n s = record {
  previous = s.previous;
  offset = saturated (next_offset s.offset s.frame_num first max + (first + n) / max * max);
  frame_num = (first + n) % max;
}

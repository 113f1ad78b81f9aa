-- How a picture is opened: the frame numbers that are missing before it, and its order count
-- (7.4.3, 8.2.1, 8.2.5.2).
use Rattle.std.specs.Prelude.{◌≡◌, ℕ, ◌<◌, length, true, false, List, [], ◌∷◌, Option, Some, Result}
use Rattle.std.specs.Prelude.{Ok, Err}
use Rattle.avc_types.specs.declared.fault.Fault.{Fault}
use Rattle.avc_types.specs.declared.fault.Fault.TheVariants as faults
use Rattle.avc_types.specs.declared.picture.Picture.{Picture}
use Rattle.avc_types.specs.References.{result_map}
use Rattle.avc_params.specs.declared.sps.Sps.{Sps}
use Rattle.avc_slice.specs.declared.header.Header.{Header}
use Rattle.avc_slice.specs.Header.{is_idr}
use Rattle.avc_poc.specs.OrderCountState.{OrderCountState, order_count_state}
use Rattle.avc_poc.specs.OrderCounts.{order_counts, picture}
use Rattle.avc_marking.specs.Marks.{missing_frame_nums, prev_ref_frame_num}
use Rattle.avc_decoder_core.specs.History.{History, earlier_in_sequence, missing_frame, is_same_sps}
use Rattle.avc_decoder_core.specs.History.{marking_entries, order_or_0, pasts, picture_entry}
use Rattle.avc_decoder_core.specs.History.{sequence_sps}
use Rattle.avc_decoder_core.specs.History.{history_at_opening, with_missing, with_order_counts}
use Rattle.avc_decoder_core.specs.declared.opening.Opening.{Opening}
use Rattle.avc_decoder_core.specs.FrameBufferState.{FrameBufferState}
use Rattle.avc_decoder_core.specs.Pictures.{output_pictures}

-- The frame numbers that are missing before a picture of this header that is no IDR picture
-- (7.4.3), or the first of ParameterSetChanged, FrameNumGap and FrameNumRepeated.
abbrev pub missing_before : Sps → Header → History → Result (List ℕ) Fault
missing_before sps h history =
    elim (is_same_sps (sequence_sps history) sps) [
      | false ↦ Err faults.ParameterSetChanged
      | true ↦ missing_frame_nums (prev_ref_frame_num (marking_entries history))
          sps.gaps_in_frame_num_value_allowed_flag (picture_entry sps h)
    ]

-- the history with an entry for each of these missing numbers
abbrev pub with_all_missing : Sps → List ℕ → History → History
with_all_missing sps [] history = history
with_all_missing sps (n ∷ numbers) history =
    with_all_missing sps numbers (missing_frame sps n ∷ history)

-- what opening finds on this history, with these missing numbers: PicOrderCnt, and what order
-- counts keep once the picture has come
abbrev pub opening_on : Sps → Header → (missing : List ℕ) → History → Opening
opening_on sps h missing history = record {
  missing = missing;
  pic_order_cnt = order_or_0 (order_counts sps h (pasts history));
  poc = order_count_state (picture sps h ∷ pasts history);
}

-- What opening a picture finds: the missing numbers, the history with them, and the picture's order
-- count on it. An IDR picture is counted alone.
pub record IsOpening (sps : Sps) (h : Header) (history : History) (o : Opening) : Type 0 where
  pub full : History
  pub opens : history_at_opening sps h history ≡ Ok full
  pub missing : with_missing sps o.missing history ≡ Ok full
  pub same : 0 < length o.missing → is_same_sps (sequence_sps history) sps ≡ true
  pub counted : o ≡ opening_on sps h o.missing (earlier_in_sequence h full)

-- that, or the first fault
abbrev pub Finds : Sps → Header → History → Result Opening Fault → Type 0
Finds sps h history (Ok o) = IsOpening sps h history o
Finds sps h history (Err f) = history_at_opening sps h history ≡ Err f

-- the order counts of the history, or the fault
abbrev pub counts_over : Result History Fault → Result OrderCountState Fault
counts_over full = result_map (λ history. order_count_state (pasts history)) full

-- ---- what the functions say of order counts, whatever the history is that they stand for

-- These missing numbers were counted.
abbrev pub CountsMissing : Sps → List ℕ → (old new : OrderCountState) → Type 0
CountsMissing sps numbers old new =
    (history : History) → old ≡ order_count_state (pasts history) →
    new ≡ order_count_state (pasts (with_all_missing sps numbers history))

-- The next picture was counted, where it has order counts.
abbrev pub CountsPicture : Sps → Header → (missing : List ℕ) → (old : OrderCountState) →
    Result Opening Fault → Type 0
CountsPicture sps h missing old counted =
    (history : History) → old ≡ order_count_state (pasts history)
    → counted ≡ result_map (opening_on sps h missing) (with_order_counts sps h history)

-- ---- the frame buffer

-- the parameter set of the sequence with this picture: that of the last IDR picture (7.4.1.2.1)
abbrev pub set_with : Sps → Header → (before : Option Sps) → Option Sps
set_with sps h before = elim (is_idr h) [ true ↦ Some sps | false ↦ before ]

-- The frame buffer has become that of the history `full`, and these pictures go out.
pub record StoresAll (old : FrameBufferState) (full : Result History Fault) (out : List Picture)
    (new : FrameBufferState) : Type 0 where
  pub going : new.failed ≡ false
  pub history : full ≡ Ok new.history
  pub output : new.output ≡ old.output
  pub pictures : out ≡ output_pictures old.output old.history new.history

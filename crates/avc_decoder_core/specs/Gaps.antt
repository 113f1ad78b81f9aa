-- A long gap in frame_num (8.2.5.2): once the sliding window is full of frames that are not needed
-- for output, further missing numbers let nothing go out, and only the last of them leave frames.
use Rattle.std.specs.Prelude.{◌≡◌, ℕ, zero, suc, ◌+◌, ◌%◌, ◌-◌, ◌<◌, ◌≤◌, ◌==◌, ◌&&◌, nat_lt}
use Rattle.std.specs.Prelude.{if◌then◌else◌, Bool, true, false, not, List, [], ◌∷◌, ◌++◌, length}
use Rattle.std.specs.Prelude.{map, drop, slice_get, Option, Some, None, Ok}
use Rattle.avc_types.specs.declared.references.Mark.{Mark}
use Rattle.avc_types.specs.declared.references.Mark.TheVariants.{Short, Long}
use Rattle.avc_types.specs.References.{Reference}
use Rattle.avc_params.specs.Limits.{dpb_size, max_frame_num, reference_limit}
use Rattle.avc_params.specs.declared.sps.Sps.{Sps}
use Rattle.avc_marking.specs.Laws.{CountFrom, IsFullWindow}
use Rattle.avc_marking.specs.Marks.{frame_nums_from}
use Rattle.avc_dpb.specs.declared.output.Output.{Output}
use Rattle.avc_dpb.specs.Bumping.{Stored, needed_frames}
use Rattle.avc_dpb.specs.Contents.{Contents, is_needed_for_output_at}
use Rattle.avc_dpb.specs.Laws.{missing_stored}
use Rattle.avc_plane.specs.declared.frame.Frame.{Frame}
use Rattle.avc_decoder_core.specs.FrameBufferFields.{IsStateAfter}
use Rattle.avc_decoder_core.specs.FrameBufferState.{FrameBufferState}
use Rattle.avc_decoder_core.specs.History.{History, buffer_of, marks_of}
use Rattle.avc_decoder_core.specs.Opening.{with_all_missing}
use Rattle.avc_decoder_core.specs.Pictures.{output_pictures}

-- the frame for a missing number, with this decoding index (8.2.5.2)
abbrev pub missing_reference : (frame_num index : ℕ) → Reference
missing_reference frame_num index = record {
  decoding_index = index;
  frame_num = frame_num;
  existing = false;
  mark = Short;
}

-- those for n missing numbers from `number` on, modulo max
abbrev pub missing_references : (max number index n : ℕ) → List Reference
missing_references max number index zero = []
missing_references max number index (suc n) =
    missing_reference (number % max) index ∷ missing_references max (number + 1) (index + 1) n

-- n of them in the buffer (C.4.2)
abbrev pub stored_missing : (index n : ℕ) → List Stored
stored_missing index zero = []
stored_missing index (suc n) = missing_stored index ∷ stored_missing (index + 1) n

-- The buffer's frames are these reference frames, and none is needed for output.
abbrev pub AreNotNeeded : List Reference → List Stored → Type 0
AreNotNeeded [] [] = Unit {0}
AreNotNeeded [] (s ∷ frames) = ⊥
AreNotNeeded (r ∷ rs) [] = ⊥
AreNotNeeded (r ∷ rs) (s ∷ frames) =
    (s.decoding_index ≡ r.decoding_index) × (s.needed_for_output ≡ false) × AreNotNeeded rs frames

-- each has a lower decoding index than this
abbrev pub AreBefore : (index : ℕ) → List Stored → Type 0
AreBefore index [] = Unit {0}
AreBefore index (s ∷ frames) = (s.decoding_index < index) × AreBefore index frames

-- What stays through a gap: the long-term frames and MaxLongTermFrameIdx, the buffer's frames that
-- are needed for output or long-term, and what has gone out.
pub record Staying : Type 0 where
  pub longs : List Reference
  pub max_long_term_frame_idx : Option ℕ
  pub frames : List Stored
  pub out : List ℕ

-- Before the missing number `number` the sliding window is full, and its short-term frames, which
-- are the last of the buffer, are not held, and have rising numbers from `low` on.
pub record IsSettled (output : Output) (sps : Sps) (h : History) (low number index : ℕ)
    (stays : Staying) (shorts : List Reference)
    (lasts : List Stored) : Type 0 where
  pub marked : marks_of h ≡ Ok (record {
    references = stays.longs ++ shorts;
    max_long_term_frame_idx = stays.max_long_term_frame_idx;
  })
  pub buffer : buffer_of output h ≡ record { frames = stays.frames ++ lasts; out = stays.out }
  pub window : IsFullWindow index (length h) (reference_limit sps) stays.longs shorts
  pub counts : CountFrom (max_frame_num sps) low number shorts
  pub not_needed : AreNotNeeded shorts lasts
  pub needed : needed_frames (map (λ r. r.decoding_index) stays.longs) stays.frames ≡ stays.frames
  pub before : AreBefore index stays.frames
  pub room : length stays.frames + length lasts ≤ dpb_size sps

-- These numbers can be missing after the history and leave only the frames of the last of them: its
-- window is settled, and they come to less than MaxFrameNum with the numbers of its frames.
pub record IsLongGap (output : Output) (sps : Sps) (h : History) (numbers : List ℕ) : Type 0 where
  pub low : ℕ
  pub number : ℕ
  pub index : ℕ
  pub stays : Staying
  pub shorts : List Reference
  pub lasts : List Stored
  pub settled : IsSettled output sps h low number index stays shorts lasts
  pub some_short : 0 < length shorts
  pub few_shorts : length shorts ≤ 16
  pub numbers_are : numbers ≡ frame_nums_from (max_frame_num sps) number (length numbers)
  pub near : number + length numbers ≤ low + max_frame_num sps

-- ---- the test for it

-- a frame with this mark that stays through a gap: it is needed for output or long-term
abbrev pub is_staying : (needed_for_output : Bool) → Option Mark → Bool
is_staying needed_for_output None = needed_for_output
is_staying needed_for_output (Some Short) = false
is_staying needed_for_output (Some (Long index)) = true

-- a short-term frame that is not needed for output
abbrev pub is_leaving : (needed_for_output : Bool) → Option Mark → Bool
is_leaving needed_for_output None = false
is_leaving needed_for_output (Some Short) = not needed_for_output
is_leaving needed_for_output (Some (Long index)) = false

-- The frame at a place of the buffer stays if that is before `first`; from there on it leaves, and
-- numbers go on from `low`.
abbrev pub has_its_place : (first low max place : ℕ) → (needed_for_output : Bool) → Frame 16 → Bool
has_its_place first low max place needed_for_output f =
    if nat_lt place first then is_staying needed_for_output f.mark
    else is_leaving needed_for_output f.mark && f.frame_num == (low + (place - first)) % max

-- the frame that stands there does
abbrev pub settles_at : Contents → (first low max place : ℕ) → Bool
settles_at c first low max place =
    elim (slice_get c.frames place) [
      | None ↦ false
      | Some f ↦ has_its_place first low max place (is_needed_for_output_at c.slots place) f
    ]

-- ---- the law

-- What is kept after the shorter history is what is kept after the longer one.
abbrev pub KeepsTheSame : Output → (shorter longer : History) → Type 0
KeepsTheSame output shorter longer =
    (c : Contents) (idx : Option ℕ) (previous : ℕ) → c.output ≡ output →
    IsStateAfter shorter c idx previous → IsStateAfter longer c idx previous

-- It is, and neither lets a picture out.
pub record LeavesItsEnd (output : Output) (before shorter longer : History) : Type 0 where
  pub same_state : KeepsTheSame output shorter longer
  pub nothing_out : output_pictures output before longer ≡ []
  pub nothing_out_shorter : output_pictures output before shorter ≡ []

-- Of a long gap only the last 16 numbers matter.
abbrev pub LongGapsLeaveTheirEnd : Type 0
LongGapsLeaveTheirEnd =
    (output : Output) (sps : Sps) (h : History) (numbers : List ℕ) (skipped : ℕ) →
    IsLongGap output sps h numbers → skipped + 16 ≤ length numbers →
    LeavesItsEnd output h (with_all_missing sps (drop skipped numbers) h)
    (with_all_missing sps numbers h)

-- the frame buffer, which stands for another history
abbrev pub with_history : History → FrameBufferState → FrameBufferState
with_history history b = record {
  history = history;
  frames = b.frames;
  output = b.output;
  failed = b.failed;
}

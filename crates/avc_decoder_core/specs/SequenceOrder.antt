-- How far the pictures of a sequence are reordered for output (E.2.1), and what follows for early
-- output.
use Rattle.std.specs.Prelude.{◌≡◌, ℕ, ◌≤◌, true, false, IfSome, List, [], ◌∷◌, length}
use Rattle.std.specs.Result.{is_ok}
use Rattle.avc_dpb.specs.declared.output.Output.{Output}
use Rattle.avc_dpb.specs.declared.output.Output.TheVariants.{Full, Early}
use Rattle.avc_dpb.specs.Reordering.{reordered, whole_output}
use Rattle.avc_params.specs.declared.sps.Sps.{Sps}
use Rattle.avc_slice.specs.Header.{is_idr, has_idr_marking}
use Rattle.avc_slice.specs.declared.header.Header.{Header}
use Rattle.avc_decoder_core.specs.History.{decoded_picture, missing_frame, History, arrivals}
use Rattle.avc_decoder_core.specs.History.{is_same_sps, marks_of, reorder_limit, sequence_sps}

-- the decoding indices of all pictures of a history, in the order in which they go out in the end
-- (C.4)
abbrev pub output_order : Output → History → List ℕ
output_order output h = whole_output output (arrivals h)

-- Of the pictures of the sequence at most max_num_reorder_frames are decoded before the newest
-- entry and go out after it, where pictures go out in this order (E.2.1).
abbrev pub NewestIsWithin : (order : List ℕ) → History → Type 0
NewestIsWithin order [] = Unit {0}
NewestIsWithin order (decoded_picture sps h info planes ∷ older) =
    IfSome (reorder_limit sps) (λ most. reordered 0 (length older) order ≤ most)
NewestIsWithin order (missing_frame sps frame_num ∷ older) = Unit {0}

-- the same of each entry
abbrev pub EachIsWithin : (order : List ℕ) → History → Type 0
EachIsWithin order [] = Unit {0}
EachIsWithin order (e ∷ older) = NewestIsWithin order (e ∷ older) × EachIsWithin order older

-- No picture has more pictures of its sequence that are decoded before it and go out after it than
-- max_num_reorder_frames of its parameter set says, where that is given (E.2.1).
abbrev pub RespectsReorderNumbers : History → Type 0
RespectsReorderNumbers h = EachIsWithin (output_order Full h) h

-- A picture with this header could come to the history: an IDR picture has the marking of one
-- (7.3.3.3) and begins the sequence (7.4.1.2.2), another picture has the parameter set of its
-- sequence (7.4.1.2.1).
pub record CanCome (sps : Sps) (h : Header) (older : History) : Type 0 where
  pub idr : is_idr h ≡ true → has_idr_marking h ≡ true
  pub first : is_idr h ≡ true → older ≡ []
  pub same : is_idr h ≡ false → is_same_sps (sequence_sps older) sps ≡ true

-- so could each of its pictures
abbrev pub EachCanCome : History → Type 0
EachCanCome [] = Unit {0}
EachCanCome (decoded_picture sps h info planes ∷ older) = CanCome sps h older × EachCanCome older
EachCanCome (missing_frame sps frame_num ∷ older) = EachCanCome older

-- Where the reordering of pictures stays within its limits, early output hands them out in the
-- order of full output.
abbrev pub EarlyOutputKeepsHistories : Type 0
EarlyOutputKeepsHistories =
    (h : History) → EachCanCome h → is_ok (marks_of h) ≡ true → RespectsReorderNumbers h →
    output_order Early h ≡ output_order Full h

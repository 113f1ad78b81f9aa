-- What a sequence's fields stand for.
use Rattle.std.specs.Prelude.{◌≡◌, false, List, ◌∷◌, Option, Some, None, Ok}
use Rattle.std.specs.Option.{option_map}
use Rattle.avc_params.specs.declared.sps.Sps.{Sps}
use Rattle.avc_params.specs.Within.{IsSps}
use Rattle.avc_poc.specs.OrderCountState.{OrderCountState, order_count_state}
use Rattle.avc_poc.specs.OrderCounts.{Past, order_counts, picture}
use Rattle.avc_decoder_core.specs.History.{History, earlier_in_sequence, history_at_opening}
use Rattle.avc_decoder_core.specs.History.{order_or_0, pasts, sequence_sps}
use Rattle.avc_decoder_core.specs.FrameBufferFields.{history_of}
use Rattle.avc_decoder_core.specs.FrameBufferState.{FrameBufferState, CanFollow}
use Rattle.avc_decoder_core.specs.SequenceState.{OpenPictureStart, SequenceState}
use Rattle.avc_decoder_core.specs.declared.opening.OpenPicture.{OpenPicture}
use Rattle.avc_decoder_core.specs.declared.sequence.Sequence.TheInside.{Inside}

-- the parameter set of the open picture, and its first header and unit
abbrev pub open_picture_of : OpenPicture → OpenPictureStart
open_picture_of o = record { sps = o.sps; header = o.header; unit = o.unit }

-- what its fields say: the history of closed pictures, the open picture, and the frames held
abbrev pub sequence_state : Inside → SequenceState
sequence_state s = record {
  history = history_of s.closed.items;
  open_picture = option_map open_picture_of s.open_picture;
  frames = s.buffer.frames;
  output = s.buffer.output;
  failed = s.failed;
}

-- The open picture stands on the history, with the numbers that are missing before it.
pub record StandsOn (closed history : History) (o : OpenPicture) : Type 0 where
  pub limits : IsSps o.sps
  pub opened : history_at_opening o.sps o.header closed ≡ Ok history
  pub follows : CanFollow history o.sps o.header
  pub pic_order_cnt : o.pic_order_cnt
      ≡ order_or_0 (order_counts o.sps o.header (pasts (earlier_in_sequence o.header history)))

-- The history is the closed one, with the open picture's missing numbers where a picture is open.
abbrev pub StandsOnIf : (closed history : History) → Option OpenPicture → Type 0
StandsOnIf closed history None = closed ≡ history
StandsOnIf closed history (Some o) = StandsOn closed history o

-- the pictures of the sequence whose order counts were given: with the open one
abbrev pub counted : History → Option OpenPicture → List Past
counted history None = pasts history
counted history (Some o) = picture o.sps o.header ∷ pasts (earlier_in_sequence o.header history)

-- What is kept is what the histories leave: order counts, and the parameter set of the sequence.
pub record IsStateOf (closed : History) (open_picture : Option OpenPicture)
    (buffer : FrameBufferState) (poc : OrderCountState)
    (sps : Option Sps) : Type 0 where
  pub going : buffer.failed ≡ false
  pub stands : StandsOnIf closed buffer.history open_picture
  pub counts : poc ≡ order_count_state (counted buffer.history open_picture)
  pub set : sps ≡ sequence_sps buffer.history

-- the same of a sequence's fields, unless memory was refused
abbrev pub IsSequenceState : Inside → Type 0
IsSequenceState s =
    s.failed ≡ false → IsStateOf (history_of s.closed.items) s.open_picture s.buffer s.poc s.sps

-- A stream that ends behind a macroblock, and a decoder that has it.
use Rattle.std.specs.Prelude.{◌≡◌, ℕ, ◌≤◌, Bool, true, false, List, [], ◌∷◌, ◌++◌, length, flat_map}
use Rattle.std.specs.Prelude.{take, slice_get, Option, Some, None}
use Rattle.std.specs.Io.KnownBytes.{Consumes, IsAtEnd}
use Rattle.avc_annexb.specs.SplitterState.{SplitterState}
use Rattle.avc_annexb.specs.Units.{units}
use Rattle.avc_annexb.specs.Written.{start_code, written}
use Rattle.avc_annexb.specs.declared.unit.Unit.{Unit}
use Rattle.avc_console.specs.Reading.{max_unit, HasRead}
use Rattle.avc_decoder.specs.Machine.{Machine, open_picture}
use Rattle.avc_decoder.specs.FirstFault.{OpenPicture}
use Rattle.avc_decoder.specs.OpenPictures.{IsDecodedBy}
use Rattle.avc_dpb.specs.declared.output.Output.TheVariants.{Full}
use Rattle.avc_difference.specs.declared.origin.SamplePair.{SamplePair}
use Rattle.avc_reading.specs.declared.position.MacroblockPosition.{MacroblockPosition}
use Rattle.avc_picture.specs.Decoding.{Decoding}
use Rattle.avc_plane.specs.declared.frame.Frame.{Frame}
use Rattle.avc_replay.specs.Cutting.{IsCutUnit}
use Rattle.avc_replay.specs.Tracing.{IsExplained}
use Rattle.avc_stages.specs.declared.text.Explained.{Explained}

-- start_code_prefix_one_3bytes (B.1.1): the unit before it has ended
abbrev pub prefix : List ℕ
prefix = 0 ∷ 0 ∷ 1 ∷ []

-- a unit's bytes behind the first, where it is not too long
abbrev pub body_of : Option (List ℕ) → List ℕ
body_of None = []
body_of (Some body) = body

-- A decoder was fed these bytes, and no end.
pub record IsFed (bytes : List ℕ) (m : Machine) : Type 0 where
  pub bytes_are : m.bytes ≡ bytes
  pub open_end : m.ended ≡ false
  pub mode : m.output ≡ Full

-- The same with more bytes.
pub record IsFedMore (old : Machine) (more : List ℕ) (new : Machine) : Type 0 where
  pub bytes_are : new.bytes ≡ old.bytes ++ more
  pub ended_is : new.ended ≡ old.ended
  pub mode : new.output ≡ old.output

-- The units of a stream that were taken were fed, as they are written.
pub record IsFedTaken (s : SplitterState) (m : Machine) : Type 0 where
  pub going : s.failed ≡ false
  pub few : s.taken ≤ length (units max_unit s.bytes s.ended)
  pub fed : IsFed (flat_map written (take s.taken (units max_unit s.bytes s.ended))) m

-- The units of a stream before the one with this number were fed.
pub record IsMet (number : ℕ) (s : SplitterState) (unit : Unit) (m : Machine) : Type 0 where
  pub place : ℕ
  pub there : slice_get (units max_unit s.bytes s.ended) place ≡ Some unit
  pub number_is : unit.index ≡ number
  pub fed : IsFed (flat_map written (take place (units max_unit s.bytes s.ended))) m

-- It was met, or all units that wait were fed.
abbrev pub Meets : (number : ℕ) → SplitterState → Option Unit → Machine → Type 0
Meets number s None m = IsFedTaken s m
Meets number s (Some unit) m = IsMet number s unit m

-- The decoder has been fed the units of a stream before that of a macroblock's slice, that unit cut
-- behind the macroblock (7.3.4), and the beginning of another, so that it has ended.
pub record IsCutAt (at : MacroblockPosition) (us : List Unit) (m : Machine) : Type 0 where
  pub place : ℕ
  pub unit : Unit
  pub body : List ℕ
  pub cut : List ℕ
  pub there : slice_get us place ≡ Some unit
  pub number_is : unit.index ≡ at.unit
  pub body_is : unit.body ≡ Some body
  pub is_cut : IsCutUnit unit.header body at.kept_bits at.run cut
  pub fed : IsFed (flat_map written (take place us) ++ start_code ++ cut ++ prefix) m

-- The same of a stream of which these bytes were read.
pub record IsCutFrom (at : MacroblockPosition) (unread left : Option (List ℕ))
    (m : Machine) : Type 0 where
  pub bytes : List ℕ
  pub all : Bool
  pub read : HasRead unread left bytes all
  pub cut : IsCutAt at (units max_unit bytes all) m

-- What is told of a macroblock by the open picture of a stream that ends behind it.
pub record IsExplainedBy (at : MacroblockPosition) (address : ℕ) (pairs : List SamplePair)
    (unread left : Option (List ℕ)) (e : Explained) : Type 0 where
  pub machine : Machine
  pub picture : OpenPicture
  pub decoding : Decoding 16
  pub frames : List (Frame 16)
  pub cut : IsCutFrom at unread left machine
  pub opened : open_picture max_unit machine ≡ Some picture
  pub decoded : IsDecodedBy picture decoding frames
  pub explained : IsExplained address pairs decoding frames e

-- ---- steps of it: these words are the crate's own

-- More of a stream was read, or its end.
pub record ReadsOn (old_left new_left : Option (List ℕ)) (old : SplitterState) (ended : Bool)
    (new : SplitterState) : Type 0 where
  pub more : List ℕ
  pub consumed : Consumes old_left new_left more
  pub is : new ≡ record old { bytes = old.bytes ++ more; ended = ended }
  pub last : ended ≡ true → IsAtEnd new_left

-- The unit was fed, cut behind a macroblock, and the start of another.
pub record CutsUnit (at : MacroblockPosition) (unit : Unit) (old new : Machine) : Type 0 where
  pub body : List ℕ
  pub cut : List ℕ
  pub body_is : unit.body ≡ Some body
  pub is_cut : IsCutUnit unit.header body at.kept_bits at.run cut
  pub fed : IsFedMore old (start_code ++ cut ++ prefix) new

-- A stream is read, and its units that were taken were fed.
pub record IsReplaying (unread left : Option (List ℕ)) (ended : Bool) (s : SplitterState)
    (m : Machine) : Type 0 where
  pub read : HasRead unread left s.bytes s.ended
  pub ended_is : s.ended ≡ ended
  pub fed : IsFedTaken s m

-- The search for a stream's frame rate.
use Rattle.std.specs.Prelude.{◌≡◌, ◌⊎◌, ℕ, ◌<◌, Bool, true, false, ◌||◌, if◌then◌else◌, List, []}
use Rattle.std.specs.Prelude.{◌++◌, length, Option, Some, None, is_some, nat_le}
use Rattle.avc_tools.specs.Streams.{StreamSoFar}
use Rattle.avc_sequence.specs.Rates.{frame_rate}
use Rattle.avc_sequence.specs.Finding.{first_sequence as sequence_in}
use Rattle.avc_sequence.specs.declared.sequence_facts.SequenceFacts.{SequenceFacts}

-- What a search came to: the bytes that it has looked at, as long as it goes on, the frames in a
-- thousand seconds, once they are known, and whether memory was wanting.
pub record Search : Type 0 where
  pub searched : Option (List ℕ)
  pub found : Option ℕ
  pub failed : Bool

-- at the start of a stream
abbrev pub new_search : Search
new_search = record { searched = Some []; found = None; failed = false }

-- how many bytes are looked at
abbrev pub most : ℕ
most = 1048576

-- the frame rate that a sequence parameter set says
abbrev pub rate_of : Option SequenceFacts → Option ℕ
rate_of None = None
rate_of (Some s) = frame_rate s.timing

-- the sequence parameter set of the first slice whose end has been seen
abbrev pub first_sequence : (bytes : List ℕ) → Option SequenceFacts
first_sequence bytes = sequence_in bytes false

-- The search after these bytes: it is over once there is a slice, and after so many bytes.
abbrev pub looked : (bytes : List ℕ) → Search
looked bytes = record {
  searched = if is_some (first_sequence bytes) || nat_le most (length bytes) then None
      else Some bytes;
  found = rate_of (first_sequence bytes);
  failed = false;
}

-- over for want of memory
abbrev pub given_up : (found : Option ℕ) → Search
given_up found = record { searched = None; found = found; failed = true }

-- One that is over stays as it is. One that goes on takes the next bytes, or is given up.
abbrev pub Looks : (searched : Option (List ℕ)) → (piece : List ℕ) → (old new : Search) → Type 0
Looks None piece old new = new ≡ old
Looks (Some bytes) piece old new = (new ≡ looked (bytes ++ piece)) ⊎ (new ≡ given_up old.found)

-- ---- for the invariant

abbrev pub bytes_of : Option StreamSoFar → Option (List ℕ)
bytes_of None = None
bytes_of (Some s) = Some s.bytes

pub record IsGoingOn (s : StreamSoFar) (seen : ℕ) : Type 0 where
  pub going : s.failed ≡ false
  pub open_end : s.ended ≡ false
  pub seen_is : seen ≡ length s.bytes
  pub few : seen < most

abbrev pub IsSearching : Option StreamSoFar → (seen : ℕ) → Type 0
IsSearching None seen = Unit {0}
IsSearching (Some s) seen = IsGoingOn s seen

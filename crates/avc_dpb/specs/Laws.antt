-- Laws of the buffer: that what the definition puts out is what C.4 asks for. Each is proved as the
-- contract of a function of its name.
use Rattle.std.specs.Prelude.{◌≡◌, ℕ, ◌+◌, ◌≤◌, pos, ◌==◌, ◌≤ℤ◌, if◌then◌else◌, true, false, not}
use Rattle.std.specs.Prelude.{◌||◌, List, [], ◌∷◌, ◌++◌, length, map, count_by, slice_get, Option}
use Rattle.std.specs.Prelude.{Some, None}
use Rattle.std.specs.List.{filter, list_any}
use Rattle.avc_dpb.specs.declared.output.Output.{Output}
use Rattle.avc_dpb.specs.Bumping.{remain, Arrival, Stored, Buffer, needed_in_output_order}
use Rattle.avc_dpb.specs.Bumping.{is_reference_in, needed_frames, after_bumping}
use Rattle.avc_dpb.specs.Bumping.{after_bumping_while, with_all_output, after_prior_pictures}
use Rattle.avc_dpb.specs.Bumping.{after_frame, after_entry, buffer_after, new_output}
use Rattle.avc_dpb.specs.Contents.{IsRising}

-- ---- C.4.5.3

-- It is one of these frames, it is needed for output, and no frame needed for output has a smaller
-- order count; of equals it was decoded first.
pub record IsNextOutput (frames : List Stored) (s : Stored) : Type 0 where
  pub index : ℕ
  pub among : slice_get frames index ≡ Some s
  pub needed_for_output : s.needed_for_output ≡ true
  pub least : (k : ℕ) (t : Stored) → slice_get frames k ≡ Some t → t.needed_for_output ≡ true →
      s.pic_order_cnt ≤ℤ t.pic_order_cnt
  pub first : (k : ℕ) (t : Stored) → slice_get frames k ≡ Some t → t.needed_for_output ≡ true →
      t.pic_order_cnt ≡ s.pic_order_cnt → s.decoding_index ≤ t.decoding_index

-- Bumping puts out the picture that goes next; it does nothing only where no picture is needed for
-- output.
abbrev pub Bumps : (references : List ℕ) → Buffer → Option Stored → Type 0
Bumps references b (Some s) =
    IsNextOutput b.frames s × ((after_bumping references b).out ≡ b.out ++ s.decoding_index ∷ [])
Bumps references b None =
    ((k : ℕ) (t : Stored) → slice_get b.frames k ≡ Some t → t.needed_for_output ≡ true → ⊥) ×
    (after_bumping references b ≡ b)

-- Bumping puts out the picture needed for output that is first in output order (C.4.5.3).
abbrev pub LeastGoesOut : Type 0
LeastGoesOut =
    (references : List ℕ) (b : Buffer) (next : ℕ) → IsRising b.frames next
    → Bumps references b (slice_get (needed_in_output_order b.frames) 0)

-- ---- C.4.4: all pictures needed for output go out by bumping again and again

-- What goes out at once is what bumping puts out, until nothing is needed for output (C.4.4).
abbrev pub AllGoOutByBumping : Type 0
AllGoOutByBumping = (references : List ℕ) (b : Buffer) (next : ℕ) → IsRising b.frames next
    → (with_all_output b).out
    ≡ (after_bumping_while (λ _. true) references (count_by (λ s. s.needed_for_output) b.frames)
    b).out

-- They are those that are needed for output, in the order in which they go out.
abbrev pub AllHeldGoOut : Type 0
AllHeldGoOut =
    (b : Buffer) → new_output b (with_all_output b)
    ≡ map (λ s. s.decoding_index) (needed_in_output_order b.frames)

-- ---- over a history

-- The frames of the buffer stand in decoding order.
abbrev pub StandsInDecodingOrder : Type 0
StandsInDecodingOrder =
    (output : Output) (history : List Arrival) →
    IsRising (buffer_after output history).frames (length history)

-- What has gone out stays so.
abbrev pub OutOnlyGrows : Type 0
OutOnlyGrows = (output : Output) (index : ℕ) (a : Arrival) (b : Buffer)
    → (after_entry output index a b).out ≡ b.out ++ new_output b (after_entry output index a b)

-- What an entry puts out is what goes out before it, and then what goes out to make room and for
-- itself.
abbrev pub GoesOutInTurn : Type 0
GoesOutInTurn = (output : Output) (index : ℕ) (a : Arrival) (b : Buffer)
    → new_output b (after_entry output index a b)
    ≡ new_output b (after_prior_pictures a.prior_pictures b)
    ++ new_output (after_prior_pictures a.prior_pictures b) (after_entry output index a b)

-- no entry's buffer is larger
abbrev pub IsWithin : (most : ℕ) → List Arrival → Type 0
IsWithin most [] = Unit {0}
IsWithin most (a ∷ older) = (a.capacity ≤ most) × IsWithin most older

-- The buffer never holds more frames than the largest capacity of an entry.
abbrev pub HoldsAtMost : Type 0
HoldsAtMost =
    (output : Output) (most : ℕ) (history : List Arrival) → IsWithin most history →
    length (buffer_after output history).frames ≤ most

-- how often a decoding index stands among these
abbrev pub occurrences : (index : ℕ) → List ℕ → ℕ
occurrences index [] = 0
occurrences index (n ∷ indices) = (if n == index then 1 else 0) + occurrences index indices

-- the decoding indices of all pictures: of all entries but the non-existing frames
abbrev pub pictures : List Arrival → List ℕ
pictures [] = []
pictures (a ∷ older) = pictures older ++ (if a.existing then length older ∷ [] else [])

-- Each picture goes out once in the end, and nothing else goes out.
abbrev pub GoesOutOnce : Type 0
GoesOutOnce = (output : Output) (history : List Arrival) (index : ℕ)
    → occurrences index (with_all_output (buffer_after output history)).out
    ≡ occurrences index (pictures history)

-- ---- the frames that stay

-- the decoding indices of the pictures needed for output, in the order in which they go out
abbrev pub needed_in_order : Buffer → List ℕ
needed_in_order b = map (λ s. s.decoding_index) (needed_in_output_order b.frames)

-- A non-existing frame is not needed for output: what goes out to make room for it is what goes
-- first of those that are needed for output.
abbrev pub MissingFramesKeepTheOrder : Type 0
MissingFramesKeepTheOrder = (output : Output) (index : ℕ) (a : Arrival) (b : Buffer)
    → IsRising b.frames index → a.existing ≡ false → a.prior_pictures ≡ remain
    → needed_in_order b ≡ new_output b (after_entry output index a b)
    ++ needed_in_order (after_entry output index a b)

-- the decoding indices of the frames in the buffer that are among these reference frames
abbrev pub indices_of_references : (references : List ℕ) → Buffer → List ℕ
indices_of_references references b =
    map (λ s. s.decoding_index) (filter (is_reference_in references) b.frames)

-- The arriving frame is stored where bumping makes room for it, and the reference frames beside it
-- leave room for one more.
pub record HasRoom (a : Arrival) (b : Buffer) : Type 0 where
  pub stored : (a.is_reference || not a.existing) ≡ true
  pub room : count_by (is_reference_in a.references) b.frames + 1 ≤ a.capacity

-- Reference frames stay in the buffer; the arriving frame is the last of them if it is one.
abbrev pub ReferencesStay : Type 0
ReferencesStay = (output : Output) (index : ℕ) (a : Arrival) (b : Buffer)
    → IsRising b.frames index → (list_any (λ r. r == index) a.references ≡ true → HasRoom a b)
    → indices_of_references a.references (after_frame output index a b)
    ≡ indices_of_references a.references b
    ++ (if list_any (λ r. r == index) a.references then index ∷ [] else [])

-- ---- missing frame numbers

-- a non-existing frame, with the decoding indices of the reference frames once it is marked
-- (8.2.5.2)
abbrev pub missing_arrival : (capacity : ℕ) → (references : List ℕ) → Arrival
missing_arrival capacity references = record {
  pic_order_cnt = pos 0;
  existing = false;
  is_reference = true;
  prior_pictures = remain;
  capacity = capacity;
  max_num_reorder_frames = None;
  references = references;
}

-- that frame in the buffer (C.4.2)
abbrev pub missing_stored : (index : ℕ) → Stored
missing_stored index = record {
  decoding_index = index;
  pic_order_cnt = pos 0;
  needed_for_output = false;
}

-- Where the frames that are still needed leave room for it, a non-existing frame is stored, and
-- nothing goes out (C.4.2, C.4.5.3).
abbrev pub MissingFramesFindRoom : Type 0
MissingFramesFindRoom = (output : Output) (index capacity : ℕ) (references : List ℕ) (b : Buffer)
    → length (needed_frames references b.frames) + 1 ≤ capacity
    → after_entry output index (missing_arrival capacity references) b
    ≡ record {
      frames = needed_frames references b.frames ++ missing_stored index ∷ [];
      out = b.out;
    }

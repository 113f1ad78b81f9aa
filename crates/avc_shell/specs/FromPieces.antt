-- What is given of a stream from one of its cut points on.
use Rattle.std.specs.Prelude.{◌≡◌, ℕ, ◌^◌, ◌<◌, ◌≤◌, nat_lt, Bool, true, false, not, ◌&&◌, List}
use Rattle.std.specs.Prelude.{◌++◌, length, Option}
use Rattle.std.specs.Io.KnownBytes.{Consumes, IsAtEnd}
use Rattle.avc_tools.specs.PieceSoFar.{PieceSoFar}
use Rattle.avc_tools.specs.Streams.{StreamSoFar}
use Rattle.avc_tools.specs.Tail.{tail_text}

-- what the bytes so far have from the cut point on
abbrev pub tail_so_far : PieceSoFar → List ℕ
tail_so_far p = tail_text p.number (p.stream).bytes (p.stream).ended

-- These bytes were given: they go on behind whatever was given before those that waited, and those
-- that wait now are the others that the bytes so far have.
pub record GivesOn (old new : PieceSoFar) (waited waits given : List ℕ) : Type 0 where
  pub number : new.number ≡ old.number
  pub no_fewer : length (old.stream).bytes ≤ length (new.stream).bytes
  pub on : (front : List ℕ) → length (new.stream).bytes < 2 ^ 64 → tail_so_far old ≡ front
      ++ waited → tail_so_far new ≡ (front ++ given) ++ waits

-- Reading went on: what came of the stream is what was read of it, and it has ended only where no
-- more is left.
pub record ReadsOn (unread left : Option (List ℕ)) (old new : StreamSoFar) : Type 0 where
  pub more : List ℕ
  pub consumed : Consumes unread left more
  pub bytes : new.bytes ≡ old.bytes ++ more
  pub ends : old.ended ≡ false → new.ended ≡ true → IsAtEnd left

-- The stream was read to its end, and has no such cut point. After want of memory that is not
-- known.
abbrev pub is_missing : PieceSoFar → Bool
is_missing p = (p.stream).ended && not (nat_lt 0 (length (tail_so_far p))) && not (p.stream).failed

-- ---- for the invariant

-- What is known of the tail beside it: whether anything of it has come, whether the stream has
-- ended, and whether memory was wanting.
pub record KeepsTail (p : PieceSoFar) (has_begun has_ended is_out_of_memory : Bool) : Type 0 where
  pub failed : is_out_of_memory ≡ (p.stream).failed
  pub ended : is_out_of_memory ≡ false → has_ended ≡ (p.stream).ended
  pub begun : is_out_of_memory ≡ false → length (p.stream).bytes < 2 ^ 64 →
      has_begun ≡ nat_lt 0 (length (tail_so_far p))

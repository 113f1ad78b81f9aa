-- Writing a text of a stream while it comes: these words are the crate's own.
use Rattle.std.specs.Prelude.{◌≡◌, ℕ, ◌*◌, ◌^◌, ◌<◌, ◌≤◌, Bool, true, false, List, ◌++◌, length}
use Rattle.std.specs.Prelude.{Option}
use Rattle.std.specs.Io.KnownBytes.{Appends, Consumes}
use Rattle.avc_tools.specs.Streams.{StreamSoFar}
use Rattle.avc_console.specs.Reading.{HasRead, WritesFirst, WritesSome}
use Rattle.avc_console.specs.declared.fault.RunFault.{RunFault}
use Rattle.avc_console.specs.declared.fault.RunFault.TheVariants.{Write, Memory}

-- A fault stopped the writing of these bytes. None comes from reading here.
abbrev pub StopsWriting : RunFault → (old new : Option (List ℕ)) → List ℕ → Type 0
StopsWriting Write old new bytes = WritesFirst old new bytes
StopsWriting Memory old new bytes = WritesSome old new bytes
StopsWriting _ old new bytes = ⊥

-- What comes to the text once more of the stream has come is written.
pub record IsWrittenOn (text : List ℕ → (ended : Bool) → List ℕ) (before now : StreamSoFar)
    (held holds : Option (List ℕ)) : Type 0 where
  pub added : List ℕ
  pub defined : text now.bytes now.ended ≡ text before.bytes before.ended ++ added
  pub written : Appends held holds added

-- A fault stopped this writing.
pub record IsStopped (fault : RunFault) (text : List ℕ → (ended : Bool) →
    List ℕ) (before now : StreamSoFar) (held holds : Option (List ℕ)) : Type 0 where
  pub added : List ℕ
  pub defined : text now.bytes now.ended ≡ text before.bytes before.ended ++ added
  pub stopped : StopsWriting fault held holds added

-- These bytes were written, but for the last of them, which wait.
pub record AreWrittenBut (bytes waits : List ℕ) (held holds : Option (List ℕ)) : Type 0 where
  pub written : List ℕ
  pub whole : bytes ≡ written ++ waits
  pub appended : Appends held holds written

-- What comes to the text once more of the stream has come was added to what waited, and of all this
-- what does not wait was written.
pub record IsTakenIn (text : List ℕ → (ended : Bool) → List ℕ) (before now : StreamSoFar)
    (waited waits : List ℕ) (held holds : Option (List ℕ)) : Type 0 where
  pub added : List ℕ
  pub defined : text now.bytes now.ended ≡ text before.bytes before.ended ++ added
  pub rest : AreWrittenBut (waited ++ added) waits held holds

-- A fault stopped the writing of all this.
pub record IsStoppedBehind (fault : RunFault) (text : List ℕ → (ended : Bool) → List ℕ)
    (before now : StreamSoFar) (waited : List ℕ) (held holds : Option (List ℕ)) : Type 0 where
  pub added : List ℕ
  pub defined : text now.bytes now.ended ≡ text before.bytes before.ended ++ added
  pub stopped : StopsWriting fault held holds (waited ++ added)

-- These bytes were read, by so many reads, and the text that they have is written.
pub record IsWriting (text : List ℕ → (ended : Bool) → List ℕ) (reads : ℕ) (s : StreamSoFar)
    (unread left held holds : Option (List ℕ)) : Type 0 where
  pub consumed : Consumes unread left s.bytes
  pub open_end : s.ended ≡ false
  pub going : s.failed ≡ false
  pub some : reads ≤ length s.bytes
  pub short : length s.bytes ≤ 65536 * reads
  pub written : Appends held holds (text s.bytes false)

-- All bytes were read, or so many that the text is over, and the text that they have is written.
pub record IsWhole (text : List ℕ → (ended : Bool) → List ℕ) (over : List ℕ → (ended : Bool) →
    Bool) (s : StreamSoFar) (unread left held holds : Option (List ℕ)) : Type 0 where
  pub has_read : HasRead unread left s.bytes s.ended
  pub is_over : s.ended ≡ false → over s.bytes false ≡ true
  pub going : s.failed ≡ false
  pub short : length s.bytes < 2 ^ 64
  pub written : Appends held holds (text s.bytes s.ended)

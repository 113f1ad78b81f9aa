-- What `units`, `headers`, `pieces` and `cut` write.
use Rattle.std.specs.Prelude.{◌≡◌, ℕ, ◌≤◌, ◌^◌, Bool, true, false, List, [], ◌++◌, length}
use Rattle.std.specs.Prelude.{slice_get, Option, is_some, Result, Ok, Err}
use Rattle.std.specs.Io.KnownBytes.{Appends}
use Rattle.avc_tools.specs.Pieces.{pieces}
use Rattle.avc_tools.specs.PieceSoFar.{bytes_of, piece_text}
use Rattle.avc_console.specs.Reading.{HasRead, WritesFirst, WritesSome}
use Rattle.avc_console.specs.declared.fault.RunFault.{RunFault}
use Rattle.avc_console.specs.declared.fault.RunFault.TheVariants.{Read, Endless, Write, Memory}
use Rattle.avc_console.specs.declared.fault.RunFault.TheVariants.{Size}

-- The text of all bytes that the reader had is written. After a read fault exactly that text is
-- written that the bytes read so far have, after a write fault less than all of it, and after want
-- of memory a first part of it. Input without an end has as many bytes as a run may take reads.
abbrev pub Lists : (text : List ℕ → (ended : Bool) →
    List ℕ) (unread left held holds : Option (List ℕ)) → Result (Unit {0}) RunFault → Type 0
Lists text unread left held holds (Ok _) =
    (bytes : List ℕ) × HasRead unread left bytes true × Appends held holds (text bytes true)
Lists text unread left held holds (Err Write) =
    (bytes : List ℕ) × (all : Bool) × HasRead unread left bytes all ×
    WritesFirst held holds (text bytes all)
Lists text unread left held holds (Err Memory) =
    (bytes : List ℕ) × (all : Bool) × HasRead unread left bytes all ×
    WritesSome held holds (text bytes all)
Lists text unread left held holds (Err Endless) =
    (bytes : List ℕ) × HasRead unread left bytes false × Appends held holds (text bytes false) ×
    (2 ^ 32 ≤ length bytes)
Lists text unread left held holds (Err Size) = ⊥
Lists text unread left held holds (Err Read) =
    (bytes : List ℕ) × HasRead unread left bytes false × Appends held holds (text bytes false)

-- This is the piece of a number of the stream that these bytes are, where they are all, or that
-- begins with them, whatever follows.
abbrev pub IsPieceOf : (number : ℕ) (bytes : List ℕ) (all : Bool) → Option (List ℕ) → Type 0
IsPieceOf number bytes all piece =
    (more : List ℕ) → (all ≡ true → more ≡ []) → slice_get (pieces (bytes ++ more)) number ≡ piece

-- The piece of this number, counted from 0, of all bytes that the reader had is written, if there
-- is one, and whether there is one is answered. Where the bytes that were read decide it, whatever
-- follows them, the others may be left. After a fault the same is written as in `units`, of what
-- belongs to the piece whatever follows.
abbrev pub Cuts : (number : ℕ) (unread left held holds : Option (List ℕ)) → Result Bool RunFault →
    Type 0
Cuts number unread left held holds (Ok found) =
    (bytes : List ℕ) × (all : Bool) × (piece : Option (List ℕ)) × HasRead unread left bytes all ×
    IsPieceOf number bytes all piece
    × Appends held holds (bytes_of piece) × (found ≡ is_some piece)
Cuts number unread left held holds (Err fault) =
    Lists (piece_text number) unread left held holds (Err fault)

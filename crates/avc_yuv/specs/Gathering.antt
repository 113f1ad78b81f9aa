-- Rows that wait in a room until it is full. These words are the crate's own.
use Rattle.std.specs.Prelude.{◌≡◌, ℕ, ◌+◌, ◌≤◌, List, ◌++◌, length, take, Option, MatchResult}
use Rattle.std.specs.Prelude.{Result, Err}
use Rattle.std.specs.Io.KnownBytes.{Appends}
use Rattle.avc_yuv.specs.Writing.{Writes}
use Rattle.avc_yuv.specs.declared.gather.Gathered.{Gathered}
use Rattle.avc_yuv.specs.declared.write.WriteFault.{WriteFault}

-- After `before` others the first of these bytes went out, and the rest of them wait in the room.
pub record IsGathered (before : ℕ) (bytes room : List ℕ) (old new : Option (List ℕ))
    (g : Gathered) : Type 0 where
  pub out : List ℕ
  pub all : out ++ take g.waiting room ≡ bytes
  pub sent : g.written ≡ before + length out
  pub within : g.waiting ≤ length room
  pub taken : Appends old new out

-- so many went out, and none waits
abbrev pub nothing_waits : (written : ℕ) → Gathered
nothing_waits written = record { written = written; waiting = 0 }

-- These bytes came behind those that waited. Or a write failed before all of them were out.
abbrev pub Gathers : (before : Gathered) → (bytes room now : List ℕ) → (old new : Option (List ℕ)) →
    Result Gathered WriteFault → Type 0
Gathers before bytes room now old new result = MatchResult result
    (λ g. IsGathered before.written (take before.waiting room ++ bytes) now old new g)
    (λ fault. Writes before.written (take before.waiting room ++ bytes) old new (Err fault))

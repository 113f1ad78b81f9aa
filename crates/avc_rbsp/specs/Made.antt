-- What a maker stands for.
use Rattle.std.specs.Prelude.{◌≡◌, ℕ, ◌<◌, Bool, true, false, List, [], ◌++◌, replicate, Result, Ok}
use Rattle.std.specs.Prelude.{Err}
use Rattle.avc_types.specs.declared.memory.OutOfMemory.{OutOfMemory}
use Rattle.avc_bits.specs.Bits.{byte_bits}

-- the bits that were put, and whether memory was refused
pub record Made : Type 0 where
  pub bits : List Bool
  pub failed : Bool

-- a maker with no bits yet
abbrev pub nothing : Made
nothing = record { bits = []; failed = false }

-- with these bits behind the others
abbrev pub with_bits : Made → List Bool → Made
with_bits made word = record { bits = made.bits ++ word; failed = false }

-- These bits were put; no memory was refused before. Or it was refused, now or before.
abbrev pub Puts : Result (Unit {0}) OutOfMemory → List Bool → Made → Made → Type 0
Puts (Ok done) word old new = (old.failed ≡ false) × (new ≡ with_bits old word)
Puts (Err refused) word old new = new.failed ≡ true

-- These bytes are the bits, filled up with so many 0 bits.
pub record IsFilled (bytes : List ℕ) (bits : List Bool) (padding : ℕ) : Type 0 where
  pub few : padding < 8
  pub filled : byte_bits bytes ≡ bits ++ replicate padding false

-- Emulation prevention in a unit that is written.
use Rattle.std.specs.Prelude.{◌≡◌, ℕ, ◌+◌, ◌≤◌, nat_le, ◌==◌, ◌&&◌, if◌then◌else◌, List, [], ◌∷◌}
use Rattle.std.specs.Prelude.{◌++◌}

-- how many zeros stand before what follows this byte, after so many zeros; after two of them a 03
-- is put before a byte to 03
abbrev pub zeros_with : ℕ → ℕ → ℕ
zeros_with count b = if b == 0 then (if count == 2 then 1 else count + 1) else 0

-- a byte after so many zeros, behind 3 where it would look like a start code (7.4.1)
abbrev pub escaped_byte : ℕ → ℕ → List ℕ
escaped_byte count b = if count == 2 && nat_le b 3 then 3 ∷ b ∷ [] else b ∷ []

-- the bytes of a unit's body for these of an RBSP, after so many zeros (7.3.1, 7.4.1)
unfoldable pub escaped_after : ℕ → List ℕ → List ℕ
escaped_after count [] = []
escaped_after count (b ∷ bytes) = escaped_byte count b ++ escaped_after (zeros_with count b) bytes

-- a unit's bytes after its header, from its RBSP (7.3.1)
abbrev pub escaped : List ℕ → List ℕ
escaped bytes = escaped_after 0 bytes

-- No start code stands inside, and no 00 00 00: what follows two zeros is 03 or more.
abbrev pub HasNoStart : List ℕ → Type 0
HasNoStart bytes = (front rest : List ℕ) (b : ℕ) → bytes ≡ front ++ 0 ∷ 0 ∷ b ∷ rest → 3 ≤ b

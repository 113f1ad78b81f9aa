-- Emulation prevention (7.3.1, 7.4.1).
use Rattle.std.specs.Prelude.{ℕ, zero, suc, ◌+◌, min, List, [], ◌∷◌, ◌==◌, ◌&&◌, if◌then◌else◌}

-- The RBSP of a unit's body (7.3.1, 7.4.1): the 03 of each 00 00 03 is left out, and the count of
-- zeros starts anew after it.
abbrev pub rbsp : List ℕ → List ℕ
rbsp (zero ∷ zero ∷ suc (suc (suc zero)) ∷ bytes) = 0 ∷ 0 ∷ rbsp bytes
rbsp (b ∷ bytes) = b ∷ rbsp bytes
rbsp [] = []

-- a run that has no zero, less a 03 at its start where two zeros stand before it (7.3.1)
abbrev pub unescaped_run : ℕ → List ℕ → List ℕ
unescaped_run count [] = []
unescaped_run count (b ∷ run) = if count == 2 && b == 3 then run else b ∷ run

-- how many zeros stand at the end, two at most, after so many zeros, a run that has none, and one
-- zero (7.3.1)
abbrev pub zeros_after : ℕ → List ℕ → ℕ
zeros_after count [] = min (count + 1) 2
zeros_after count (_ ∷ _) = 1

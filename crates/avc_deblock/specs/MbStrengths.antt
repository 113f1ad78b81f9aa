-- The strengths along the edges of a macroblock, ITU-T H.264 clause 8.7.2.1.
use Rattle.std.specs.Prelude.{◌≡◌, ℕ, ◌+◌, ◌*◌, ◌<◌, ◌≤◌, Bool, true, false, slice_index_or}
use Rattle.avc_deblock.specs.declared.mb_info.MbInfo.{MbInfo}
use Rattle.avc_deblock.specs.declared.mb_strengths.MbStrengths.{MbStrengths}
use Rattle.avc_deblock.specs.FilterInfo.{strength_beside}
use Rattle.avc_deblock.specs.ByInfo.{strength_of}

-- that in quarter k of edge n
abbrev pub strength_in : MbStrengths → Bool → (n k : ℕ) → ℕ
strength_in s true n k = slice_index_or s.vertical (4 * n + k) 0
strength_in s false n k = slice_index_or s.horizontal (4 * n + k) 0

-- those along the edges inside macroblock q
abbrev pub AreInside : MbStrengths → (q : MbInfo) → Type 0
AreInside s q =
    (v : Bool) (n k : ℕ) → 1 ≤ n → n < 4 → k < 4 → strength_in s v n k ≡ strength_of q q v n k

-- and along its outer edge to inter macroblock p, where it is one too
abbrev pub AreFrom : MbStrengths → Bool → (p q : MbInfo) → Type 0
AreFrom s v p q =
    p.is_intra ≡ false → q.is_intra ≡ false → (k : ℕ) → k < 4 →
    strength_in s v 0 k ≡ strength_beside p q v 0 k

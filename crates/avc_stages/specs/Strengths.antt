-- Which edges of a macroblock are filtered, and how strongly, ITU-T H.264 clause 8.7.
use Rattle.std.specs.Prelude.{◌≡◌, ℕ, zero, suc, ◌+◌, ◌%◌, ◌<◌, ◌==◌, nat_lt, Bool, true, false}
use Rattle.std.specs.Prelude.{List, [], ◌∷◌, Option, Some, None, slice_index, slice_index_or}
use Rattle.avc_types.specs.Pictures.{Coded}
use Rattle.avc_neigh.specs.declared.neighbour_info.Motion.{Motion}
use Rattle.avc_deblock.specs.Edges.{strength_between}
use Rattle.avc_deblock.specs.FilterInfo.{edge_block, filters_between, Names, HasInfo}
use Rattle.avc_deblock.specs.declared.mb_info.MbInfo.{MbInfo}
use Rattle.avc_stages.specs.declared.edges.Edge.{Edge}
use Rattle.avc_stages.specs.declared.edges.MacroblockEdges.{MacroblockEdges}

-- In quarter k along edge n of macroblock q the strength is this, whatever picture p and q are of:
-- p is the macroblock on the other side, q itself but at edge 0 (8.7.2.1).
abbrev pub IsStrength : (is_vertical : Bool) (n k : ℕ) → (p q : MbInfo) → (strength : ℕ) → Type 0
IsStrength v n k p q strength =
    (c : Coded) (motion : List (List Motion)) (names : Names) (ap aq : ℕ) →
    HasInfo c motion names ap p → HasInfo c motion names aq q → nat_lt 0 n ≡ (ap == aq) →
    strength ≡ strength_between c motion ap (edge_block v ((n + 3) % 4) k) aq (edge_block v n k)

-- in all quarters
abbrev pub AreStrengths : (is_vertical : Bool) (n : ℕ) → (p q : MbInfo) → (strengths : List ℕ) →
    Type 0
AreStrengths v n p q strengths = (k : ℕ) → k < 4 → IsStrength v n k p q (slice_index strengths k)

-- No edge: the definitions are total.
abbrev pub no_edge : Edge
no_edge = record { is_filtered = false; strengths = 0 ∷ 0 ∷ 0 ∷ 0 ∷ [] }

-- Edge 0 is to another macroblock, and no edge of the picture (8.7); the others are inside.
abbrev pub IsEdge : (is_vertical : Bool) (n : ℕ) → (outer : Option MbInfo) → (info : MbInfo) →
    Edge → Type 0
IsEdge v zero None info e = e.is_filtered ≡ false
IsEdge v zero (Some outer) info e =
    (e.is_filtered ≡ filters_between info outer) × AreStrengths v 0 outer info e.strengths
IsEdge v (suc n) outer info e =
    (e.is_filtered ≡ filters_between info info) × AreStrengths v (suc n) info info e.strengths

-- The edges of a macroblock, beside those on its left and above it (8.7).
pub record AreEdges (left above : Option MbInfo) (info : MbInfo)
    (e : MacroblockEdges) : Type 0 where
  pub vertical_are : (n : ℕ) → n < 4 → IsEdge true n left info (slice_index_or e.vertical n no_edge)
  pub horizontal_are : (n : ℕ) → n < 4 →
      IsEdge false n above info (slice_index_or e.horizontal n no_edge)

-- Edges inside a macroblock.
use Rattle.std.proofs.Common.{◌≡◌, ℕ, zero, suc, ◌≤◌, arith, Bool}
use Rattle.std.specs.Prelude.{List, Option}
use Rattle.avc_deblock.specs.FilterInfo.{filters_between}
use Rattle.avc_deblock.specs.declared.mb_info.MbInfo.{MbInfo}
use Rattle.avc_stages.specs.Strengths.{AreStrengths, IsEdge}

pub inner : (v : Bool) (n : ℕ) (outer : Option MbInfo) (info : MbInfo) (filtered : Bool) (strengths : List ℕ) → 1 ≤ n → filtered ≡ filters_between info info
    → AreStrengths v n info info strengths → IsEdge v n outer info (record { is_filtered = filtered; strengths = strengths })
inner v zero outer info filtered strengths some is are = absurd (omega (arith, some))
inner v (suc n) outer info filtered strengths some is are = (is, are)

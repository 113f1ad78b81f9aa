-- Macroblocks that follow one another in a slice, whatever stands beside them.
use Rattle.std.specs.Prelude.{◌≡◌, ℕ, Bool, List, [], ◌∷◌}
use Rattle.avc_types.specs.Macroblock.{Mb, MbSyntax}
use Rattle.avc_mbsyntax.specs.declared.context.Context.{Context}
use Rattle.avc_make.specs.DataWriting.{CanStand}
use Rattle.avc_make.specs.MbWriting.{qp_of}

-- It can stand in each context of such a slice.
abbrev pub Stands : (is_p : Bool) → (num_ref_idx_active : ℕ) → MbSyntax → Type 0
Stands is_p num_ref_idx_active syntax =
    (c : Context) → c.is_p ≡ is_p → c.num_ref_idx_active ≡ num_ref_idx_active → CanStand c syntax

-- Each can stand, and has the QP_Y that comes of its own, after one with the QP_Y `first`; the last
-- has `last`.
unfoldable pub FollowOn : (is_p : Bool) → (num_ref_idx_active first last : ℕ) → List Mb → Type 0
FollowOn is_p num_ref_idx_active first last [] = first ≡ last
FollowOn is_p num_ref_idx_active first last (m ∷ ms) =
    Stands is_p num_ref_idx_active m.syntax × (m.qp ≡ qp_of first m.syntax) ×
    FollowOn is_p num_ref_idx_active m.qp last ms

-- The same of more macroblocks where it is so of the first ones.
abbrev pub GoesOn : (is_p : Bool) → (num_ref_idx_active first before after : ℕ) →
    (ms more : List Mb) → Type 0
GoesOn is_p num_ref_idx_active first before after ms more =
    FollowOn is_p num_ref_idx_active first before ms →
    FollowOn is_p num_ref_idx_active first after more

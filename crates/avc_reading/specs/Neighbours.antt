-- What the functions of this crate say of what follows from neighbours.
use Rattle.std.specs.Prelude.{◌≡◌, ℕ, Bool, List, All}
use Rattle.avc_types.specs.Macroblock.{MbSyntax, p_skip, i_pcm, i_nxn, i_16x16, p_inter}
use Rattle.avc_types.specs.Pictures.{Coded}
use Rattle.avc_neigh.specs.Around.{Around}
use Rattle.avc_neigh.specs.BlockNear.{ModesAreAround, MotionIsAround}
use Rattle.avc_neigh.specs.Modes.{IsRem, modes_of}
use Rattle.avc_neigh.specs.declared.neighbour_info.Motion.{Motion}
use Rattle.avc_neigh.specs.declared.neighbour_info.NearMode.{NearMode}
use Rattle.avc_motion.specs.Motion.{motion_of}
use Rattle.avc_selection.specs.declared.derived.Derived.{Derived}
use Rattle.avc_reading.specs.Derived.{had}

-- each rem_intra4x4_pred_mode is 0 to 7
abbrev pub HasRems : MbSyntax → Type 0
HasRems p_skip = Unit {0}
HasRems (i_pcm luma cb cr) = Unit {0}
HasRems (i_nxn modes chroma_mode r) = All IsRem modes
HasRems (i_16x16 mode chroma_mode r) = Unit {0}
HasRems (p_inter mb_type ref_idx mvd r) = Unit {0}

-- These are the modes of a macroblock with this syntax, in whichever picture it has these
-- neighbours (8.3.1.1).
abbrev pub AreModes : Around → (constrained_intra_pred : Bool) → MbSyntax → List NearMode → Type 0
AreModes n constrained_intra_pred syntax modes =
    (c : Coded) (known : List (List NearMode)) (a : ℕ) → c.constrained_intra_pred
    ≡ constrained_intra_pred
    → ModesAreAround n c.mbs c.width known a → modes ≡ modes_of c known a syntax

-- This is its motion there (8.4.1), or none.
abbrev pub IsMotionHad : Around → MbSyntax → List Motion → Type 0
IsMotionHad n syntax motion =
    (c : Coded) (known : List (List Motion)) (a : ℕ) → MotionIsAround n c.mbs c.width known a →
    motion ≡ had (motion_of c known a syntax)

-- Both.
pub record IsDerived (n : Around) (constrained_intra_pred : Bool) (syntax : MbSyntax)
    (d : Derived) : Type 0 where
  pub motion_is : IsMotionHad n syntax d.motion
  pub modes_are : HasRems syntax → AreModes n constrained_intra_pred syntax d.modes

-- The block that covers a sample beside a macroblock, from the macroblock's four neighbours
-- (6.4.12.1).
use Rattle.std.specs.Prelude.{◌≡◌, ℕ, nat_lt, Bool, ℤ, pos, negsuc, ◌-ℤ◌, ◌≤ℤ◌, if◌then◌else◌, List}
use Rattle.std.specs.Prelude.{[], Option, Some, None, slice_index_or, take, All}
use Rattle.avc_types.specs.Pictures.{Coded, PicMb}
use Rattle.avc_neigh.specs.declared.neighbour_info.NeighbourInfo.{NeighbourInfo}
use Rattle.avc_neigh.specs.declared.neighbour_info.Motion.{Motion}
use Rattle.avc_neigh.specs.declared.neighbour_info.Motion.TheVariants as motions
use Rattle.avc_neigh.specs.declared.neighbour_info.NearMode.{NearMode}
use Rattle.avc_neigh.specs.declared.neighbour_info.NearMode.TheVariants as modes
use Rattle.avc_neigh.specs.Around.{Around}
use Rattle.avc_neigh.specs.Blocks.{block_at, block_x, block_y, location_at}
use Rattle.avc_neigh.specs.Modes.{chosen_mode, mode_of_neighbour, nxn_modes, predicted_mode, IsMode}
use Rattle.avc_neigh.specs.Nearby.{nearby}

-- what block k of a neighbour has, where that is available (6.4.8)
abbrev pub block_of : {X : Type 0} → X → (NeighbourInfo → List X) → Option NeighbourInfo → (k : ℕ) →
    X
block_of absent blocks None k = absent
block_of absent blocks (Some f) k = slice_index_or (blocks f) k absent

-- The block that covers the sample (x, y) as seen from the upper left one of the macroblock: x from
-- -1 to 16 and y from -1 to 15 (6.4.12.1, Table 6-3). `mine` has the macroblock's own blocks, and
-- `blocks` says what a neighbour's have.
abbrev pub block_near : {X : Type 0} → X → (NeighbourInfo → List X) → Around → (mine : List X) →
    (x y : ℤ) → X
block_near absent blocks n mine (pos x) (pos y) =
    if nat_lt x 16 then slice_index_or mine (block_at x y) absent else absent
block_near absent blocks n mine (negsuc _) (pos y) = block_of absent blocks n.a (block_at 15 y)
block_near absent blocks n mine (pos x) (negsuc _) =
    if nat_lt x 16 then block_of absent blocks n.b (block_at x 15)
    else block_of absent blocks n.c (block_at 0 15)
block_near absent blocks n mine (negsuc _) (negsuc _) = block_of absent blocks n.d (block_at 15 15)

-- the same of motion (6.4.11.7)
abbrev pub motion_near : Around → (mine : List Motion) → (x y : ℤ) → Motion
motion_near = block_near motions.Absent (λ f. f.motion)

-- the same of prediction modes (6.4.11.4)
abbrev pub mode_near : Around → (mine : List NearMode) → (x y : ℤ) → NearMode
mode_near = block_near modes.Absent (λ f. f.modes)

-- the prediction for block k, where `mine` has the modes of the blocks before it (8.3.1.1)
abbrev pub prediction_near : Around → (constrained_intra_pred : Bool) → (mine : List NearMode) →
    (k : ℕ) → ℕ
prediction_near n constrained_intra_pred mine k =
    predicted_mode
    (mode_of_neighbour constrained_intra_pred
    (mode_near n mine (pos (block_x k) -ℤ pos 1) (pos (block_y k))))
    (mode_of_neighbour constrained_intra_pred
    (mode_near n mine (pos (block_x k)) (pos (block_y k) -ℤ pos 1)))

-- the mode of block k, where `all` has those of the blocks before it (8.3.1.1)
abbrev pub mode_of_block : Around → (constrained_intra_pred : Bool) → (all : List NearMode) →
    (coded : List (Option ℕ)) → (k : ℕ) → NearMode
mode_of_block n constrained_intra_pred all coded k =
    modes.Mode (chosen_mode (prediction_near n constrained_intra_pred (take k all) k)
    (slice_index_or coded k None))

-- a place whose block a macroblock may ask for (6.4.12.1)
pub record IsAsked (x y : ℤ) : Type 0 where
  pub left : negsuc 0 ≤ℤ x
  pub right : x ≤ℤ pos 16
  pub top : negsuc 0 ≤ℤ y
  pub bottom : y ≤ℤ pos 15

-- These are the neighbours of macroblock a: their blocks are those that are found by sample
-- coordinates (6.4.12.1). `known` has the blocks of the macroblocks before a.
pub record AreAround {X : Type 0} (absent : X) (blocks : NeighbourInfo → List X) (n : Around)
    (mbs : List PicMb) (width : ℕ) (known : List (List X)) (a : ℕ) : Type 0 where
  pub block : (mine : List X) (x y : ℤ) → IsAsked x y
      → nearby absent mbs known mine a (location_at width a x y)
      ≡ block_near absent blocks n mine x y

-- the same of motion (6.4.11.7)
abbrev pub MotionIsAround : Around → List PicMb → (width : ℕ) → (known : List (List Motion)) →
    (a : ℕ) → Type 0
MotionIsAround = AreAround motions.Absent (λ f. f.motion)

-- the same of prediction modes (6.4.11.4)
abbrev pub ModesAreAround : Around → List PicMb → (width : ℕ) → (known : List (List NearMode)) →
    (a : ℕ) → Type 0
ModesAreAround = AreAround modes.Absent (λ f. f.modes)

-- These are the modes of an I_NxN macroblock, in whichever picture it has these neighbours
-- (8.3.1.1).
abbrev pub AreNxnModes : Around → (constrained_intra_pred : Bool) → (coded : List (Option ℕ)) →
    (modes : List NearMode) → Type 0
AreNxnModes n constrained_intra_pred coded modes =
    (c : Coded) (known : List (List NearMode)) (a : ℕ) → c.constrained_intra_pred
    ≡ constrained_intra_pred
    → ModesAreAround n c.mbs c.width known a → modes ≡ nxn_modes c known a [] coded

-- The modes of a neighbour, where it is available, are 0 to 8 (Table 8-2).
abbrev pub HasModes : Option NeighbourInfo → Type 0
HasModes None = Unit {0}
HasModes (Some f) = All IsMode f.modes

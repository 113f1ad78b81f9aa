-- The parts of a macroblock one by one, up to the first vector that can't be had.
use Rattle.std.specs.Prelude.{◌≡◌, ℕ, ◌+◌, ◌*◌, ◌<◌, ◌≤◌, if◌then◌else◌, List, [], ◌∷◌, Option}
use Rattle.std.specs.Prelude.{Some, None, Result, Ok, Err, length, slice_index, slice_index_or}
use Rattle.avc_types.specs.declared.fault.Fault.{Fault}
use Rattle.avc_types.specs.declared.fault.Fault.TheVariants.{VectorRange}
use Rattle.avc_types.specs.declared.macroblock.Mvd.{Mvd}
use Rattle.avc_types.specs.declared.macroblock.Part.{Part}
use Rattle.avc_types.specs.declared.macroblock.PMbType.{PMbType}
use Rattle.avc_types.specs.declared.macroblock.PMbType.TheVariants.{P16x16, P16x8, P8x16, P8x8}
use Rattle.avc_types.specs.declared.macroblock.PMbType.TheVariants.{P8x8Ref0}
use Rattle.avc_types.specs.declared.macroblock.SubMbType.{SubMbType}
use Rattle.avc_types.specs.Macroblock.{parts_of, parts_of_quarter, quarter_x, quarter_y}
use Rattle.avc_neigh.specs.Around.{info_of}
use Rattle.avc_neigh.specs.BlockNear.{motion_near}
use Rattle.avc_neigh.specs.declared.neighbour_info.Motion.{Motion}
use Rattle.avc_neigh.specs.declared.neighbour_info.Motion.TheVariants.{Absent as absent}
use Rattle.avc_motion.specs.declared.parts.Inter.{Inter}
use Rattle.avc_motion.specs.Motion.{Near, motion_of_part, with_part, is_in_part, is_in_range}
use Rattle.avc_motion.specs.Motion.{no_motion}

-- the motion with these parts of the macroblock, or None at the first vector out of range (8.4.1)
abbrev pub decoded : Near → PMbType → List ℕ → List Motion → List Part → List Mvd →
    Option (List Motion)
decoded near shape ref_idx mine [] mvds = Some mine
decoded near shape ref_idx mine (part ∷ parts) [] = Some mine
decoded near shape ref_idx mine (part ∷ parts) (mvd ∷ mvds) =
    let m = motion_of_part near shape (slice_index ref_idx part.partition) mine part mvd in
    if is_in_range m then decoded near shape ref_idx (with_part mine part m) parts mvds else None

-- a part of a macroblock, and parts in their order, by what the code knows of the macroblock
abbrev pub moved_by : Inter → List Motion → Part → Mvd → Motion
moved_by i mine part mvd =
    motion_of_part (motion_near (info_of i.neighbours.now)) i.mb_type.now
    (slice_index i.ref_idx.now part.partition) mine part mvd

-- the same as the code has it at hand
abbrev pub decoded_by : Inter → List Motion → List Part → List Mvd → Option (List Motion)
decoded_by i mine parts mvds =
    decoded (motion_near (info_of i.neighbours.now)) i.mb_type.now i.ref_idx.now mine parts mvds

-- the parts of a sub-macroblock (Table 7-17)
abbrev pub parts_in_quarter : SubMbType → ℕ → List Part
parts_in_quarter s q = parts_of_quarter s (quarter_x q) (quarter_y q) q

-- what a part has, or the fault where its vector can't be had
abbrev pub in_range_only : Motion → Result Motion Fault
in_range_only m = if is_in_range m then Ok m else Err VectorRange

-- the blocks after the parts, or the fault where there are none
abbrev pub Decodes : Result (Unit {0}) Fault → List Motion → Option (List Motion) → Type 0
Decodes (Ok done) new expected = expected ≡ Some new
Decodes (Err fault) new expected = (fault ≡ VectorRange) × (expected ≡ None)

-- the part lies in a macroblock, and is of one of four partitions
pub record IsInside (part : Part) : Type 0 where
  pub in_columns : part.x + part.width ≤ 16
  pub column : part.x < 16
  pub row : part.y < 16
  pub of_partition : part.partition < 4

-- the motion of the whole macroblock, or None
abbrev pub decoded_whole : Near → PMbType → List ℕ → List Mvd → Option (List Motion)
decoded_whole near shape ref_idx mvds = decoded near shape ref_idx no_motion (parts_of shape) mvds

-- the motion of the sixteen blocks, or VectorRange
abbrev pub blocks_or_fault : Option (List Motion) → Result (List Motion) Fault
blocks_or_fault (Some motion) = Ok motion
blocks_or_fault None = Err VectorRange

-- a type in quarters has four
abbrev pub HasFourQuarters : PMbType → Type 0
HasFourQuarters P16x16 = Unit {0}
HasFourQuarters P16x8 = Unit {0}
HasFourQuarters P8x16 = Unit {0}
HasFourQuarters (P8x8 subs) = length subs ≡ 4
HasFourQuarters (P8x8Ref0 subs) = length subs ≡ 4

-- Block k lies in quarter q of the macroblock (6.4.7).
abbrev pub IsOfQuarter : (q k : ℕ) → Type 0
IsOfQuarter q k = (4 * q ≤ k) × (k < 4 * q + 4)

-- The blocks of quarter q that lie in the part have motion m, all others what they had.
pub record IsQuarterFilled (part : Part) (q : ℕ) (m : Motion) (old new : List Motion) : Type 0 where
  pub here : (k : ℕ) → IsOfQuarter q k → slice_index_or new k absent
      ≡ (if is_in_part part k then m else slice_index_or old k absent)
  pub before : (k : ℕ) → k < 4 * q → slice_index_or new k absent ≡ slice_index_or old k absent
  pub behind : (k : ℕ) → 4 * q + 4 ≤ k → slice_index_or new k absent ≡ slice_index_or old k absent

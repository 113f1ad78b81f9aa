-- The neighbouring macroblocks of the macroblock that comes next, by their addresses (6.4.9).
use Rattle.std.specs.Prelude.{ℕ, ◌+◌, ◌-◌, ◌%◌, ◌==◌, nat_lt, if◌then◌else◌, List, [], ◌∷◌, ◌++◌}
use Rattle.std.specs.Prelude.{length, Bool, true, false, Option, Some, None, slice_get}
use Rattle.std.specs.Prelude.{slice_index_or}
use Rattle.std.specs.Option.{option_copied}
use Rattle.avc_neigh.specs.declared.neighbour_info.NeighbourInfo.{NeighbourInfo}
use Rattle.avc_neigh.specs.declared.neighbour_info.Motion.{Motion}
use Rattle.avc_neigh.specs.declared.neighbour_info.Motion.TheVariants.{Absent as absent}
use Rattle.avc_neigh.specs.declared.neighbour_info.Motion.TheVariants.{Intra as intra}
use Rattle.avc_neigh.specs.declared.neighbour_info.Motion.TheVariants.{Inter as inter}
use Rattle.avc_neigh.specs.declared.neighbours.Neighbours.{Neighbours}

-- What is known of a picture's macroblocks so far (6.4.9).
pub record PictureInfo : Type 0 where
  -- of the picture, in macroblocks
  pub width : ℕ
  -- of each macroblock, in decoding order: that at place a has the address a
  pub info : List NeighbourInfo

-- before the first macroblock of a picture
abbrev pub no_info : (width : ℕ) → PictureInfo
no_info width = record { width = width; info = [] }

-- with those of one macroblock more, at the next address
abbrev pub with_info : PictureInfo → NeighbourInfo → PictureInfo
with_info p f = record { width = p.width; info = p.info ++ f ∷ [] }

-- a block of an intra macroblock, which has no vector (8.4.1.3.2)
abbrev is_intra_motion : Motion → Bool
is_intra_motion absent = false
is_intra_motion intra = true
is_intra_motion (inter r v) = false

-- an intra macroblock: all its blocks are marked so (8.4.1.3.2)
abbrev pub is_intra_info : NeighbourInfo → Bool
is_intra_info f = is_intra_motion (slice_index_or f.motion 0 absent)

-- CurrMbAddr: the address of the macroblock that comes next (7.3.4)
abbrev pub next_address : PictureInfo → ℕ
next_address p = length p.info

-- the macroblock n addresses before the next; none where that is below 0 (6.4.9)
abbrev pub back : List NeighbourInfo → (n : ℕ) → Option NeighbourInfo
back info n = if nat_lt (length info) n then None else slice_get info (length info - n)

-- a macroblock of another slice is not available (6.4.8)
abbrev pub of_slice : (slice : ℕ) → Option NeighbourInfo → Option NeighbourInfo
of_slice slice None = None
of_slice slice (Some f) = if f.slice == slice then Some f else None

-- mbAddrA, CurrMbAddr - 1: to the left, and not available from the first column (6.4.9)
abbrev pub mb_a : PictureInfo → (slice : ℕ) → Option NeighbourInfo
mb_a p slice = if next_address p % p.width == 0 then None else of_slice slice (back p.info 1)

-- mbAddrB, CurrMbAddr - PicWidthInMbs: above (6.4.9)
abbrev pub mb_b : PictureInfo → (slice : ℕ) → Option NeighbourInfo
mb_b p slice = of_slice slice (back p.info p.width)

-- mbAddrC, CurrMbAddr - PicWidthInMbs + 1: above right, and not available from the last column
-- (6.4.9)
abbrev pub mb_c : PictureInfo → (slice : ℕ) → Option NeighbourInfo
mb_c p slice =
    if (next_address p + 1) % p.width == 0 then None else of_slice slice (back p.info (p.width - 1))

-- mbAddrD, CurrMbAddr - PicWidthInMbs - 1: above left, and not available from the first column
-- (6.4.9)
abbrev pub mb_d : PictureInfo → (slice : ℕ) → Option NeighbourInfo
mb_d p slice =
    if next_address p % p.width == 0 then None else of_slice slice (back p.info (p.width + 1))

-- the four, where they are available (6.4.9)
pub record Around : Type 0 where
  pub a : Option NeighbourInfo
  pub b : Option NeighbourInfo
  pub c : Option NeighbourInfo
  pub d : Option NeighbourInfo

-- those of the next macroblock, which is of this slice (6.4.9)
abbrev pub around : PictureInfo → (slice : ℕ) → Around
around p slice = record { a = mb_a p slice; b = mb_b p slice; c = mb_c p slice; d = mb_d p slice }

-- what the code's four references name
abbrev pub info_of : Neighbours → Around
info_of n = record {
  a = option_copied n.a;
  b = option_copied n.b;
  c = option_copied n.c;
  d = option_copied n.d;
}

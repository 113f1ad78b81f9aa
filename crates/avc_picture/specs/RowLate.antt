-- A picture's planes while it is decoded: a row of macroblocks is filtered as soon as the row below
-- it is built, ITU-T H.264 clause 8.7. The filter goes through the macroblocks in the order of
-- their addresses, so through one row after another, and the macroblocks of a row are predicted
-- from what stands above it before deblocking (8.3).
use Rattle.std.specs.Prelude.{◌≡◌, ℕ, zero, suc, ◌+◌, ◌-◌, ◌*◌, ◌/◌, ℤ, List, length, take}
use Rattle.avc_types.specs.Pictures.{Coded}
use Rattle.avc_neigh.specs.Modes.{modes_before}
use Rattle.avc_motion.specs.Motion.{motion_before}
use Rattle.avc_plane.specs.Planes.{Planes}
use Rattle.avc_deblock.specs.Edges.{all_filtered, row_lines}
use Rattle.avc_deblock.specs.FilterInfo.{Names, HaveInfo}
use Rattle.avc_deblock.specs.declared.mb_info.MbInfo.{MbInfo}
use Rattle.avc_picture_core.specs.Built.{built_on, size_of}

-- the planes with the picture's first n macroblocks in them, which were s before the first
abbrev pub first_built : Coded → (s : Planes) → ℕ → Planes
first_built c s n = built_on c (modes_before c n) (motion_before c n) 0 s (take n c.mbs)

-- the planes after the line filters of the picture's first rows of macroblocks, one row after
-- another (8.7)
abbrev pub rows_filtered : Coded → (rows : ℕ) → Planes → Planes
rows_filtered c zero s = s
rows_filtered c (suc row) s =
    all_filtered c (motion_before c (length c.mbs)) (rows_filtered c row s) (row_lines c row)

-- how many rows are filtered of a picture of this width whose first n macroblocks are decoded: the
-- whole ones but the last
abbrev pub filtered_rows : (width n : ℕ) → ℕ
filtered_rows width n = n / width - 1

-- the same, filtered one row late
abbrev pub row_late : Coded → (s : Planes) → ℕ → Planes
row_late c s n = rows_filtered c (filtered_rows c.width n) (first_built c s n)

-- the address of the macroblock that covers the sample (x, y) of a component, in a picture of this
-- width (6.4.1)
abbrev pub covering_address : (width component x y : ℕ) → ℕ
covering_address width component x y = (y / size_of component) * width + x / size_of component

-- What the filter is told of a picture's macroblocks so far, in decoding order.
pub record FilterInfo : Type 0 where
  -- of the picture, in macroblocks
  pub width : ℕ
  pub info : List MbInfo

-- this is the info of the picture's first macroblocks
pub record AreInfoOf (c : Coded) (names : Names) (offset : ℤ) (f : FilterInfo) : Type 0 where
  pub width_is : c.width ≡ f.width
  pub offset_is : c.chroma_qp_index_offset ≡ offset
  pub info_are : HaveInfo c (motion_before c (length c.mbs)) names 0 f.info

-- Of planes in which so many rows are filtered, so many are filtered then.
abbrev pub FiltersUpTo : Coded → (before after : ℕ) → (old new : Planes) → Type 0
FiltersUpTo c before after old new =
    (s : Planes) → old ≡ rows_filtered c before s → new ≡ rows_filtered c after s

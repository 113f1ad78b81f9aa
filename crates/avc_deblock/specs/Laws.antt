-- Laws of the order of the line filters, and of the info of macroblocks.
use Rattle.std.specs.Prelude.{◌≡◌, ℕ, ◌+◌, ◌*◌, ◌<◌, ◌≤◌, ℤ, true}
use Rattle.std.specs.Prelude.{List, [], ◌∷◌, length, slice_index_or}
use Rattle.std.specs.List.{range_with_len, flat_map}
use Rattle.avc_types.specs.Pictures.{Coded}
use Rattle.avc_neigh.specs.declared.neighbour_info.Motion.{Motion}
use Rattle.avc_deblock.specs.Edges.{line_filters, row_lines, mb_at, slice_at}
use Rattle.avc_deblock.specs.FilterInfo.{Names, HaveInfo, FirstStandStill}
use Rattle.avc_deblock.specs.declared.mb_info.MbInfo.{MbInfo}
use Rattle.avc_plane.specs.Plane.{Plane}
use Rattle.avc_plane.specs.Planes.{Planes}
use Rattle.avc_edges.specs.OneEdge.{lines_filtered, luma_setting}
use Rattle.avc_deblock.specs.ByInfo.{no_info, strength_of, luma_qp_of, row_by_info}

-- The line filters of a picture are those of its rows of macroblocks, one row after another.
abbrev pub RowsInOrder : Type 0
RowsInOrder =
    (c : Coded) (height : ℕ) → length c.mbs ≡ height * c.width →
    line_filters c ≡ flat_map (row_lines c) (range_with_len 0 height)

-- At the first n addresses picture d has what picture c has: the macroblocks, their slices, and
-- their motion.
pub record AgreeBelow (n : ℕ) (c d : Coded) (motion_c motion_d : List (List Motion)) : Type 0 where
  pub mbs : (a : ℕ) → a < n → mb_at d a ≡ mb_at c a
  pub slices : (a : ℕ) → a < n → slice_at d a ≡ slice_at c a
  pub motion : (a : ℕ) → a < n → slice_index_or motion_d a [] ≡ slice_index_or motion_c a []

-- The info of a picture's first macroblocks is that of every picture that begins with them.
abbrev pub InfoOfFirstMacroblocksStays : Type 0
InfoOfFirstMacroblocksStays =
    (n : ℕ) (c d : Coded) (motion_c motion_d : List (List Motion)) (names : Names)
    (first : ℕ) (info : List MbInfo) →
    AgreeBelow n c d motion_c motion_d → first + length info ≤ n →
    HaveInfo c motion_c names first info → HaveInfo d motion_d names first info

-- A row that stands still below one that stands still in the same frame stays as it is: all its
-- strengths are 0 (8.7.2.1).
abbrev pub StillRowsStay : Type 0
StillRowsStay =
    (offset : ℤ) (row : ℕ) (above info : List MbInfo) (frame : ℕ) (s : Planes) →
    length above ≡ length info →
    FirstStandStill frame (length above) above → FirstStandStill frame (length info) info →
    row_by_info offset row above info (length info) s ≡ s

-- ---- a worked row

-- an intra macroblock of QP 51, at offsets 0
abbrev intra_at_51 : MbInfo
intra_at_51 = record no_info { qp = 51 }

-- one row of luma after the first line of its macroblock's vertical edge n, which lies 4 + 4 * n
-- samples from its left
abbrev line_of_edge : (n : ℕ) → Plane → Plane
line_of_edge n s =
    lines_filtered
    (luma_setting (strength_of intra_at_51 intra_at_51 true n) (luma_qp_of intra_at_51 intra_at_51))
    true (4 + 4 * n) 0 (0 ∷ []) s

abbrev one_row : List ℕ → Plane
one_row samples = record { width = 12; height = 1; samples = samples }

-- A step from 100 to 160, at edge 0 at strength 4 and then at edge 1 at strength 3, which reads
-- what edge 0 left.
abbrev pub TwoEdgesOfAStep : Type 0
TwoEdgesOfAStep =
    line_of_edge 1 (line_of_edge 0
    (one_row (100 ∷ 100 ∷ 100 ∷ 100 ∷ 160 ∷ 160 ∷ 160 ∷ 160 ∷ 160 ∷ 160 ∷ 160 ∷ 160 ∷ [])))
    ≡ one_row (100 ∷ 108 ∷ 115 ∷ 123 ∷ 138 ∷ 145 ∷ 152 ∷ 159 ∷ 161 ∷ 160 ∷ 160 ∷ 160 ∷ [])

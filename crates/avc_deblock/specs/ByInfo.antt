-- The deblocking filter by the info of macroblocks alone, ITU-T H.264 clause 8.7.
use Rattle.std.specs.Prelude.{◌≡◌, ℕ, zero, suc, ◌+◌, ◌-◌, ◌*◌, ◌<◌, ◌≤◌, ◌==◌, nat_lt, ℤ, pos}
use Rattle.std.specs.Prelude.{Bool, true, false, ◌&&◌, ◌||◌, if◌then◌else◌}
use Rattle.std.specs.Prelude.{List, [], length, slice_index_or}
use Rattle.avc_types.specs.declared.edges.FilteredEdges.TheVariants.{All}
use Rattle.avc_types.specs.Pictures.{Coded}
use Rattle.avc_neigh.specs.declared.neighbour_info.Motion.{Motion}
use Rattle.avc_plane.specs.Planes.{Planes}
use Rattle.avc_transform.specs.Residual.{chroma_qp}
use Rattle.avc_edges.specs.declared.strengths.Strengths.{Strengths}
use Rattle.avc_edges.specs.declared.thresholds.EdgeQp.{EdgeQp}
use Rattle.avc_edges.specs.OneEdge.{AreStrengths, strength_along}
use Rattle.avc_deblock.specs.declared.mb_info.MbInfo.{MbInfo}
use Rattle.avc_deblock.specs.Edges.{all_filtered, row_lines}
use Rattle.avc_deblock.specs.FilterInfo.{Names, HasInfo, HaveInfo, IsAt, p_address}
use Rattle.avc_deblock.specs.FilterInfo.{strength_beside, filters_between}
use Rattle.avc_deblock.specs.OneEdge.{lines_of_edge, planes_edge}

-- bS along edge n of macroblock q in quarter k of the edge; p is the macroblock on the other side,
-- q itself but at edge 0 (8.7.2.1)
abbrev pub strength_of : (p q : MbInfo) → Bool → (n k : ℕ) → ℕ
strength_of p q v n k =
    if p.is_intra || q.is_intra then (if n == 0 then 4 else 3)
    else strength_beside p q v n k

-- the strengths along that edge
pub record HasStrengths (s : Strengths) (p q : MbInfo) (v : Bool) (n : ℕ) : Type 0 where
  pub low : AreStrengths s
  pub value : (k : ℕ) → k < 4 → strength_along s k ≡ strength_of p q v n k

-- what the luma lines between the two have in common (8.7.2.2)
abbrev pub luma_qp_of : (p q : MbInfo) → EdgeQp
luma_qp_of p q = record { p = p.qp; q = q.qp; offset_a = q.offset_a; offset_b = q.offset_b }

-- and the chroma lines, at this chroma_qp_index_offset (8.7.2.2)
abbrev pub chroma_qp_of : ℤ → (p q : MbInfo) → EdgeQp
chroma_qp_of offset p q =
    record {
      p = chroma_qp offset p.qp;
      q = chroma_qp offset q.qp;
      offset_a = q.offset_a;
      offset_b = q.offset_b;
    }

-- The planes after edge n of macroblock q, which is in this column and row of macroblocks: from its
-- left side on, or from its upper side on, 0 to 3 (8.7).
abbrev pub edge_by_info : Bool → (column row n : ℕ) → ℤ → (p q : MbInfo) → Planes → Planes
edge_by_info v column row n offset p q s =
    lines_of_edge v column row n (strength_of p q v n) (luma_qp_of p q) (chroma_qp_of offset p q) s

-- the planes after a macroblock's vertical or horizontal edges, the outer one first (8.7)
abbrev pub edges_by_info :
    Bool → (column row : ℕ) → ℤ → (outer inner : Bool) → (p q : MbInfo) → Planes → Planes
edges_by_info v column row offset outer inner p q s =
    let t = if outer then edge_by_info v column row 0 offset p q s else s in
    if inner
    then edge_by_info v column row 3 offset q q
    (edge_by_info v column row 2 offset q q (edge_by_info v column row 1 offset q q t))
    else t

-- The planes after all edges of macroblock q: vertical ones and then horizontal ones (8.7).
abbrev pub mb_by_info : ℤ → (column row : ℕ) → (left above q : MbInfo) → Planes → Planes
mb_by_info offset column row left above q s =
    edges_by_info false column row offset
    (nat_lt 0 row && filters_between q above) (filters_between q q) above q
    (edges_by_info true column row offset
    (nat_lt 0 column && filters_between q left) (filters_between q q) left q s)

-- Info of no macroblock: the definitions are total.
abbrev pub no_info : MbInfo
no_info = record {
  is_intra = true;
  coefficients = 0;
  pictures = [];
  vectors = [];
  qp = 0;
  slice = 0;
  filtered_edges = All;
  offset_a = pos 0;
  offset_b = pos 0;
}

-- The planes after the first n macroblocks of a row, from their info and those of the row above
-- (8.7).
abbrev pub row_by_info : ℤ → (row : ℕ) → (above info : List MbInfo) → (n : ℕ) → Planes → Planes
row_by_info offset row above info zero s = s
row_by_info offset row above info (suc n) s =
    mb_by_info offset n row (slice_index_or info (n - 1) no_info) (slice_index_or above n no_info)
    (slice_index_or info n no_info)
    (row_by_info offset row above info n s)

-- The info of a row of a coded picture, and of the row above it.
pub record AreOfRow (c : Coded) (motion : List (List Motion)) (names : Names) (row : ℕ) (offset : ℤ)
    (above info : List MbInfo) : Type 0 where
  pub width_is : c.width ≡ length info
  pub same : length above ≡ length info
  pub offset_is : c.chroma_qp_index_offset ≡ offset
  pub info_are : HaveInfo c motion names (row * c.width) info
  pub above_are : 1 ≤ row → HaveInfo c motion names ((row - 1) * c.width) above

-- By a coded picture's info a row is filtered as by its line filters of that row.
abbrev pub RowIsThePictures : Type 0
RowIsThePictures =
    (c : Coded) (motion : List (List Motion)) (names : Names) (row : ℕ) (offset : ℤ)
    (above info : List MbInfo) (s : Planes) →
    AreOfRow c motion names row offset above info →
    row_by_info offset row above info (length info) s ≡ all_filtered c motion s (row_lines c row)

-- By a coded picture's info edge n of macroblock a is filtered as by its line filters: each line of
-- luma, Cb and Cr along that edge with its setting in the picture (8.7, 8.7.1).
abbrev pub EdgeIsThePictures : Type 0
EdgeIsThePictures =
    (c : Coded) (motion : List (List Motion)) (names : Names) (column row a : ℕ) (offset : ℤ)
    (v : Bool) (n : ℕ) (p q : MbInfo) (s : Planes) →
    IsAt c column row a → c.chroma_qp_index_offset ≡ offset →
    n < 4 → (v ≡ true → 1 ≤ 4 * column + n) → (v ≡ false → 1 ≤ 4 * row + n) →
    HasInfo c motion names (p_address c v n a) p → HasInfo c motion names a q →
    edge_by_info v column row n offset p q s ≡ planes_edge c motion v a n s

-- The edges of a macroblock by its place and the info, ITU-T H.264 clause 8.7.
use Rattle.std.specs.Prelude.{◌≡◌, ℕ, ◌<◌, Bool, true}
use Rattle.avc_plane.specs.Plane.{Plane}
use Rattle.avc_plane.specs.Planes.{Planes}
use Rattle.avc_edges.specs.OneEdge.{AreLimits, strength_along}
use Rattle.avc_edges.specs.declared.settings.EdgeSettings.{EdgeSettings}
use Rattle.avc_edges.specs.declared.thresholds.EdgeQp.{EdgeQp}
use Rattle.avc_deblock.specs.declared.mb_info.MbInfo.{MbInfo}
use Rattle.avc_deblock.specs.declared.place.Place.{Place}
use Rattle.avc_deblock.specs.declared.place.EdgePlace.{EdgePlace}
use Rattle.avc_deblock.specs.declared.planes_edge.PairLimits.{PairLimits}
use Rattle.avc_deblock.specs.MbLimits.{ArePairLimits}
use Rattle.avc_deblock.specs.OneEdge.{chroma_of_edge, luma_of_edge}
use Rattle.avc_deblock.specs.ByInfo.{edge_by_info, edges_by_info, strength_of}
use Rattle.avc_deblock.specs.ByInfo.{luma_qp_of, chroma_qp_of}

-- the limits between the two at a place
abbrev pub AreLimitsAt : Place → PairLimits → (p q : MbInfo) → Type 0
AreLimitsAt place l p q = ArePairLimits l place.chroma_qp_index_offset p q

-- a plane of luma after the lines of an edge, with these strengths and QPs
abbrev pub luma_lines_at : EdgePlace → (ℕ → ℕ) → EdgeQp → Plane → Plane
luma_lines_at at strengths qp s =
    luma_of_edge at.edge.is_vertical at.place.column at.place.row at.edge.n strengths qp s

-- and one of chroma
abbrev pub chroma_lines_at : EdgePlace → (ℕ → ℕ) → EdgeQp → Plane → Plane
chroma_lines_at at strengths qp s =
    chroma_of_edge at.edge.is_vertical at.place.column at.place.row at.edge.n strengths qp s

-- the planes after an edge of macroblock q; p is the macroblock on the other side
abbrev pub edge_at : EdgePlace → (p q : MbInfo) → Planes → Planes
edge_at at p q s =
    edge_by_info at.edge.is_vertical at.place.column at.place.row at.edge.n
    at.place.chroma_qp_index_offset p q s

-- the planes after the vertical or the horizontal edges of the macroblock at a place
abbrev pub edges_at : Place → Bool → (outer inner : Bool) → (p q : MbInfo) → Planes → Planes
edges_at place v outer inner p q s =
    edges_by_info v place.column place.row place.chroma_qp_index_offset outer inner p q s

-- a plane of luma after vertical edge n of macroblock q; p is the macroblock on the other side
abbrev pub vertical_luma_at : Place → (n : ℕ) → (p q : MbInfo) → Plane → Plane
vertical_luma_at place n p q s =
    luma_of_edge true place.column place.row n (strength_of p q true n) (luma_qp_of p q) s

-- and after the three inside it
abbrev pub inner_luma_at : Place → (q : MbInfo) → Plane → Plane
inner_luma_at place q s =
    vertical_luma_at place 3 q q (vertical_luma_at place 2 q q (vertical_luma_at place 1 q q s))

-- a plane of chroma after vertical edge n of macroblock q
abbrev pub vertical_chroma_at : Place → (n : ℕ) → (p q : MbInfo) → Plane → Plane
vertical_chroma_at place n p q s =
    chroma_of_edge true place.column place.row n (strength_of p q true n)
    (chroma_qp_of place.chroma_qp_index_offset p q) s

-- the settings of edge n between two macroblocks, for lines with these QPs
pub record HasSettings (s : EdgeSettings) (p q : MbInfo) (v : Bool) (n : ℕ) (qp : EdgeQp) :
    Type 0 where
  pub value : (k : ℕ) → k < 4 → strength_along s.strengths.now k ≡ strength_of p q v n k
  pub limits : AreLimits s.limits.now qp

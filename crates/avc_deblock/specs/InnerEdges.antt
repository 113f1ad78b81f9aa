-- The edges inside a macroblock by what is known of them, ITU-T H.264 clause 8.7.
use Rattle.std.specs.Prelude.{ℕ, Bool, false}
use Rattle.avc_plane.specs.Planes.{Planes}
use Rattle.avc_deblock.specs.declared.inner_edges.InnerEdges.{InnerEdges}
use Rattle.avc_deblock.specs.ByInfo.{edge_by_info}
use Rattle.avc_deblock.specs.Places.{edges_at}

-- the planes after one of them
abbrev pub inner_edge_at : InnerEdges → Bool → (n : ℕ) → Planes → Planes
inner_edge_at e v n s =
    edge_by_info v e.place.column e.place.row n e.place.chroma_qp_index_offset e.q.now e.q.now s

-- and after all vertical or all horizontal ones, where they are to be filtered
abbrev pub inner_edges_at : InnerEdges → Bool → Planes → Planes
inner_edges_at e v s = edges_at e.place v false e.are_filtered e.q.now e.q.now s

-- A canvas with its planes.
use Rattle.avc_plane.specs.Planes.{Planes}
use Rattle.avc_picture_core.specs.Canvas.{CanvasState}
use Rattle.avc_picture_core.specs.declared.canvas.Canvas.{Canvas}

-- a picture's size and what prediction asks of its parameter sets, with these planes
abbrev pub with_planes : Canvas → Planes → CanvasState
with_planes c planes = record {
  width = c.width;
  height = c.height;
  chroma_qp_index_offset = c.chroma_qp_index_offset;
  constrained_intra_pred = c.constrained_intra_pred;
  planes = planes;
}

-- What holds of the macroblocks so far, whatever picture they are of.
use Rattle.std.specs.Prelude.{◌≡◌, ℕ, ◌*◌, ◌<◌, ◌≤◌, length, All, List}
use Rattle.avc_neigh.specs.declared.neighbour_info.NeighbourInfo.{NeighbourInfo}
use Rattle.avc_neigh.specs.Modes.{IsMode}
use Rattle.avc_params.specs.Limits.{max_macroblocks}
use Rattle.avc_plane.specs.Frames.{planes_of, AreSized}
use Rattle.avc_picture_core.specs.CanvasFields.{with_planes}
use Rattle.avc_picture.specs.FirstMbs.{MbsState}
use Rattle.avc_picture.specs.declared.macroblocks.Macroblocks.TheInside.{Inside}

-- all modes are 0 to 8
abbrev pub HaveModes : List NeighbourInfo → Type 0
HaveModes info = All (λ f. All IsMode f.modes) info

-- The parts agree on how many macroblocks there are so far.
pub record PartsAgree (m : MbsState) : Type 0 where
  pub wide : 0 < m.canvas.width
  pub high : 0 < m.canvas.height
  pub row_width : m.row.width ≡ m.canvas.width
  pub count : length m.row.info ≡ m.next
  pub within : m.next ≤ m.canvas.width * m.canvas.height
  pub modes : HaveModes m.row.info
  pub small : m.canvas.width * m.canvas.height ≤ max_macroblocks
  pub filter_count : length m.filter_info ≡ m.next

-- what the fields keep of the macroblocks so far
abbrev pub state_of : {PAD : ℕ} → Inside PAD → MbsState
state_of m = record {
  canvas = with_planes m.canvas (planes_of m.planes);
  row = m.row;
  filter_info = m.filter_rows.info;
  next = m.next;
}

-- the planes and the rows of the filter are of the canvas's size
pub record AgreesWithCanvas {PAD : ℕ} (m : Inside PAD) : Type 0 where
  pub sized : AreSized m.canvas.width m.canvas.height (planes_of m.planes)
  pub filter_width : m.filter_rows.width ≡ m.canvas.width
  pub kept : PartsAgree (state_of m)

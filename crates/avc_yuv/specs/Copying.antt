-- What is shown of a picture's components, written, or copied into memory, row by row.
use Rattle.std.specs.Prelude.{ℕ, ◌^◌, ◌<◌, ◌≤◌, ◌+◌, ◌-◌, ◌*◌, List, [], ◌∷◌, ◌++◌, length, map}
use Rattle.std.specs.Prelude.{take, drop}
use Rattle.std.specs.List.{range_with_len}
use Rattle.avc_types.specs.declared.picture.Picture.{Picture}
use Rattle.avc_yuv.specs.I420.{part_of_row, window, shown_width, shown_height}
use Rattle.avc_plane.specs.Shown.{columns_of, rows_of, samples_of, scaled}
use Rattle.avc_plane.specs.declared.component.Component.{Component}
use Rattle.avc_yuv.specs.declared.shown.Window.{Window}

-- the rectangle of a component's samples that is shown: of a chroma component everything is half as
-- large (6.2, 7.4.2.1.1)
abbrev pub window_of : Picture → Component → Window
window_of p c = record {
  left = scaled c (p.crop).left;
  top = scaled c (p.crop).top;
  width = scaled c (shown_width p);
  height = scaled c (shown_height p);
}

-- The window lies inside the component, whose sizes are those of a picture.
pub record IsInside (p : Picture) (c : Component) (w : Window) : Type 0 where
  pub columns : w.left + w.width ≤ columns_of p c
  pub rows : w.top + w.height ≤ rows_of p c
  pub narrow : columns_of p c < 2 ^ 32
  pub low : rows_of p c < 2 ^ 32

-- what is shown of row y of a component
abbrev pub shown_of_row : Picture → Component → (y : ℕ) → List ℕ
shown_of_row p c y =
    part_of_row (columns_of p c) (samples_of p c) (window_of p c).left (window_of p c).width y

-- the rows of a component that are shown
abbrev pub shown_rows : Picture → Component → List (List ℕ)
shown_rows p c = map (shown_of_row p c) (range_with_len (window_of p c).top (window_of p c).height)

-- what is shown of a component, row by row
abbrev pub shown_of : Picture → Component → List ℕ
shown_of p c =
    window (columns_of p c) (samples_of p c) (window_of p c).left (window_of p c).top
    (window_of p c).width (window_of p c).height

-- Memory with rows laid into it from its front, each `stride` bytes behind the one before. All
-- other bytes stay.
abbrev pub laid : (stride : ℕ) → (rows : List (List ℕ)) → (memory : List ℕ) → List ℕ
laid stride [] memory = memory
laid stride (row ∷ rows) memory =
    take stride (row ++ drop (length row) memory) ++ laid stride rows (drop stride memory)

-- memory with one row laid into it
abbrev pub laid_at : (place : ℕ) → (row memory : List ℕ) → List ℕ
laid_at place row memory = take place memory ++ row ++ drop (place + length row) memory

-- the bytes from the first of the first row to the last of the last
abbrev pub plane_room : Picture → Component → (stride : ℕ) → ℕ
plane_room p c stride = ((window_of p c).height - 1) * stride + (window_of p c).width

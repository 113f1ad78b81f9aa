-- The samples of a picture's planes after the lines of one edge of a macroblock, ITU-T H.264
-- clause 8.7.1.
use Rattle.std.specs.Prelude.{ℕ, ◌+◌, ◌*◌, ◌/◌, ◌%◌, ◌==◌, ◌≤◌}
use Rattle.std.specs.Prelude.{Bool, true, false, if◌then◌else◌, List}
use Rattle.avc_plane.specs.Plane.{Plane}
use Rattle.avc_types.specs.Pictures.{Coded}
use Rattle.avc_neigh.specs.declared.neighbour_info.Motion.{Motion}
use Rattle.avc_plane.specs.Planes.{Planes}
use Rattle.avc_edges.specs.declared.thresholds.EdgeQp.{EdgeQp}
use Rattle.avc_edges.specs.OneEdge.{edge_filtered, luma_setting, chroma_setting}
use Rattle.avc_deblock.specs.Edges.{luma_per_sample, setting_at}
use Rattle.avc_deblock.specs.Edges.{filters_vertical, filters_horizontal, filters_edge_to}

-- ---- the edges of a macroblock

-- The samples of component k after the edge of macroblock a that lies e samples right of its left
-- side, or below its upper side.
abbrev pub component_edge : Coded → List (List Motion) → (k : ℕ) → Bool → (a e : ℕ) → Plane → Plane
component_edge c motion k true a e s =
    let n = 16 / luma_per_sample k in
    let x = n * (a % c.width) + e in
    let y = n * (a / c.width) in
    edge_filtered
    (λ i. setting_at c motion (record { component = k; is_vertical = true; x = x; y = y + i }))
    true x y n s
component_edge c motion k false a e s =
    let n = 16 / luma_per_sample k in
    let x = n * (a % c.width) in
    let y = n * (a / c.width) + e in
    edge_filtered
    (λ i. setting_at c motion (record { component = k; is_vertical = false; x = x + i; y = y }))
    false x y n s

-- The planes after edge n of macroblock a, from the left side or the upper side on, 0 to 3. Chroma
-- has every second of them.
abbrev pub planes_edge : Coded → List (List Motion) → Bool → (a n : ℕ) → Planes → Planes
planes_edge c motion v a n s = record {
  luma = component_edge c motion 0 v a (4 * n) s.luma;
  cb = if n % 2 == 0 then component_edge c motion 1 v a (2 * n) s.cb else s.cb;
  cr = if n % 2 == 0 then component_edge c motion 2 v a (2 * n) s.cr else s.cr;
}

-- the three planes after a macroblock's vertical or horizontal edges, the outer one first (8.7)
abbrev pub planes_edges :
    Coded → List (List Motion) → Bool → (outer inner : Bool) → (a : ℕ) → Planes → Planes
planes_edges c motion v outer inner a s =
    let t = if outer then planes_edge c motion v a 0 s else s in
    if inner
    then planes_edge c motion v a 3 (planes_edge c motion v a 2 (planes_edge c motion v a 1 t))
    else t

-- The planes after all edges of macroblock a: vertical ones and then horizontal ones.
abbrev pub planes_mb : Coded → List (List Motion) → ℕ → Planes → Planes
planes_mb c motion a s =
    planes_edges c motion false (filters_horizontal c a 0) (filters_edge_to c a a) a
    (planes_edges c motion true (filters_vertical c a 0) (filters_edge_to c a a) a s)

-- ---- the same from strengths and QPs

-- a chroma plane after edge n of the macroblock in this column and row of macroblocks: chroma has
-- every second edge
abbrev pub chroma_of_edge : Bool → (column row n : ℕ) → (ℕ → ℕ) → EdgeQp → Plane → Plane
chroma_of_edge true column row n strengths qp s =
    if n % 2 == 0
    then edge_filtered (chroma_setting strengths qp) true (8 * column + 2 * n) (8 * row) 8 s
    else s
chroma_of_edge false column row n strengths qp s =
    if n % 2 == 0
    then edge_filtered (chroma_setting strengths qp) false (8 * column) (8 * row + 2 * n) 8 s
    else s

-- the luma plane after that edge
abbrev pub luma_of_edge : Bool → (column row n : ℕ) → (ℕ → ℕ) → EdgeQp → Plane → Plane
luma_of_edge true column row n strengths qp s =
    edge_filtered (luma_setting strengths qp) true (16 * column + 4 * n) (16 * row) 16 s
luma_of_edge false column row n strengths qp s =
    edge_filtered (luma_setting strengths qp) false (16 * column) (16 * row + 4 * n) 16 s

-- the planes after that edge
abbrev pub lines_of_edge :
    Bool → (column row n : ℕ) → (ℕ → ℕ) → (luma chroma : EdgeQp) → Planes → Planes
lines_of_edge true column row n strengths luma chroma s = record {
  luma = luma_of_edge true column row n strengths luma s.luma;
  cb = chroma_of_edge true column row n strengths chroma s.cb;
  cr = chroma_of_edge true column row n strengths chroma s.cr;
}
lines_of_edge false column row n strengths luma chroma s = record {
  luma = luma_of_edge false column row n strengths luma s.luma;
  cb = chroma_of_edge false column row n strengths chroma s.cb;
  cr = chroma_of_edge false column row n strengths chroma s.cr;
}

-- the planes have the macroblock in this column and row
pub record HasRoom (column row : ℕ) (s : Planes) : Type 0 where
  pub luma_columns : 16 * column + 16 ≤ s.luma.width
  pub luma_rows : 16 * row + 16 ≤ s.luma.height
  pub cb_columns : 8 * column + 8 ≤ s.cb.width
  pub cb_rows : 8 * row + 8 ≤ s.cb.height
  pub cr_columns : 8 * column + 8 ≤ s.cr.width
  pub cr_rows : 8 * row + 8 ≤ s.cr.height

-- and so have planes of chroma
pub record HasChromaRoom (column row : ℕ) (cb cr : Plane) : Type 0 where
  pub cb_columns : 8 * column + 8 ≤ cb.width
  pub cb_rows : 8 * row + 8 ≤ cb.height
  pub cr_columns : 8 * column + 8 ≤ cr.width
  pub cr_rows : 8 * row + 8 ≤ cr.height

-- t has each macroblock that s has
abbrev pub KeepsRoom : (s t : Planes) → Type 0
KeepsRoom s t = (column row : ℕ) → HasRoom column row s → HasRoom column row t

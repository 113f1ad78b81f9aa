-- The samples of one component after the lines of one edge, ITU-T H.264 clause 8.7.1.
use Rattle.std.specs.Prelude.{◌≡◌, ℕ, ◌+◌, ◌*◌, ◌/◌, ◌==◌, ◌<◌, ◌≤◌, slice_index}
use Rattle.std.specs.Prelude.{Bool, not, ◌||◌, true, false, if◌then◌else◌, List, [], ◌∷◌}
use Rattle.std.specs.Coded.{Unit-prop, le_prop}
use Rattle.std.specs.List.{range_with_len}
use Rattle.avc_plane.specs.Plane.{Plane}
use Rattle.avc_edges.specs.Line.{Setting, filtered, setting_of}
use Rattle.avc_edges.specs.Line.{threshold_index, alpha_of, beta_of, tc0_of}
use Rattle.avc_edges.specs.Rows.{IsWeak, line_near}
use Rattle.avc_edges.specs.PlaneLine.{line_filtered, place}
use Rattle.avc_edges.specs.declared.strengths.Strengths.{Strengths}
use Rattle.avc_edges.specs.declared.strengths.Strengths.TheVariants.{Four, BelowFour}
use Rattle.avc_edges.specs.declared.thresholds.EdgeQp.{EdgeQp}
use Rattle.avc_edges.specs.declared.thresholds.QpLimits.{QpLimits}

-- Some lines of an edge, one after another. Line 0 has q0 at (x, y); line i lies i rows below it,
-- or i columns to its right where the edge is horizontal.
abbrev pub lines_filtered : (ℕ → Setting) → Bool → (x y : ℕ) → List ℕ → Plane → Plane
lines_filtered setting true x y [] s = s
lines_filtered setting true x y (i ∷ is) s =
    lines_filtered setting true x y is (line_filtered (setting i) true x (y + i) s)
lines_filtered setting false x y [] s = s
lines_filtered setting false x y (i ∷ is) s =
    lines_filtered setting false x y is (line_filtered (setting i) false (x + i) y s)

-- the first n lines, in order
unfoldable pub edge_filtered : (ℕ → Setting) → Bool → (x y n : ℕ) → Plane → Plane
edge_filtered setting is_vertical x y n s =
    lines_filtered setting is_vertical x y (range_with_len 0 n) s

-- sixteen lines, of which the first has q0 n samples behind (left, top)
abbrev pub edge_behind : (ℕ → Setting) → Bool → (left top n : ℕ) → Plane → Plane
edge_behind setting is_vertical left top n s =
    edge_filtered setting is_vertical (place is_vertical left n) (place (not is_vertical) top n) 16 s

-- ---- the settings of an edge's lines

-- the strength of each quarter of an edge
abbrev pub strength_along : Strengths → ℕ → ℕ
strength_along Four k = 4
strength_along (BelowFour strengths) k = slice_index strengths k

-- strengths below 4, one for each quarter of the edge, where it is not 4 all along (8.7.2.1)
abbrev pub AreStrengths : Strengths → Type 0
AreStrengths Four = Unit {0}
AreStrengths (BelowFour strengths) = (k : ℕ) → k < 4 → slice_index strengths k < 4

pub AreStrengths-prop : (s : Strengths) → IsProp (AreStrengths s)
AreStrengths-prop Four = Unit-prop
AreStrengths-prop (BelowFour strengths) = Prim.hlevel (le_prop)

-- line i of sixteen, where quarter k of the edge has the strength strengths(k)
abbrev pub luma_setting : (ℕ → ℕ) → EdgeQp → ℕ → Setting
luma_setting strengths qp i = setting_of true (strengths (i / 4)) qp.p qp.q qp.offset_a qp.offset_b

-- line i of eight
abbrev pub chroma_setting : (ℕ → ℕ) → EdgeQp → ℕ → Setting
chroma_setting strengths qp i =
    setting_of false (strengths (i / 2)) qp.p qp.q qp.offset_a qp.offset_b

-- the sixteen lines of luma of an edge with its first q0 at (x, y), at these strengths (8.7.2)
abbrev pub luma_filtered : (ℕ → ℕ) → EdgeQp → Bool → (x y : ℕ) → Plane → Plane
luma_filtered strengths qp is_vertical x y s =
    edge_filtered (luma_setting strengths qp) is_vertical x y 16 s

-- where q0 of the first lies n samples behind (left, top)
abbrev pub luma_behind : (ℕ → ℕ) → EdgeQp → Bool → (left top n : ℕ) → Plane → Plane
luma_behind strengths qp is_vertical left top n s =
    edge_behind (luma_setting strengths qp) is_vertical left top n s

-- and the eight of a component of chroma
abbrev pub chroma_filtered : (ℕ → ℕ) → EdgeQp → Bool → (x y : ℕ) → Plane → Plane
chroma_filtered strengths qp is_vertical x y s =
    edge_filtered (chroma_setting strengths qp) is_vertical x y 8 s

-- Eight lines of Cb, and then eight of Cr, down four rows of sixteen samples that stand from a
-- place of a table on, are filtered with these settings (8.7.2).
abbrev pub AreChromaFiltered : (ℕ → Setting) → (from : ℕ) → (t u : List ℕ) → Type 0
AreChromaFiltered setting from t u =
    (p3 p2 q2 q3 b i : ℕ) → b < 2 → i < 8 →
    filtered (setting i) (line_near p3 p2 q2 q3 t from (8 * b + i))
    ≡ line_near p3 p2 q2 q3 u from (8 * b + i)

-- indexA and indexB of an edge's lines (8.7.2.2)
abbrev pub index_a_of : EdgeQp → ℕ
index_a_of qp = threshold_index ((qp.p + qp.q + 1) / 2) qp.offset_a

abbrev pub index_b_of : EdgeQp → ℕ
index_b_of qp = threshold_index ((qp.p + qp.q + 1) / 2) qp.offset_b

-- one more than tC0 at a strength of 1 to 3 (Table 8-17), and 0 at strength 0, where nothing is
-- filtered
abbrev pub tc1_of : (strength index : ℕ) → ℕ
tc1_of strength index = if strength == 0 then 0 else tc0_of strength index + 1

-- what is asked of one line stands at each of sixteen lines, and tc1_of by strength in the first
-- four bytes of sixteen
pub record AreSpread (l : QpLimits) : Type 0 where
  pub low : l.index_a < 52
  pub alpha : (k : ℕ) → k < 16 → slice_index l.lines.alpha1 k ≡ l.alpha1
  pub beta : (k : ℕ) → k < 16 → slice_index l.lines.beta1 k ≡ l.beta1
  pub tc1 : (k : ℕ) → k < 4 → slice_index l.lines.tc1 k ≡ tc1_of k l.index_a
  pub tc1_small : (k : ℕ) → k < 16 → slice_index l.lines.tc1 k ≤ 26

-- what all lines between two QPs are filtered with (8.7.2.2)
pub record AreLimits (l : QpLimits) (qp : EdgeQp) : Type 0 where
  pub index : l.index_a ≡ index_a_of qp
  pub spread : AreSpread l
  pub alpha : l.is_on ≡ true → l.alpha1 + 1 ≡ alpha_of (index_a_of qp)
  pub beta : l.is_on ≡ true → l.beta1 + 1 ≡ beta_of (index_b_of qp)
  pub off : l.is_on ≡ false → (alpha_of (index_a_of qp) == 0 || beta_of (index_b_of qp) == 0) ≡ true

-- a line of luma, or of chroma, at this strength below 4 with these limits
abbrev pub FitsWeak : (is_luma : Bool) → QpLimits → (strength : ℕ) → Setting → Type 0
FitsWeak is_luma l strength s =
    IsWeak is_luma s (if strength == 0 then 0 else l.alpha1 + 1) (l.beta1 + 1)
    (tc0_of strength l.index_a)

-- The bytes that lines are filtered with fit their settings, ITU-T H.264 clause 8.7.2.
use Rattle.std.specs.Prelude.{ℕ, ◌+◌, ◌==◌, Bool, if◌then◌else◌, List, slice_index}
use Rattle.avc_edges.specs.Line.{Line, Setting}
use Rattle.avc_edges.specs.Rows.{line_of_rows, IsWeak, IsStrong}
use Rattle.avc_edges.specs.declared.limits.WeakThresholds.{WeakThresholds}
use Rattle.avc_edges.specs.declared.limits.StrongThresholds.{StrongThresholds}
use Rattle.avc_edges.specs.declared.limits.Limits.{Limits}
use Rattle.avc_edges.specs.declared.limits.StrongLimits.{StrongLimits}
use Rattle.avc_edges.specs.declared.lines.SideRows.{SideRows}

-- line i of six rows that lie between two
abbrev pub line_of_sides : (p3 : List ℕ) → SideRows → (q3 : List ℕ) → (i : ℕ) → Line
line_of_sides p3 r q3 i = line_of_rows p3 r.p2 r.p1 r.p0 r.q0 r.q1 r.q2 q3 i

-- alpha, of which there is one less; 0 where the strength is 0
abbrev pub alpha_by : (alpha1 dead : ℕ) → ℕ
alpha_by alpha1 dead = if dead == 0 then alpha1 + 1 else 0

-- a line of luma, or of chroma, below strength 4 has these thresholds and this tC0 (8.7.2.3)
abbrev pub FitsWeakLine : (is_luma : Bool) → Setting → WeakThresholds → Type 0
FitsWeakLine is_luma s t = IsWeak is_luma s (alpha_by t.alpha1 t.dead) (t.beta1 + 1) t.tc0

-- and line i of sixteen
abbrev pub FitsWeakLines : (is_luma : Bool) → Setting → Limits → (i : ℕ) → Type 0
FitsWeakLines is_luma s l i =
    IsWeak is_luma s (alpha_by (slice_index l.alpha1 i) (slice_index l.dead i))
    (slice_index l.beta1 i + 1) (slice_index l.tc0 i)

-- a line of luma, or of chroma, at strength 4 has these thresholds (8.7.2.4)
abbrev pub FitsStrongLine : (is_luma : Bool) → Setting → StrongThresholds → Type 0
FitsStrongLine is_luma s t = IsStrong is_luma s (t.alpha1 + 1) (t.beta1 + 1)

-- and line i of sixteen
abbrev pub FitsStrongLines : (is_luma : Bool) → Setting → StrongLimits → (i : ℕ) → Type 0
FitsStrongLines is_luma s l i =
    IsStrong is_luma s (slice_index l.alpha1 i + 1) (slice_index l.beta1 i + 1)

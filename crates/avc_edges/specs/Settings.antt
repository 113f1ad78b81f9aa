-- What the lines of one edge are filtered with, ITU-T H.264 clause 8.7.2.
use Rattle.std.specs.Prelude.{ℕ, ◌+◌, ◌/◌, ◌<◌, true, slice_index}
use Rattle.avc_edges.specs.Line.{Setting}
use Rattle.avc_edges.specs.Rows.{IsStrong}
use Rattle.avc_edges.specs.OneEdge.{strength_along, FitsWeak}
use Rattle.avc_edges.specs.declared.settings.EdgeSettings.{EdgeSettings}
use Rattle.avc_edges.specs.declared.settings.WeakSettings.{WeakSettings}
use Rattle.avc_edges.specs.declared.settings.StrongSettings.{StrongSettings}

-- the strength of each quarter of the edge
abbrev pub strengths_of : EdgeSettings → ℕ → ℕ
strengths_of s = strength_along s.strengths.now

-- the settings of sixteen lines of luma at these strengths below 4 with these limits
abbrev pub AreWeakLuma : WeakSettings → (ℕ → Setting) → Type 0
AreWeakLuma w setting =
    (i : ℕ) → i < 16 → FitsWeak true w.limits.now (slice_index w.strengths.now (i / 4)) (setting i)

-- and at strength 4
abbrev pub AreStrongLuma : StrongSettings → (ℕ → Setting) → Type 0
AreStrongLuma w setting =
    (i : ℕ) → i < 16 →
    IsStrong true (setting i) (w.limits.now.alpha1 + 1) (w.limits.now.beta1 + 1)

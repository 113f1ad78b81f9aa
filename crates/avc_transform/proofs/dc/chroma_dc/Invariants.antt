use Rattle.avc_transform.proofs.Residuals.{◌≡◌, length, chroma_dc_scaled, AreScaled}
use Rattle.avc_transform.proofs.dc.chroma_dc.Given as goal

abbrev pub invariant-loop-i : goal.invariant-loop-i
invariant-loop-i l = record { long : length l.out ≡ 4; scaled : AreScaled (chroma_dc_scaled l.qp) l.initial.out l.out l.i }

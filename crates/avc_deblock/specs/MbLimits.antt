-- What the lines between two macroblocks are filtered with, ITU-T H.264 clause 8.7.2.2.
use Rattle.std.specs.Prelude.{◌≡◌, ℤ}
use Rattle.avc_deblock.specs.declared.mb_info.MbInfo.{MbInfo}
use Rattle.avc_deblock.specs.declared.planes_edge.PairLimits.{PairLimits}
use Rattle.avc_deblock.specs.declared.kept_limits.KeptLimits.{KeptLimits}
use Rattle.avc_deblock.specs.declared.kept_limits.RowLimits.{RowLimits}
use Rattle.avc_edges.specs.OneEdge.{AreLimits}
use Rattle.avc_deblock.specs.ByInfo.{luma_qp_of, chroma_qp_of}

-- the limits of both, at this chroma_qp_index_offset
pub record ArePairLimits (l : PairLimits) (offset : ℤ) (p q : MbInfo) : Type 0 where
  pub luma : AreLimits l.luma (luma_qp_of p q)
  pub chroma : AreLimits l.chroma (chroma_qp_of offset p q)

-- they are for macroblocks that have these QPs, and for a slice that has these offsets
pub record IsFor (k : KeptLimits) (p q : MbInfo) : Type 0 where
  pub p_qp : p.qp ≡ k.p_qp
  pub q_qp : q.qp ≡ k.q_qp
  pub offset_a : q.offset_a ≡ k.offset_a
  pub offset_b : q.offset_b ≡ k.offset_b

-- the limits between all that they are for
abbrev pub AreKept : KeptLimits → ℤ → Type 0
AreKept k offset = (p q : MbInfo) → IsFor k p q → ArePairLimits k.limits offset p q

pub record AreRowLimits (r : RowLimits) (offset : ℤ) : Type 0 where
  pub inside : AreKept r.inside offset
  pub left : AreKept r.left offset
  pub above : AreKept r.above offset

use Rattle.avc_deblock.proofs.FilteredPictures.{◌≡◌, ◌∙◌, ℤ, rules, w8, to_z-of_z, MbInfo}
use Rattle.avc_deblock.specs.declared.planes_edge.PairLimits.{PairLimits}
use Rattle.avc_deblock.specs.MbLimits.{ArePairLimits}
use Rattle.avc_deblock.proofs.kept_limits.KeptLimits.set.Goals as goal

same_limits : (l : PairLimits) (offset : ℤ) (p q p2 q2 : MbInfo) → p2.qp ≡ p.qp → q2.qp ≡ q.qp → q2.offset_a ≡ q.offset_a → q2.offset_b ≡ q.offset_b →
    ArePairLimits l offset p q → ArePairLimits l offset p2 q2
same_limits l offset p q p2 q2 ep eq ea eb are = record { luma = rw (ep, eq, ea, eb) are.luma; chroma = rw (ep, eq, ea, eb) are.chroma }

pub returns-clause-kept : goal.returns-clause-kept
returns-clause-kept c p q is =
    let of = c.args.q.now in
    same_limits _ _ c.args.p.now of p q is.p_qp is.q_qp (is.offset_a ∙ to_z-of_z w8 of.offset_a (search rules))
    (is.offset_b ∙ to_z-of_z w8 of.offset_b (search rules)) c.set.ensures

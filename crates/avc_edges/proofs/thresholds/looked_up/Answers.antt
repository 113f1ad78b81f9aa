use Rattle.avc_edges.proofs.EdgesOnPlane.{ℕ, ◌<◌, w8, arith, refl, SwzOk-from_below, Each1-from_get_or, get_or-swz_l_below}
use Rattle.avc_edges.proofs.thresholds.looked_up.Goals as goal

pub swizzle : goal.swizzle
swizzle c =
    SwzOk-from_below w8 16 1 16 0 c.args.places.now refl (omega arith)
    (Each1-from_get_or (λ (j : ℕ). j < 16) c.args.places.now 0 (λ i low. c.requires i (omega arith)))

pub returns : goal.returns
returns c k low = grind (arith, get_or-swz_l_below, w8)

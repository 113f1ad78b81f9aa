use Rattle.std.proofs.Common.{arith, rules, ◌∙◌, ◌-◌, ◌≡◌, ℕ, List, ap, refl, length}
use Rattle.std.proofs.Math.ListN.{replicate}
use Rattle.std.proofs.lemmas.Simd.{get_or-zip2}
use Rattle.avc_deblock.proofs.Lanes.{greater_at, greater_long, fits_at, apart_fits, beyond, splat_at}
use Rattle.avc_deblock.proofs.block_rows.excesses.Goals as goal

pub returns : goal.returns
returns c k low =
    let far = c.distances.result in
    let near : List ℕ = replicate 32 3 in
    let long : length far ≡ 32 = search rules in
    let is = c.distances.ensures k low in
    let fits = apart_fits _ _ _ (fits_at c.args.u 32 k c.fits-u low) (fits_at c.args.v 32 k c.fits-v low) is in
    get_or-zip2 _ _ near k 0 0 0 (omega (arith, low, greater_long far near 32 k long refl low)) low
    ∙ rw (greater_at far near 32 k long refl low, splat_at 32 k 3 low) (beyond _ fits)
    ∙ ap (λ n. n - 3) is

use Rattle.std.proofs.Common.{arith, ◌∙◌}
use Rattle.std.proofs.lemmas.Simd.{get_or-zip2}
use Rattle.avc_deblock.proofs.Lanes.{greater_at, less_at, greater_long, less_long, fits_at, apart}
use Rattle.avc_deblock.proofs.block_rows.distances.Goals as goal

pub returns : goal.returns
returns g c k low =
    let u = c.args.u in
    let v = c.args.v in
    let many = greater_long u v _ k c.fits-u.0 c.fits-v.0 low in
    let few = less_long u v _ k c.fits-u.0 c.fits-v.0 low in
    get_or-zip2 _ _ _ k 0 0 0 (omega (arith, low, many)) (omega (arith, low, few))
    ∙ rw (greater_at u v _ k c.fits-u.0 c.fits-v.0 low, less_at u v _ k c.fits-u.0 c.fits-v.0 low)
    (apart _ _ (fits_at u _ k c.fits-u low) (fits_at v _ k c.fits-v low))

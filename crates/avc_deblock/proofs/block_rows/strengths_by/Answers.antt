use Rattle.std.proofs.Common.{arith, rules, ◌∙◌, ◌<◌, ◌*◌, ◌+◌, ◌%◌, ◌≡◌, ℕ, List, map, cond, ltb, refl, length, min, max}
use Rattle.std.specs.Simd.Lanes.{zip2, top, sel_l}
use Rattle.std.proofs.Math.ListN.{get_or, replicate}
use Rattle.std.proofs.lemmas.Simd.{Each1-from_get_or, get_or-zip2}
use Rattle.std.proofs.lemmas.List.{get_or-map}
use Rattle.avc_deblock.proofs.Lanes.{less_at, less_long, splat_at}
use Rattle.avc_deblock.proofs.block_rows.strengths_by.Goals as goal

lane : (c : goal.After-row_known-1) (k : ℕ) → k < 16 →
    get_or c.greater.result k 0 ≡ max (2 * min (get_or c.args.coded k 0) 1) (min (get_or c.args.moves k 0) 1)
lane c k low =
    let ones : List ℕ = replicate 16 1 in
    let one = splat_at 16 k 1 low in
    let some : List ℕ = sel_l (map (top 15) (zip2 (λ a b. cond (ltb a b) 65535 0) c.args.coded ones)) c.args.coded ones in
    let long = less_long c.args.coded ones 16 k c.fits-coded.0 refl low in
    c.greater.ensures k low
    ∙ rw (get_or-zip2 {X = ℕ} {Y = ℕ} {Z = ℕ} (λ a b. (a + b) % 65536) some some k 0 0 0 (omega (arith, low, long)) (omega (arith, low, long)), less_at c.args.coded ones 16 k c.fits-coded.0 refl low, less_at c.args.moves ones 16 k c.fits-moves.0 refl low, one) (omega arith)

pub overflow_cast-result : goal.overflow_cast-result
overflow_cast-result c =
    let long : length c.greater.result ≡ 16 = search rules in
    Each1-from_get_or _ c.greater.result 0 (λ i low. let is = lane c i (omega (arith, low, long)) in record { fits = omega (arith, is) })

pub returns : goal.returns
returns c k low =
    let long : length c.greater.result ≡ 16 = search rules in
    get_or-map _ c.greater.result k 0 0 (omega (arith, low, long)) ∙ lane c k low

use Rattle.std.proofs.lemmas.Simd.{chunk-fits}
use Rattle.avc_inter.proofs.SixRows.{ℕ, ◌≡◌, ◌≤◌, List, [], ◌∷◌, Each1, Each1-weaker, Fits, arith, ap, chunk, map, refl, subst, sym}
use Rattle.avc_inter.proofs.row.widened.Goals as goal

-- wider numbers are the same ones
same : (xs : List ℕ) → map (λ x. x) xs ≡ xs
same [] = refl
same (x ∷ xs) = ap (λ (rest : List ℕ). x ∷ rest) (same xs)

pub returns-clause-value : goal.returns-clause-value
returns-clause-value c = same (chunk c.args.at 16 c.args.src.now)

pub returns-clause-small : goal.returns-clause-small
returns-clause-small c =
    subst (λ (v : List ℕ). Each1 (λ x. x ≤ 255) v) (sym (same (chunk c.args.at 16 c.args.src.now)))
    (Each1-weaker (Fits _) (λ x. x ≤ 255) (λ x p. omega (arith, p.fits)) _ (chunk-fits _ c.args.at 16 c.args.src.now c.type_inv.src))

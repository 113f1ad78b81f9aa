use Rattle.avc_inter.proofs.SixRows.{◌≡◌, ◌≤◌, ◌+◌, arith, length, Fits, w16, Each2-of, get_or-zip2, length-zip2, sums_small}
use Rattle.avc_inter.proofs.row.sums.Goals as goal

pub overflow_add-result : goal.overflow_add-result
overflow_add-result c =
    Each2-of (λ x. x ≤ 16383) (λ y. y ≤ 16383) (λ x y. Fits w16 (x + y)) (λ x y p q. record { fits = omega arith }) _ _ c.requires.first c.requires.second

pub returns-clause-long : goal.returns-clause-long
returns-clause-long c = let e : length c.args.a ≡ length c.args.b = omega arith in omega (arith, length-zip2 (λ x y. x + y) c.args.a c.args.b e)

pub returns-clause-at : goal.returns-clause-at
returns-clause-at c k h = get_or-zip2 (λ x y. x + y) c.args.a c.args.b k 0 0 0 (omega arith) (omega arith)

pub returns-clause-small : goal.returns-clause-small
returns-clause-small c m n p q = sums_small m n _ _ p q

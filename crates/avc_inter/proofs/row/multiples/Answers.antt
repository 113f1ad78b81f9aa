use Rattle.avc_inter.proofs.SixRows.{ℕ, ◌≡◌, ◌≤◌, ◌*◌, arith, Fits, w16, ap, ◌∙◌, length, map, replicate, get_or, List, mul-le-mul, length-map}
use Rattle.avc_inter.proofs.SixRows.{Each1-weaker, Each2-splat, zip2_splat, zip2, multiples_small, get_or-map}
use Rattle.avc_inter.proofs.row.multiples.Goals as goal

pub overflow_mul-result : goal.overflow_mul-result
overflow_mul-result c =
    Each2-splat (λ x y. Fits w16 (x * y)) _ 16 c.args.by
    (Each1-weaker (λ x. x ≤ 510) (λ x. Fits w16 (x * c.args.by)) (λ x p. record { fits = omega (arith, mul-le-mul p c.requires.by_small) }) _ c.requires.a_small)

pub returns : goal.returns
returns c =
    let is : zip2 (λ x y. x * y) c.args.a (replicate 16 c.args.by) ≡ map (λ x. x * c.args.by) c.args.a = zip2_splat (λ x y. x * y) _ 16 c.args.by (omega arith) in
    record {
      long = ap length is ∙ length-map c.args.a (λ x. x * c.args.by) ∙ omega arith;
      at = λ k h. ap (λ (v : List ℕ). get_or v k 0) is ∙ get_or-map (λ x. x * c.args.by) c.args.a k 0 0 (omega arith);
      small = λ m p. rw is (multiples_small m c.args.by _ p);
    }

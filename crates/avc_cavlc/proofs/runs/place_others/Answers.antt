use Rattle.avc_cavlc.proofs.Levels.{◌≡◌, ◌+◌, ◌-◌, ◌<◌, ◌++◌, ◌∷◌, ℤ, pos, arith, length, take, drop, set, get_or, to_z, of_z, w16, ap, ◌∙◌, sym}
use Rattle.avc_cavlc.proofs.Levels.{length-set, reverse, ints, drop-set, take-set-le, total_coeff, coefficient_more, last_first, small_more, value_at}
use Rattle.avc_cavlc.proofs.runs.place_others.Goals as goal

pub values-preserved : goal.values-preserved
values-preserved c =
    let values = take c.args.total c.args.values.now in
    let at = c.values.place - 1 in
    let v = get_or c.args.values.now c.values.k (pos 0) in
    let value = value_at c.args.values.now c.args.total c.values.k c.told-values c.requires.few (omega arith) c.requires.size in
    let is = value.is in
    let back : to_z w16 (of_z w16 v) ≡ v = omega (arith, ints, is.most) in
    let inside : at < length c.values.block = omega (arith, c.values.invariant.long, c.values.invariant.place) in
    let after : at + 1 ≡ c.values.place = omega (arith, c.values.invariant.place) in
    let there : drop at (set c.values.block at v) ≡ v ∷ drop c.values.place c.values.block = drop-set c.values.block at v inside ∙ ap (λ k. v ∷ drop k c.values.block) after in
    rw back (record {
      long = omega (arith, length-set {A = ℤ}, c.values.invariant.long);
      place = omega (arith, c.values.invariant.place);
      front = take-set-le c.args.zeros c.values.block at v (omega (arith, c.values.invariant.place)) ∙ c.values.invariant.front;
      behind = ap (λ l. reverse (drop (c.values.k + 1) values) ++ l) there
          ∙ last_first (drop c.values.place c.values.block) (drop (c.values.k + 1) values) v
          ∙ ap (λ l. reverse l ++ drop c.values.place c.values.block) (sym value.here)
          ∙ c.values.invariant.behind;
      count = omega (arith, ap total_coeff there, coefficient_more 0 v (drop c.values.place c.values.block) is, c.values.invariant.count);
      small = small_more c.values.block at v c.values.invariant.small is inside;
    })

use Rattle.avc_intra.proofs.Predictions.{◌≡◌, arith, rules, pos, ◌-◌, ◌/◌, ◌-ℤ◌, ◌*ℤ◌, to_z, of_z, w32, ◌∙◌, ints, IsWithin, stored}
use Rattle.avc_intra.proofs.plane.rises.Goals as goal

pub loop-x-preserved : goal.loop-x-preserved
loop-x-preserved g c =
    let l = c.loop-x in
    let across = to_z w32 (of_z w32 c.args.across) in
    let v = c.rise.result in
    let back : to_z w32 (of_z w32 v) ≡ v = omega (arith, ints, c.rise.ensures.small.low, c.rise.ensures.small.high) in
    record {
      long = search rules;
      value = stored (λ x z. z ≡ across *ℤ (pos x -ℤ pos (g.row.W / 2 - 1))) l.rises l.x (to_z w32 (of_z w32 v)) (pos 0) (omega arith) (back ∙ c.rise.ensures.value) l.invariant.value;
      small = stored (λ x z. IsWithin 80000 z) l.rises l.x (to_z w32 (of_z w32 v)) (pos 0) (omega arith) (rw back c.rise.ensures.small) l.invariant.small;
    }

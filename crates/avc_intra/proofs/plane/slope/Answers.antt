use Rattle.avc_intra.proofs.Predictions.{◌≡◌, ◌+◌, ◌/◌, ◌+ℤ◌, ◌-ℤ◌, ◌*ℤ◌, ℕ, ℤ, pos, to_z, of_z, w32, arith, ◌∙◌, ints, side_of, sum_below_ℤ_more}
use Rattle.avc_intra.proofs.plane.slope.Goals as goal

pub loop-i-preserved : goal.loop-i-preserved
loop-i-preserved g c =
    let side = side_of c.args.side.now c.args.corner in
    let half = g.row.W / 2 in
    let i = c.loop-i.i in
    let f : ℕ → ℤ = λ i. pos (i + 1) *ℤ (pos (side (pos (half + i))) -ℤ pos (side (pos half -ℤ pos (i + 2)))) in
    let weight : to_z w32 (of_z w32 (to_z w32 i +ℤ pos 1)) ≡ pos (i + 1) = omega (arith, ints) in
    let term : c.weighted-sum.result ≡ f i = rw (c.weighted-sum.ensures.value, weight, c.before_middle.ensures) in
    let sum : to_z w32 (of_z w32 (to_z w32 c.loop-i.sum-bits +ℤ to_z w32 (of_z w32 c.weighted-sum.result))) ≡ to_z w32 c.loop-i.sum-bits +ℤ c.weighted-sum.result = omega (arith, ints) in
    record {
      so_far = sum ∙ sum_below_ℤ_more f i _ _ c.loop-i.invariant.so_far term;
      small = omega (arith, ints);
    }

use Rattle.avc_intra.proofs.Predictions.{◌≡◌, ◌+◌, ◌*◌, ◌*ℤ◌, ◌-ℤ◌, pos, sum_below_ℤ, IsWithin, side_of}
use Rattle.avc_intra.proofs.plane.slope.Given as goal

abbrev pub invariant-loop-i : goal.invariant-loop-i
invariant-loop-i g l =
    let side = side_of l.side l.corner in
    record {
      so_far : l.sum ≡ sum_below_ℤ l.i (λ i. pos (i + 1) *ℤ (pos (side (pos (l.half + i))) -ℤ pos (side (pos l.half -ℤ pos (i + 2)))));
      small : IsWithin (2040 * l.i) l.sum;
    }

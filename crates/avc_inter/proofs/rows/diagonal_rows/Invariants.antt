use Rattle.avc_inter.proofs.SixRows.{◌+◌, ◌*◌, ◌/◌, IsStridedSet, mean_of_two, half_along}
use Rattle.avc_inter.proofs.rows.diagonal_rows.Given as goal

abbrev pub invariant-loop-y : goal.invariant-loop-y
invariant-loop-y g l =
    IsStridedSet g.row.W (16 / g.row.L * l.y) l.to.rows.first l.to.rows.stride
    (λ x y. mean_of_two (half_along l.p (l.across + (l.from.first + (y * l.from.stride + x))) 1) (half_along l.p (l.down + (l.from.first + (y * l.from.stride + x))) l.from.stride)) l.fn.out l.out

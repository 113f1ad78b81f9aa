use Rattle.avc_inter.proofs.SixRows.{◌+◌, ◌*◌, ◌/◌, slice_index, IsStridedSet, mean_of_two, half_along}
use Rattle.avc_inter.proofs.rows.quarter_rows.Given as goal

abbrev pub invariant-loop-y : goal.invariant-loop-y
invariant-loop-y g l =
    IsStridedSet g.row.W (16 / g.row.L * l.y) l.to.rows.first l.to.rows.stride
    (λ x y. mean_of_two (slice_index l.p (l.whole + (l.from.first + (y * l.from.stride + x)))) (half_along l.p (l.taps.by + (l.from.first + (y * l.from.stride + x))) l.taps.step)) l.fn.out l.out

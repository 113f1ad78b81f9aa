use Rattle.avc_inter.proofs.SixRows.{◌+◌, ◌*◌, ◌/◌, slice_index, IsStridedSet}
use Rattle.avc_inter.proofs.rows.whole_rows.Given as goal

abbrev pub invariant-loop-y : goal.invariant-loop-y
invariant-loop-y g l =
    IsStridedSet g.row.W (16 / g.row.L * l.y) l.to.rows.first l.to.rows.stride
    (λ x y. slice_index l.p (l.by + (l.from.first + (y * l.from.stride + x)))) l.fn.out l.out

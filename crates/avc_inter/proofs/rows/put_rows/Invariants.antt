use Rattle.avc_inter.proofs.SixRows.{◌+◌, ◌*◌, slice_index, IsStridedSet}
use Rattle.avc_inter.proofs.rows.put_rows.Given as goal

abbrev pub invariant-loop-y : goal.invariant-loop-y
invariant-loop-y g l =
    IsStridedSet g.row.W l.y l.first l.stride (λ x y. slice_index l.r (g.row.L * y + x)) l.fn.out l.out

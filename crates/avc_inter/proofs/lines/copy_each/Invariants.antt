use Rattle.avc_inter.proofs.SixRows.{◌+◌, ◌*◌, slice_index, IsStridedSet}
use Rattle.avc_inter.proofs.lines.copy_each.Given as goal

abbrev pub invariant-loop-y : goal.invariant-loop-y
invariant-loop-y g l =
    IsStridedSet g.row.W l.y l.to.first l.to.stride (λ x y. slice_index l.lines.samples.now (l.lines.from.first + y * l.lines.from.stride + x)) l.fn.out l.out

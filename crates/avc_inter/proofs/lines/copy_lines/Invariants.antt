use Rattle.avc_inter.proofs.SixRows.{◌+◌, ◌*◌, slice_index, IsStridedSet}
use Rattle.avc_inter.proofs.lines.copy_lines.Given as goal

abbrev pub invariant-loop-four : goal.invariant-loop-four
invariant-loop-four g l =
    IsStridedSet g.row.W (4 * l.four) l.to.first l.to.stride (λ x y. slice_index l.lines.samples.now (l.lines.from.first + y * l.lines.from.stride + x)) l.fn.out l.out

use Rattle.avc_inter.proofs.SixRows.{◌+◌, ◌*◌, ◌/◌, IsStridedSet, blend_of}
use Rattle.avc_inter.proofs.bilinear.blend_rows.Given as goal

abbrev pub invariant-loop-y : goal.invariant-loop-y
invariant-loop-y g l =
    IsStridedSet g.row.W (16 / g.row.L * l.y) l.to.rows.first l.to.rows.stride (λ x y. blend_of l.w l.p l.from.stride (l.from.first + (y * l.from.stride + x))) l.fn.out l.out

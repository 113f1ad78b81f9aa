use Rattle.avc_inter.proofs.SixRows.{◌+◌, ◌*◌, ◌/◌, IsStridedSet, AreSumsOf, j_of}
use Rattle.avc_inter.proofs.centres.centre_rows.Given as goal

abbrev pub invariant-loop-y : goal.invariant-loop-y
invariant-loop-y g l = record {
  sums : AreSumsOf g.row.L l.block.from.stride (16 * ((5 * g.row.L + 15) / 16)) (l.block.from.first + l.y * (16 / g.row.L * l.block.from.stride)) l.block.samples.now l.window;
  set : IsStridedSet g.row.W (16 / g.row.L * l.y) l.to.rows.first l.to.rows.stride (λ x y. j_of l.block.samples.now l.block.from.stride (l.block.from.first + (y * l.block.from.stride + x))) l.fn.out l.out;
}

use Rattle.avc_inter.proofs.SixRows.{◌+◌, ◌*◌, ◌/◌, IsStridedSet, AreFiveRows, half_along}
use Rattle.avc_inter.specs.Means.{half_or_mean}
use Rattle.avc_inter.proofs.columns.lines_between.Given as goal

abbrev pub invariant-loop-pair : goal.invariant-loop-pair
invariant-loop-pair g l = record {
  taps : AreFiveRows l.taps l.p (l.from.first + 2 * l.pair * (16 / g.row.L * l.from.stride) + l.by) l.from.stride;
  set : IsStridedSet g.row.W (16 / g.row.L * (2 * l.pair)) l.to.rows.first l.to.rows.stride
      (λ x y. half_or_mean l.whole l.p (l.from.first + (y * l.from.stride + x)) (half_along l.p (l.by + (l.from.first + (y * l.from.stride + x))) l.from.stride)) l.fn.out l.out;
}

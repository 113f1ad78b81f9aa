use Rattle.avc_intra.proofs.Predictions.{◌≡◌, ◌+◌, ◌-◌, ◌*◌, ◌<◌, length, slice_index, IsStridedSet}
use Rattle.avc_intra.proofs.lines.lay_same_columns.Given as goal

abbrev pub invariant-loop-y : goal.invariant-loop-y
invariant-loop-y g l = record {
  long : length l.rows ≡ length l.fn.rows;
  done : g.row.W < l.at.stride →
      IsStridedSet g.row.W l.y l.at.first l.at.stride (λ x y. slice_index l.fn.rows (l.at.first + y * l.at.stride - 1)) l.fn.rows l.rows;
}

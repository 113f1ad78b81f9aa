use Rattle.avc_intra.proofs.Predictions.{slice_index, IsStridedSet}
use Rattle.avc_intra.proofs.lines.lay_same_lines.Given as goal

abbrev pub invariant-loop-y : goal.invariant-loop-y
invariant-loop-y g l = IsStridedSet g.row.W l.y l.at.first l.at.stride (λ x y. slice_index l.line x) l.fn.rows l.rows

use Rattle.avc_inter.proofs.SixRows.{◌+◌, ◌*◌, IsStridedSet}
use Rattle.avc_inter.specs.Eighths.{eighth_at, AreAlong}
use Rattle.avc_inter.proofs.eighths.lay_rows.Given as goal

abbrev pub invariant-loop-y : goal.invariant-loop-y
invariant-loop-y g l = record {
  cb : IsStridedSet g.row.W (2 * l.y) l.to.cb.first l.to.cb.stride
      (λ x y. eighth_at l.fn.beyond.right l.fn.beyond.down l.from.cb.stride l.cb (l.from.cb.first + (y * l.from.cb.stride + x))) l.fn.out_cb l.out_cb;
  cr : IsStridedSet g.row.W (2 * l.y) l.to.cr.first l.to.cr.stride
      (λ x y. eighth_at l.fn.beyond.right l.fn.beyond.down l.from.cr.stride l.cr (l.from.cr.first + (y * l.from.cr.stride + x))) l.fn.out_cr l.out_cr;
  along : AreAlong l.fn.beyond.right l.cb (l.from.cb.first + 2 * l.y * l.from.cb.stride) l.cr (l.from.cr.first + 2 * l.y * l.from.cr.stride) l.row;
}

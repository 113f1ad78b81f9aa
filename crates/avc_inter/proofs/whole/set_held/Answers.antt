use Rattle.avc_inter.proofs.SixRows.{◌+◌, ◌*◌, arith, ap, slice_index, ◌∙◌, wide_of, block_of_same, moved_at}
use Rattle.avc_inter.proofs.whole.set_held.Goals as goal

pub returns : goal.returns
returns g c =
    c.set_rows.ensures ∙ block_of_same g.row.W g.row.H (λ x y. slice_index c.fetch_held.new.patch (0 + y * g.row.W + x)) _ (λ i j column row.
    ap (slice_index c.fetch_held.new.patch) (omega arith) ∙ c.fetch_held.ensures.at i j column row
    ∙ moved_at (wide_of c.args.plane.now) c.args.from.at.left c.args.from.at.top i j c.args.from.at.column c.args.from.at.row)

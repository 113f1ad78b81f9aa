use Rattle.avc_intra.proofs.Predictions.{◌*◌, ◌<◌, arith, pos, sym, ◌∙◌, strided_same, top, first_line}
use Rattle.avc_intra.proofs.straight.lay_vertical.Goals as goal

pub above-line-requires : goal.above-line-requires
above-line-requires g c =
    let size : g.row.W * 1 < 9223372036854775808 = omega (arith, c.requires.narrow.1) in
    (size, first_line g.row.W g.row.W c.args.at.first c.args.at.stride _ c.requires.narrow.0 c.requires.room)

pub returns : goal.returns
returns g c p sides seen there =
    let tops = seen.tops there in
    strided_same _ _ _ _ _ (λ x y. top p (pos x)) _ _ c.lay_same_lines.ensures (λ x y column row. c.above-line.ensures tops.0 x column ∙ sym (tops.1 x column))

use Rattle.avc_intra.proofs.Predictions.{◌*◌, ◌<◌, arith, sym, ◌∙◌, first_line}
use Rattle.avc_intra.proofs.plane.lay_plane_beside.Goals as goal

pub above-above-requires : goal.above-above-requires
above-above-requires g c =
    let size : g.row.W * 1 < 9223372036854775808 = omega (arith, c.requires.narrow.1) in
    let some : 0 < g.row.W = omega (arith, c.requires.narrow.0) in
    (size, first_line g.row.W g.row.W c.args.at.first c.args.at.stride _ some c.requires.room)

pub returns : goal.returns
returns g c p sides seen there =
    c.lay_plane_between.ensures p sides (record {
      tops = λ above i low. (seen.tops above).1 i low ∙ sym (c.above-above.ensures (seen.tops above).0 i low);
      lefts = λ left i low. (seen.lefts left).2 i low ∙ sym (c.left-left.ensures (seen.lefts left).0 i low);
      at_corner = λ corner. (seen.at_corner corner).1 ∙ sym (c.corner-corner.ensures (seen.at_corner corner).0);
    }) there

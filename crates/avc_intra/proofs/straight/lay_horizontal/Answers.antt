use Rattle.avc_intra.proofs.Predictions.{pos, sym, strided_same, left_of}
use Rattle.avc_intra.proofs.straight.lay_horizontal.Goals as goal

pub returns : goal.returns
returns g c p sides seen there =
    let lefts = seen.lefts there in
    strided_same _ _ _ _ _ (λ x y. left_of p (pos y)) _ _ (c.lay_same_columns.ensures.lines lefts.0 lefts.1) (λ x y column row. sym (lefts.2 y row))

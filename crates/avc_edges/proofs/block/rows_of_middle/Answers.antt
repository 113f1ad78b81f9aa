use Rattle.avc_edges.proofs.EdgesOnPlane.{◌+◌, ◌*◌, arith, ap, ◌∙◌, slice_index, two_riffles, middle_row}
use Rattle.avc_edges.proofs.block.rows_of_middle.Goals as goal

pub returns : goal.returns
returns c r column r_low c_low =
    let m = c.middle_apart-apart.ensures in
    c.by_words.ensures (4 * r + column) (omega arith)
    ∙ c.samples_from.ensures (4 * r + column) (omega arith)
    ∙ ap (slice_index c.riffled-twice.result) (omega arith)
    ∙ two_riffles _ _ _ c.riffled-once.ensures c.riffled-twice.ensures r column r_low c_low
    ∙ middle_row c.args.t.now c.middle_apart-apart.result r column r_low c_low m.first m.second m.third m.fourth

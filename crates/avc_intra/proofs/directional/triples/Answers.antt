use Rattle.avc_intra.proofs.Predictions.{◌+◌, slice_index, arith, fill_by_all, mean_of_three}
use Rattle.avc_intra.proofs.directional.triples.Goals as goal

pub returns : goal.returns
returns c =
    let line = c.args.line.now in
    fill_by_all (λ i. mean_of_three (slice_index line i) (slice_index line (i + 1)) (slice_index line (i + 2))) c.loop-i.means 7 0 c.loop-i.invariant.long (λ k less. c.loop-i.invariant.done k (omega arith))

use Rattle.avc_intra.proofs.Predictions.{◌+◌, slice_index, arith, fill_by_all, mean_of_two}
use Rattle.avc_intra.proofs.directional.pairs.Goals as goal

pub returns : goal.returns
returns c =
    let line = c.args.line.now in
    fill_by_all (λ i. mean_of_two (slice_index line i) (slice_index line (i + 1))) c.loop-i.means 8 0 c.loop-i.invariant.long (λ k less. c.loop-i.invariant.done k (omega arith))

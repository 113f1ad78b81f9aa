use Rattle.avc_edges.proofs.EdgesOnPlane.{slice_index, arith, by_fours}
use Rattle.avc_edges.proofs.block.by_words.Goals as goal

pub returns : goal.returns
returns c k low =
    let i = c.loop-k.invariant in
    by_fours (slice_index c.loop-k.out) (slice_index c.args.t.now) 16 (λ j less. i.first j (omega arith)) (λ j less. i.second j (omega arith))
    (λ j less. i.third j (omega arith)) (λ j less. i.fourth j (omega arith)) k (omega arith)

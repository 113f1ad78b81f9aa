use Rattle.std.proofs.Common.{length-set}
use Rattle.avc_deblock.proofs.FilteredPictures.{◌≡◌, ◌<◌, ◌+◌, ◌%◌, ◌∙◌, arith, edge_block, inter_strength, stored_below}
use Rattle.avc_deblock.proofs.edge_strengths.inter_strengths.Goals as goal

pub loop-k-preserved : goal.loop-k-preserved
loop-k-preserved c =
    let p = c.args.p.now in
    let q = c.args.q.now in
    let v = c.args.edge.is_vertical in
    let n = c.args.edge.n in
    let old = c.loop-k.invariant in
    record {
      long = length-set _ _ _ ∙ old.long;
      value = stored_below (λ k s. s ≡ inter_strength p (edge_block v ((n + 3) % 4) k) q (edge_block v n k)) c.loop-k.strengths c.loop-k.k c.inter_strength.result (omega arith)
          (rw (c.blocks-in-loop-k.ensures.p, c.blocks-in-loop-k.ensures.q) at c.inter_strength.ensures.value) old.value;
      low = stored_below (λ k s. s < 4) c.loop-k.strengths c.loop-k.k c.inter_strength.result (omega arith) (omega (arith, c.inter_strength.ensures.low)) old.low;
    }

use Rattle.avc_mbsyntax.proofs.SliceDataReading.{◌<◌, ◌∙◌, arith, length, length-set, no_levels, cleared_more}
use Rattle.avc_mbsyntax.proofs.blocks.clear.Goals as goal

pub each-preserved : goal.each-preserved
each-preserved g c =
    let within : c.each.k < length c.each.levels = omega (arith, c.each.invariant.long) in
    rw c.clear.ensures (record {
      long = length-set c.each.levels c.each.k (no_levels g.row.MAXN) ∙ c.each.invariant.long;
      done = cleared_more c.each.levels c.each.k 0 (no_levels g.row.MAXN) within c.each.invariant.done;
    })

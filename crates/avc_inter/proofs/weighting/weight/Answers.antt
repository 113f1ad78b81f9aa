use Rattle.avc_inter.proofs.SixRows.{◌≡◌, ◌≤◌, ◌<◌, ◌*◌, ◌∙◌, ap, arith, length, map, slice_index, to_z, of_z, w32, length-set, mul-le, weighted}
use Rattle.avc_inter.proofs.SixRows.{stored, back_within, mapped_is}
use Rattle.avc_inter.proofs.weighting.weight.Goals as goal

pub loop-k-preserved : goal.loop-k-preserved
loop-k-preserved g c =
    let old = c.as_slice-old.result.now in
    let long : length old ≡ g.row.W * g.row.H = c.as_slice-old.ensures.long in
    let few : length old ≤ 256 = omega (arith, long, mul-le g.row.W g.row.H 16 16 c.requires.block.few_columns c.requires.block.few_rows) in
    let room : c.loop-k.k < length c.loop-k.samples = omega (arith, few) in
    record {
      long = length-set c.loop-k.samples c.loop-k.k c.weighted_sample.result ∙ c.loop-k.invariant.long;
      done = stored (λ k v. v ≡ weighted c.args.log2_denom (to_z w32 (of_z w32 c.args.weight)) (to_z w32 (of_z w32 c.args.offset)) (slice_index c.as_slice-old.result.now k))
          c.loop-k.samples c.loop-k.k c.weighted_sample.result 0 room c.weighted_sample.ensures c.loop-k.invariant.done;
    }

pub returns : goal.returns
returns g c =
    let d = c.args.log2_denom in
    let w = back_within c.args.weight c.requires.weight in
    let o = back_within c.args.offset c.requires.offset in
    let old = c.as_slice-old.result.now in
    c.set_rows.ensures
    ∙ mapped_is g.row.W g.row.H (weighted d c.args.weight c.args.offset) old c.loop-k.samples c.as_slice-old.ensures.long
    (λ k below. c.loop-k.invariant.done k (omega arith) ∙ ap (λ z. weighted d z (to_z w32 (of_z w32 c.args.offset)) (slice_index old k)) w ∙ ap (λ z. weighted d c.args.weight z (slice_index old k)) o)
    ∙ ap (map (weighted d c.args.weight c.args.offset)) c.as_slice-old.ensures.value

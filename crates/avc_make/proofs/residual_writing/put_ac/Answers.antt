use Rattle.avc_make.proofs.Slices.{◌≡◌, length, arith, rules, block_here, block_put, blocks_put}
use Rattle.avc_make.proofs.residual_writing.put_ac.Goals as goal

pub put_block_where-requires : goal.put_block_where-requires
put_block_where-requires c = search (rules, block_here)

pub each-preserved : goal.each-preserved
each-preserved c =
    let long : length c.args.blocks.now ≡ 4 = search rules in
    let put = rw c.nc_chroma-nc.ensures at c.in_ok-put_block_where.ensures.1 in
    rw c.total_coeff.ensures (block_put c.each.invariant (omega arith) long c.index-blocks-k.result put)

pub returns : goal.returns
returns c = (c.requires.going, blocks_put c.each.invariant (omega arith))

use Rattle.avc_make.proofs.Slices.{◌≡◌, length, arith, rules, get_or, sym, subst, IsBlock, block_here, block_put, blocks_put}
use Rattle.avc_make.proofs.residual_writing.put_luma_blocks.Goals as goal

pub put_block_where-requires : goal.put_block_where-requires
put_block_where-requires g c =
    let long : length c.args.blocks.now ≡ 16 = search rules in
    let here = block_here c.each.invariant (omega arith) long c.index-blocks-k.result in
    (search rules, (c.each.invariant.going, (c.requires.most, subst (λ b. IsBlock g.row.MAXN b (get_or c.args.blocks.now c.each.k c.index-blocks-k.result)) (sym c.is_coded.ensures) here.0)))

pub each-preserved : goal.each-preserved
each-preserved g c =
    let long : length c.args.blocks.now ≡ 16 = search rules in
    let put = rw (c.is_coded.ensures, c.nc_luma-nc.ensures) at c.in_ok-put_block_where.ensures.1 in
    rw c.total_coeff.ensures (block_put c.each.invariant (omega arith) long c.index-blocks-k.result put)

pub returns : goal.returns
returns g c = (c.requires.going, blocks_put c.each.invariant (omega arith))

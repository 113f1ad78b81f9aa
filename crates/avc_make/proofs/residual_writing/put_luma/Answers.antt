use Rattle.avc_make.proofs.Slices.{[], ap, ◌∙◌, range_with_len, option_copied, is_coded, blocks_bits, puts_same}
use Rattle.avc_mbsyntax.specs.Reading.{luma_side}
use Rattle.avc_make.proofs.residual_writing.put_luma.Goals as goal

pub returns : goal.returns
returns g c =
    let coded = is_coded c.args.luma_pattern in
    puts_same c.put_luma_blocks.result _ _ c.args.maker.now c.put_luma_blocks.new.maker
    (ap (λ l. blocks_bits g.row.MAXN 16 coded l (option_copied c.luma_side-2.result) (range_with_len 0 16) [] c.args.blocks.now) c.luma_side.ensures
    ∙ ap (λ u. blocks_bits g.row.MAXN 16 coded (luma_side c.args.context.now.left) u (range_with_len 0 16) [] c.args.blocks.now) c.luma_side-2.ensures)
    c.put_luma_blocks.ensures

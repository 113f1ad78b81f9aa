use Rattle.avc_mbsyntax.proofs.SliceDataReading.{[], true, block_where, luma_side, nc, option_copied, subst, Reads}
use Rattle.avc_mbsyntax.proofs.residual.read_intra_dc.Goals as goal

pub returns-clause-read : goal.returns-clause-read
returns-clause-read c =
    let context = c.args.context.now in
    let above = subst (λ up. Reads c.read_luma_dc.result (block_where 16 true (nc 16 (option_copied c.luma_counts-left.result) up [] 0)) c.args.reader.now c.read_luma_dc.new.reader)
    c.luma_counts-up.ensures c.read_luma_dc.ensures.read in
    subst (λ left. Reads c.read_luma_dc.result (block_where 16 true (nc 16 left (luma_side (option_copied context.up)) [] 0)) c.args.reader.now c.read_luma_dc.new.reader) c.luma_counts-left.ensures above

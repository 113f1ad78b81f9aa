use Rattle.avc_make.proofs.residual_writing.put_luma_dc.Goals as goal

pub returns : goal.returns
returns c = rw (c.nc_luma.ensures, c.luma_side-left.ensures, c.luma_side-up.ensures) at c.put_block_where.ensures

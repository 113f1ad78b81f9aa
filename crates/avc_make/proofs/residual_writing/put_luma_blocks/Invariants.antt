use Rattle.avc_make.proofs.Slices.{option_copied, is_coded, ArePut}
use Rattle.avc_make.proofs.residual_writing.put_luma_blocks.Given as goal

abbrev pub invariant-each : goal.invariant-each
invariant-each g l = ArePut g.row.MAXN 16 16 (is_coded l.luma_pattern) (option_copied l.left) (option_copied l.up) l.blocks l.fn.maker l.maker l.total_coeffs l.k

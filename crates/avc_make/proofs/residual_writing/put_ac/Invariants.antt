use Rattle.avc_make.proofs.Slices.{◌==◌, option_copied, ArePut}
use Rattle.avc_make.proofs.residual_writing.put_ac.Given as goal

abbrev pub invariant-each : goal.invariant-each
invariant-each l = ArePut 15 8 4 (λ k. l.chroma_pattern == 2) (option_copied l.left) (option_copied l.up) l.blocks l.fn.maker l.maker l.total_coeffs l.k

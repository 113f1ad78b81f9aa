use Rattle.avc_make.proofs.Slices.{negsuc, arith, puts_same, some_dc, writable_dc}
use Rattle.avc_make.proofs.residual_writing.put_chroma_dc.Goals as goal

pub write_block-requires : goal.write_block-requires
write_block-requires c = (omega arith, (omega arith, ((λ below. omega arith), writable_dc c.args.chroma_pattern c.args.levels.now c.if-chroma_pattern-gt0.true c.requires.block)))

pub returns-then-chroma_pattern-gt0 : goal.returns-then-chroma_pattern-gt0
returns-then-chroma_pattern-gt0 c = grind (arith, puts_same, negsuc, some_dc)

use Rattle.avc_make.proofs.Slices.{min, rules, to_z, w8, coded_block, puts_same, writable_of}
use Rattle.avc_make.proofs.residual_writing.put_block_where.Goals as goal

pub write_block-requires : goal.write_block-requires
write_block-requires g c = search (rules, to_z, w8, min, writable_of)

pub returns-then-coded : goal.returns-then-coded
returns-then-coded g c = search (rules, to_z, w8, min, puts_same, coded_block)

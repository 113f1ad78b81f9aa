use Rattle.avc_mbsyntax.proofs.SliceDataReading.{◌≡◌, pos, min, true, arith, to_z, w8, ints, residual_block, block_where, capped_read, reads_into_same}
use Rattle.avc_mbsyntax.proofs.blocks.read_coded.Goals as goal

pub returns-clause-read : goal.returns-clause-read
returns-clause-read g c =
    let same : to_z w8 c.min.result ≡ pos (min c.args.nc 8) = omega (arith, ints, c.min.ensures) in
    reads_into_same c.read_block_in_place.result c.read_block_in_place.new.levels (residual_block g.row.MAXN (to_z w8 c.min.result)) (block_where g.row.MAXN true c.args.nc) c.args.reader.now c.read_block_in_place.new.reader
    (λ b. capped_read g.row.MAXN c.args.nc (to_z w8 c.min.result) b same) c.read_block_in_place.ensures.read

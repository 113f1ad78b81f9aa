use Rattle.avc_cavlc.proofs.Levels.{◌≡◌, arith, ints, subst, to_z, of_z, w8, ReadsInto, residual_block}
use Rattle.avc_cavlc.proofs.block.read_block_in_place.Goals as goal

pub returns-then-has_many-clause-read : goal.returns-then-has_many-clause-read
returns-then-has_many-clause-read g c =
    let nc : to_z w8 (of_z w8 c.args.nc) ≡ c.args.nc = omega (arith, ints) in
    subst (λ n. ReadsInto c.read_by_window.result c.read_by_window.new.levels (residual_block g.row.MAXN n) c.args.reader.now c.read_by_window.new.reader) nc c.read_by_window.ensures.read

pub returns-else-has_many-clause-read : goal.returns-else-has_many-clause-read
returns-else-has_many-clause-read g c =
    let nc : to_z w8 (of_z w8 c.args.nc) ≡ c.args.nc = omega (arith, ints) in
    subst (λ n. ReadsInto c.read_near_end.result c.read_near_end.new.levels (residual_block g.row.MAXN n) c.args.reader.now c.read_near_end.new.reader) nc c.read_near_end.ensures.read

use Rattle.avc_picture.proofs.Slices.{arith, w32, ints}
use Rattle.avc_picture.proofs.slice_context.SliceContext.new.Goals as goal

pub returns : goal.returns
returns g c = grind (arith, ints, w32)

use Rattle.avc_transform.proofs.Residuals.{◌^◌, arith, w32, to_z_pos, IsBelow-mul, cast_small, fits_below}
use Rattle.avc_transform.proofs.scaling.times.Goals as goal

pub overflow_mul-result : goal.overflow_mul-result
overflow_mul-result c =
    let product = IsBelow-mul (2 ^ 16) (2 ^ 15) c.args.value c.args.scale c.requires.value c.requires.scale in
    rw (cast_small (omega arith) c.requires.value, to_z_pos w32 c.args.scale (omega arith)) (fits_below (omega arith) product)

pub returns-clause-value : goal.returns-clause-value
returns-clause-value c =
    let product = IsBelow-mul (2 ^ 16) (2 ^ 15) c.args.value c.args.scale c.requires.value c.requires.scale in
    rw (cast_small (omega arith) c.requires.value, to_z_pos w32 c.args.scale (omega arith)) (cast_small (omega arith) product)

pub returns-clause-small : goal.returns-clause-small
returns-clause-small c m n value scale =
    let product = IsBelow-mul (2 ^ 16) (2 ^ 15) c.args.value c.args.scale c.requires.value c.requires.scale in
    rw (cast_small (omega arith) c.requires.value, to_z_pos w32 c.args.scale (omega arith), cast_small (omega arith) product) (IsBelow-mul m n _ _ value scale)

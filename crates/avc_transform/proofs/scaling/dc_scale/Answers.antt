use Rattle.avc_transform.proofs.Residuals.{◌%◌, ◌/◌, arith, scale_below}
use Rattle.avc_transform.proofs.scaling.dc_scale.Goals as goal

pub returns : goal.returns
returns c =
    let value = c.column_scales.ensures.even 0 (omega arith) in
    record { value = value; small = rw value (scale_below (c.args.qp % 6) (c.args.qp / 6) 8 (omega arith) (omega arith)) }

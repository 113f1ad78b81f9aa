use Rattle.avc_tools.proofs.Taking.{true, false, Some, Ok, Err, is_some, ap, ◌∙◌, is_pps, pps_record, OfPicture, put_by, pps_read}
use Rattle.avc_tools.proofs.sets_in_force.put_pps.Goals as goal

pub returns-in-Ok : goal.returns-in-Ok
returns-in-Ok c = λ o brings.
    let is = pps_read c.pps_in_force_keeps_limits.ensures o (Ok c.in-Ok.set) (brings ∙ ap (λ r. Some (OfPicture r)) c.in-Ok.is) in
    put_by is_pps pps_record o (Some c.in-Ok.set.pic_parameter_set_id) true c.args.unit _ _ is.0 (ap is_some is.1) c.put.ensures.long c.put.ensures.units

pub returns-in-Err : goal.returns-in-Err
returns-in-Err c = λ o brings.
    let is = pps_read c.pps_in_force_keeps_limits.ensures o (Err c.in-Err.refused) (brings ∙ ap (λ r. Some (OfPicture r)) c.in-Err.is) in
    put_by is_pps pps_record o c.in-Err.refused.id false c.args.unit _ _ is.0 (ap is_some is.1) c.put-in-Err.ensures.long c.put-in-Err.ensures.units

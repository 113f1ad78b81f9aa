use Rattle.avc_motion.specs.Motion.{motion_of}
use Rattle.avc_reading.proofs.Had.{motion_is_had, none_is_had}
use Rattle.avc_reading.proofs.derived.motion_had.Goals as goal

pub returns-in-Ok : goal.returns-in-Ok
returns-in-Ok c = λ p known a near. motion_is_had (motion_of p known a c.args.mb.now.syntax) _ (c.in-Ok.ensures.motion p known a near)

pub returns-in-Err : goal.returns-in-Err
returns-in-Err c = λ p known a near. none_is_had (motion_of p known a c.args.mb.now.syntax) _ (c.in-Err.ensures.motion p known a near)

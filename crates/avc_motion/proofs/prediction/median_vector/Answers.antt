use Rattle.avc_motion.proofs.MacroblockMotion.{rules, median_back}
use Rattle.avc_motion.proofs.prediction.median_vector.Goals as goal

pub returns : goal.returns
returns c =
    let u = c.args.u in
    let v = c.args.v in
    let w = c.args.w in
    rw (
      median_back c.median.result u.x v.x w.x (search rules) (search rules) (search rules) (search rules) c.median.ensures,
      median_back c.median-2.result u.y v.y w.y (search rules) (search rules) (search rules) (search rules) c.median-2.ensures,
    )

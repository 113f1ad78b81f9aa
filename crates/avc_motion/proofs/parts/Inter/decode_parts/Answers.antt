use Rattle.avc_motion.proofs.MacroblockMotion.{Err, ◌≡◌, rules, sym, ◌∙◌, arith, info_of, motion_near, goes_on, stops}
use Rattle.avc_motion.proofs.parts.Inter.decode_parts.Goals as goal

pub returns-in_err-motion : goal.returns-in_err-motion
returns-in_err-motion c =
    let near = motion_near (info_of c.args.self.now.neighbours.now) in
    let e : c.from_residual.result ≡ Err c.in_err-motion.field-0.0 = search rules in
    rw e (stops near c.args.self.now.mb_type.now c.args.self.now.ref_idx.now c.loop-i.mine c.args.parts.now c.args.mvd.now c.loop-i.i
    (record { x = 0; y = 0; width = 0; height = 0; partition = 0 }) _
    (omega arith) (omega arith) _ c.loop-i.invariant _ (sym c.in_err-motion.was ∙ c.motion_of_part.ensures))

pub loop-i-preserved : goal.loop-i-preserved
loop-i-preserved c =
    let near = motion_near (info_of c.args.self.now.neighbours.now) in
    goes_on near c.args.self.now.mb_type.now c.args.self.now.ref_idx.now c.loop-i.mine c.args.parts.now c.args.mvd.now c.loop-i.i
    (record { x = 0; y = 0; width = 0; height = 0; partition = 0 }) _
    (omega arith) (omega arith) _ c.loop-i.invariant c.in_ok-motion.motion c.fill.new.mine (sym c.in_ok-motion.was ∙ c.motion_of_part.ensures) c.fill.ensures

use Rattle.avc_yuv.proofs.Windows.{◌-◌, arith, length, drop, length-take, sym, subst, take, Appends, done_is, row_more}
use Rattle.avc_yuv.proofs.bytes.write_bytes.Goals as goal

pub loop-done-preserved : goal.loop-done-preserved
loop-done-preserved g c =
    let next = done_is c.args.before c.loop-done.done c.write_once-taken.result c.in_ok-done.done c.in_ok-done.ensures in
    record {
      within = omega (arith, next, length-take (length c.args.bytes.now - c.loop-done.done) (drop c.loop-done.done c.args.bytes.now), c.write_once-taken.ensures.within);
      taken =
          subst (λ n. Appends (g.W.Write.contents c.args.writer.now) (g.W.Write.contents c.write_once-taken.new.writer) (take n c.args.bytes.now)) (sym next)
          (row_more _ _ _ c.args.bytes.now c.loop-done.done c.write_once-taken.result c.loop-done.invariant.taken c.write_once-taken.ensures.bytes);
    }

use Rattle.avc_marking.proofs.KeptFrames.{◌-◌, arith, first-step}
use Rattle.avc_marking.proofs.window.first_in_window.Goals as goal

pub loop-place-preserved : goal.loop-place-preserved
loop-place-preserved c = record {
  later = c.first_in_window_with-first.ensures.later;
  within = c.first_in_window_with-first.ensures.within;
  first = λ indices stand.
      first-step c.args.new.current indices c.args.frames.now (c.loop-place.place - 1) c.loop-place.place c.first_in_window_with-first.result c.loop-place.first
      (omega arith) stand (omega arith) c.first_in_window_with-first.ensures.long c.first_in_window_with-first.ensures.short (c.loop-place.invariant.first indices stand);
}

use Rattle.std.proofs.Common.{◌*◌, ap, sym, ◌∙◌}
use Rattle.avc_yuv.specs.declared.shown.Window.{Window}
use Rattle.avc_compare.proofs.Meetings.{length-shown}
use Rattle.avc_compare.proofs.meeting.samples_of.Goals as goal

pub returns : goal.returns
returns c = ap (λ (w : Window). w.height * w.width) c.window_of-of.ensures.window ∙ sym (length-shown c.args.picture.now c.args.component)

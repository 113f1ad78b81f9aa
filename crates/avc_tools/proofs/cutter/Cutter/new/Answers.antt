use Rattle.avc_tools.proofs.Taking.{refl, stands_new}
use Rattle.avc_tools.proofs.cutter.Cutter.new.Goals as goal

pub returns : goal.returns
returns c = stands_new c.args.number _ refl refl c.in_ok-new.ensures.sps c.in_ok-new.ensures.pps c.new-2.ensures.items

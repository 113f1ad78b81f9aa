use Rattle.avc_decoder.proofs.Events.{kept_new}
use Rattle.avc_decoder.proofs.decoder.Decoder.at_start.Goals as goal

pub invariant_of-result : goal.invariant_of-result
invariant_of-result g c =
    kept_new c.new-2.result.items c.new-3.result.items c.new.result c.new-2.ensures c.new-3.ensures c.new.ensures

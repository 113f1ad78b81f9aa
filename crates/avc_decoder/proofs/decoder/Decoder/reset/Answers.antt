use Rattle.avc_decoder.proofs.Events.{kept_new}
use Rattle.avc_decoder.proofs.decoder.Decoder.reset.Goals as goal

pub invariant_of-self : goal.invariant_of-self
invariant_of-self g c =
    kept_new c.new-self-inside.result.items c.new-self-inside-2.result.items c.new.result c.new-self-inside.ensures
    c.new-self-inside-2.ensures c.new.ensures

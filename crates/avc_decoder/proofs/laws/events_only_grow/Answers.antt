use Rattle.avc_decoder.proofs.Events.{events_grow}
use Rattle.avc_decoder.proofs.laws.events_only_grow.Goals as goal

pub returns : goal.returns
returns c = events_grow c.units_stay.ensures

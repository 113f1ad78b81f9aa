use Rattle.avc_laws.proofs.Resuming.{events_keep}
use Rattle.avc_laws.proofs.events_keep_but_numbers.Goals as goal

pub returns : goal.returns
returns c = events_keep c.sets_come_alike.ensures

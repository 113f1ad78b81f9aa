use Rattle.avc_laws.proofs.Calls.{takes_them, takes_all}
use Rattle.avc_laws.proofs.runs_give_the_events.Goals as goal

pub returns-clause-in_order : goal.returns-clause-in_order
returns-clause-in_order c = takes_them c.events_only_grow.ensures

pub returns-clause-all : goal.returns-clause-all
returns-clause-all c = takes_all c.events_only_grow.ensures

use Rattle.avc_decoder.proofs.Events.{ends}
use Rattle.avc_decoder.proofs.stream.Stream.finish.Goals as goal

pub returns-clause-state : goal.returns-clause-state
returns-clause-state c =
    ends c.args.self.now c.close.new.stream c.empty.new.stream c.in_ok-close.ensures.state c.in_ok-empty.ensures.state

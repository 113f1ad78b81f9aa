use Rattle.avc_decoder.proofs.Events.{behind_end, ended_on}
use Rattle.avc_decoder.proofs.parts.Parts.finish.Goals as goal

pub put_all-requires : goal.put_all-requires
put_all-requires g c =
    behind_end c.args.self.now.stream c.handle_units.new.stream c.finish-2.new.self c.args.self.now.outgoing c.requires.passed
    c.in_ok-handle_units.ensures.handles c.in_ok-finish-2.ensures.state

pub returns : goal.returns
returns g c =
    rw (c.in_ok-put_all.ensures.queue, c.in_ok-put_all.ensures.events)
    (ended_on c.args.self.now c.finish.new.self c.handle_units.new.splitter c.handle_units.new.stream c.finish-2.new.self c.requires
    c.in_ok-finish.ensures.ok c.in_ok-finish-2.ensures.works c.frames_are_few.ensures c.in_ok-handle_units.ensures.handles c.in_ok-finish-2.ensures.state)

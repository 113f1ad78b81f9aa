use Rattle.avc_decoder.proofs.Events.{behind_units, fed_on}
use Rattle.avc_decoder.proofs.parts.Parts.feed_unit.Goals as goal

pub put_all-requires : goal.put_all-requires
put_all-requires g c =
    behind_units c.args.self.now.stream c.handle_units.new.stream c.args.self.now.outgoing c.requires.passed
    c.in_ok-handle_units.ensures.handles

pub returns : goal.returns
returns g c =
    rw (c.in_ok-put_all.ensures.queue, c.in_ok-put_all.ensures.events)
    (fed_on c.args.self.now c.args.bytes.now c.in_ok-used.used c.feed_unit.new.self c.handle_units.new.splitter
    c.handle_units.new.stream c.requires c.in_ok-used.ensures.ok c.in_ok-handle_units.ensures.works c.frames_are_few.ensures
    c.in_ok-handle_units.ensures.handles)

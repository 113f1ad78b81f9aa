use Rattle.avc_annexb.proofs.Written.{splitter_took}
use Rattle.avc_annexb.proofs.splitter.Splitter.feed_unit.Goals as goal

pub returns-in_ok-used-in-Running-clause-ok : goal.returns-in_ok-used-in-Running-clause-ok
returns-in_ok-used-in-Running-clause-ok g c =
    let s = c.self.inside in
    rw (← c.self.view_is, c.in_ok-used-in-Running.ensures.going, c.in-Running.is, c.with_all-self-inside.ensures)
    (splitter_took g.row.MAX s.scanner c.take_unit.new.self s.bytes.items c.args.bytes.now c.in_ok-used-in-Running.used (rw c.in-Running.is at c.self.invariant) (rw (← c.in_ok-used-in-Running.ensures.same) at c.take_unit.ensures.ok)
    (rw (← c.in_ok-used-in-Running.ensures.same) at c.take_unit.ensures.ended) c.take_unit.ensures.given)

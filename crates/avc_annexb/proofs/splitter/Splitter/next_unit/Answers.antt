use Rattle.avc_annexb.proofs.Written.{refl, splitter_state, next_in, taken_more, fewer_wait}
use Rattle.avc_annexb.proofs.splitter.Splitter.next_unit.Goals as goal

pub returns-in-Running : goal.returns-in-Running
returns-in-Running g c =
    let s = c.self.inside in
    let unit = c.next.result in
    let is = next_in s.progress g.row.MAX s.scanner s.bytes.items unit c.self.invariant c.in-Running.is c.next.ensures.unit in
    let taken = taken_more (splitter_state s) s.scanner.ready.given.items c.next.new.self.given.items unit refl c.next.ensures.given in
    rw (← c.self.view_is) (record { unit = is; taken = taken; fewer = fewer_wait g.row.MAX (splitter_state s) _ unit is taken })

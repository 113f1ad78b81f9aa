use Rattle.avc_annexb.proofs.Written.{begun_at_end}
use Rattle.avc_annexb.proofs.splitter.Splitter.units_begun.Goals as goal

pub returns-in-Ended-clause-going : goal.returns-in-Ended-clause-going
returns-in-Ended-clause-going g c = λ going.
    let s = c.self.inside in
    rw (← c.self.view_is) (begun_at_end g.row.MAX s.scanner.ready s.bytes.items (rw c.in-Ended.is at c.self.invariant))

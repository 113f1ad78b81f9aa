use Rattle.avc_annexb.proofs.Written.{true, on_ok_weaker, scanned_end}
use Rattle.avc_annexb.proofs.scanner.Scanner.end.Goals as goal

pub returns-clause-ok : goal.returns-clause-ok
returns-clause-ok g c = on_ok_weaker c.add_any.result (λ added. λ bytes s.
    rw (scanned_end bytes s.done s.current c.args.self.now.zeros true s.scanned) (added s.done s.current s.ready (rw c.take.ensures.value s.unit))) c.add_any.ensures.holds

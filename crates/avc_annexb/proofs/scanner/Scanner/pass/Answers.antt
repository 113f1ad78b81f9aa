use Rattle.avc_annexb.proofs.Written.{◌++◌, replicate, length-append, arith, nat_tests, on_ok_weaker, with_more, scanned_run}
use Rattle.avc_annexb.proofs.scanner.Scanner.pass.Goals as goal

pub returns-clause-ok : goal.returns-clause-ok
returns-clause-ok g c = on_ok_weaker c.append_any.result (λ appended. λ bytes s. record {
  done = s.done;
  current = with_more s.current (replicate c.args.self.now.zeros 0 ++ c.args.run.now);
  scanned = scanned_run bytes s.done s.current c.args.self.now.zeros c.args.run.now s.scanned c.requires.lone (grind (arith, nat_tests)) c.requires.no_zero c.requires.no_start;
  unit = appended s.current s.unit;
  ready = s.ready;
  position = omega (arith, length-append bytes c.args.run.now, s.position);
}) c.append_any.ensures

use Rattle.avc_annexb.proofs.Written.{◌++◌, ℕ, None, arith, length-append, replicate, length-replicate, on_ok_weaker, closed_unit, scanned_few, scanned_many}
use Rattle.avc_annexb.proofs.scanner.Scanner.zeros.Goals as goal

pub returns-clause-ok : goal.returns-clause-ok
returns-clause-ok g c = on_ok_weaker c.add_any.result (λ added. λ bytes s.
    record {
      done = s.done ++ closed_unit s.current;
      current = None;
      scanned = scanned_many c.args.count bytes s.done s.current c.args.self.now.zeros s.scanned (omega arith);
      unit = rw c.take.ensures.after tt;
      ready = added s.done s.current s.ready (rw c.take.ensures.value s.unit);
      position = omega (arith, length-append bytes (replicate c.args.count 0), length-replicate {A = ℕ} c.args.count 0, s.position);
    }) c.add_any.ensures.holds

pub returns-then-count-self-clause-ok : goal.returns-then-count-self-clause-ok
returns-then-count-self-clause-ok g c = λ bytes s. record {
  done = s.done;
  current = s.current;
  scanned = scanned_few c.args.count bytes s.done s.current c.args.self.now.zeros s.scanned (omega (arith, s.scanned.few));
  unit = s.unit;
  ready = s.ready;
  position = omega (arith, length-append bytes (replicate c.args.count 0), length-replicate {A = ℕ} c.args.count 0, s.position);
}

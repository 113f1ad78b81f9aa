use Rattle.avc_annexb.proofs.Written.{◌+◌, ◌++◌, [], Some, length, arith, length_push, on_ok_weaker, closed_unit, scanned_start}
use Rattle.avc_annexb.proofs.scanner.Scanner.start_code.Goals as goal

pub returns-clause-ok : goal.returns-clause-ok
returns-clause-ok g c = on_ok_weaker c.add_any.result (λ added. λ bytes s. record {
  done = s.done ++ closed_unit s.current;
  current = Some (record { offset = length bytes + 1; bytes = [] });
  scanned = scanned_start bytes s.done s.current (rw c.requires at s.scanned);
  unit = rw c.replace-ended.ensures.after (c.new-2.ensures (length bytes + 1) (omega (arith, s.position)));
  ready = added s.done s.current s.ready (rw c.replace-ended.ensures.value s.unit);
  position = omega (arith, length_push bytes 1, s.position);
}) c.add_any.ensures.holds

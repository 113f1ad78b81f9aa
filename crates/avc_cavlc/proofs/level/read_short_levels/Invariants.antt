use Rattle.avc_cavlc.proofs.Levels.{◌-◌, ◌≤◌, passed, take, reader_bits}
use Rattle.avc_cavlc.proofs.Short.{IsOneMore}
use Rattle.avc_cavlc.specs.Steps.{left_from}
use Rattle.avc_cavlc.proofs.level.read_short_levels.Given as goal

abbrev pub invariant-levels : goal.invariant-levels
invariant-levels l = record {
  least : l.fn.first.count ≤ l.k;
  most : l.k ≤ l.total;
  few : l.passed ≤ 57;
  is : IsOneMore l.values l.total l.k l.next (passed (reader_bits l.reader) l.passed)
      (left_from (take l.fn.first.count l.fn.values) (l.total - l.fn.first.count) l.fn.first.stage (passed (reader_bits l.reader) l.front));
}

abbrev pub decreases-levels : goal.decreases-levels
decreases-levels l = l.total - l.k

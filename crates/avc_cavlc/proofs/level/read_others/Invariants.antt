use Rattle.avc_cavlc.proofs.Levels.{◌≡◌, ◌-◌, ◌≤◌, take, reader_bits, reader_bytes}
use Rattle.avc_cavlc.proofs.Short.{IsOneMore}
use Rattle.avc_cavlc.specs.Steps.{left_from}
use Rattle.avc_cavlc.proofs.level.read_others.Given as goal

abbrev pub invariant-levels : goal.invariant-levels
invariant-levels l = record {
  most : l.k ≤ l.total;
  is : IsOneMore l.values l.total l.k l.stage (reader_bits l.reader) (left_from (take l.fn.first.count l.fn.values) (l.total - l.fn.first.count) l.fn.first.stage (reader_bits l.fn.reader));
  bytes : reader_bytes l.reader ≡ reader_bytes l.fn.reader;
}

abbrev pub decreases-levels : goal.decreases-levels
decreases-levels l = l.total - l.k

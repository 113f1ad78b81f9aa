use Rattle.std.proofs.Common.{◌≡◌, ◌≤◌, ◌-◌}
use Rattle.avc_bits.specs.Reader.{reader_bits, reader_bytes}
use Rattle.avc_info.specs.RefusedSet.{scaling_lists}
use Rattle.avc_info.proofs.refused_set.pass_scaling_lists.Given as goal

abbrev pub invariant-loop : goal.invariant-loop
invariant-loop l = record {
  within : l.counter ≤ l.count;
  read : scaling_lists l.count l.entries (reader_bits l.fn.reader) ≡ scaling_lists (l.count - l.counter) l.entries (reader_bits l.reader);
  bytes : reader_bytes l.reader ≡ reader_bytes l.fn.reader;
}

use Rattle.std.proofs.Common.{◌≡◌, ◌≤◌, ◌-◌}
use Rattle.avc_bits.specs.Reader.{reader_bits, reader_bytes}
use Rattle.avc_info.specs.RefusedSet.{scaling_list}
use Rattle.avc_info.proofs.refused_set.pass_scaling_list.Given as goal

abbrev pub invariant-loop : goal.invariant-loop
invariant-loop l = record {
  within : l.counter ≤ l.entries;
  read : scaling_list l.entries 8 (reader_bits l.fn.reader) ≡ scaling_list (l.entries - l.counter) l.last_scale (reader_bits l.reader);
  bytes : reader_bytes l.reader ≡ reader_bytes l.fn.reader;
}

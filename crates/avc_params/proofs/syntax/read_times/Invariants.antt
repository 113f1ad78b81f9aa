use Rattle.avc_params.proofs.ParameterSets.{◌≡◌, ◌≤◌, length, Ok, times, reader_bits, reader_bytes}
use Rattle.avc_params.proofs.syntax.read_times.Given as goal

abbrev pub invariant-loop : goal.invariant-loop
invariant-loop g l = record {
  within : l.counter ≤ l.count;
  long : length l.items ≡ l.counter;
  read : times l.counter g.T.Syntax.syntax (reader_bits l.fn.reader) ≡ Ok (l.items, reader_bits l.reader);
  bytes : reader_bytes l.reader ≡ reader_bytes l.fn.reader;
}

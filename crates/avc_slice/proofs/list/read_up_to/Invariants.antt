use Rattle.avc_slice.proofs.ReadUnder.{◌≡◌, ◌≤◌, ◌-◌, length, ue_to, reader_bits, reader_bytes, up_to, IsUnderWay}
use Rattle.avc_slice.proofs.list.read_up_to.Given as goal

abbrev pub invariant-loop : goal.invariant-loop
invariant-loop g l = record {
  within : l.counter ≤ l.room;
  long : length l.items ≡ l.counter;
  read : IsUnderWay (ue_to l.ending.top) l.ending.stop (g.T.Coded.item l.most) l.ending.fault
      (up_to (ue_to l.ending.top) l.ending.stop (g.T.Coded.item l.most) l.ending.fault l.room (reader_bits l.fn.reader))
      (l.room - l.counter) l.items (reader_bits l.reader);
  bytes : reader_bytes l.reader ≡ reader_bytes l.fn.reader;
}

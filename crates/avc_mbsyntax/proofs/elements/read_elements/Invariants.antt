use Rattle.avc_mbsyntax.proofs.SliceDataReading.{◌≡◌, length, take, Ok, times, reader_bits, reader_bytes}
use Rattle.avc_mbsyntax.proofs.elements.read_elements.Given as goal

abbrev pub invariant-elements : goal.invariant-elements
invariant-elements g l = record {
  long : length l.elements ≡ g.row.N;
  read : times l.k (g.T.Element.part l.fn.most) (reader_bits l.fn.reader) ≡ Ok (take l.k l.elements, reader_bits l.reader);
  bytes : reader_bytes l.reader ≡ reader_bytes l.fn.reader;
}

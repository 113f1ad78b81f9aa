use Rattle.avc_mbsyntax.proofs.SliceDataReading.{◌≡◌, ◌==◌, option_copied, reader_bits, reader_bytes, AreRead}
use Rattle.avc_mbsyntax.proofs.blocks.read_chroma_blocks.Given as goal

abbrev pub invariant-each : goal.invariant-each
invariant-each l = record {
  are : AreRead 15 8 4 (λ k. l.chroma_pattern == 2) (option_copied l.left) (option_copied l.up) (reader_bits l.fn.reader) (reader_bits l.reader) l.levels l.total_coeffs l.k;
  bytes : reader_bytes l.reader ≡ reader_bytes l.fn.reader;
}

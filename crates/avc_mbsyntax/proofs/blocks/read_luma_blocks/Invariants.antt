use Rattle.avc_mbsyntax.proofs.SliceDataReading.{◌≡◌, option_copied, reader_bits, reader_bytes, is_coded, AreRead}
use Rattle.avc_mbsyntax.proofs.blocks.read_luma_blocks.Given as goal

abbrev pub invariant-each : goal.invariant-each
invariant-each g l = record {
  are : AreRead g.row.MAXN 16 16 (is_coded l.luma_pattern) (option_copied l.left) (option_copied l.up) (reader_bits l.fn.reader) (reader_bits l.reader) l.levels l.total_coeffs l.k;
  bytes : reader_bytes l.reader ≡ reader_bytes l.fn.reader;
}

use Rattle.std.proofs.Common.{◌≡◌, ℕ, ◌<◌, length, get_or}
use Rattle.avc_png.specs.Checksums.{after_byte}
use Rattle.avc_png.proofs.crc.table.Given as goal

abbrev pub invariant-loop-byte : goal.invariant-loop-byte
invariant-loop-byte l = record {
  long : length l.table ≡ 256;
  done : (k : ℕ) → k < l.byte → get_or l.table k 0 ≡ after_byte 0 k;
}

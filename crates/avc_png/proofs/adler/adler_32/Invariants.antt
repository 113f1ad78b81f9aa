use Rattle.std.proofs.Common.{◌≡◌, ◌+◌, ◌%◌, sum, take}
use Rattle.avc_png.specs.Checksums.{running_sums}
use Rattle.avc_png.proofs.adler.adler_32.Given as goal

abbrev pub invariant-loop-byte : goal.invariant-loop-byte
invariant-loop-byte l = record {
  low : l.low ≡ (1 + sum (take l.byte-index l.bytes)) % 65521;
  high : l.high ≡ sum (running_sums 1 (take l.byte-index l.bytes)) % 65521;
}

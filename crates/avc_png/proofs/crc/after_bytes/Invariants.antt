use Rattle.std.proofs.Common.{◌≡◌, fold, take}
use Rattle.avc_png.specs.Checksums.{after_byte}
use Rattle.avc_png.proofs.crc.after_bytes.Given as goal

abbrev pub invariant-loop-byte : goal.invariant-loop-byte
invariant-loop-byte l = l.register ≡ fold after_byte l.before (take l.byte-index l.bytes)

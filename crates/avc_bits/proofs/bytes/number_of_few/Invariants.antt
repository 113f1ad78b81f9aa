use Rattle.avc_bits.proofs.Reading.{◌≡◌, take, byte_bits, number_of}
use Rattle.avc_bits.proofs.bytes.number_of_few.Given as goal

abbrev pub invariant-bytes : goal.invariant-bytes
invariant-bytes l = l.value ≡ number_of (byte_bits (take l.byte-index l.bytes))

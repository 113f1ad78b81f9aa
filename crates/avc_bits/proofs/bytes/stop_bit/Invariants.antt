use Rattle.avc_bits.proofs.Reading.{◌≡◌, ◌≤◌, ℕ, length, get_or}
use Rattle.avc_bits.proofs.bytes.stop_bit.Given as goal

abbrev pub invariant-loop-len : goal.invariant-loop-len
invariant-loop-len l = record { within : l.len ≤ length l.bytes; zeros : (k : ℕ) → l.len ≤ k → get_or l.bytes k 0 ≡ 0 }

abbrev pub decreases-loop-len : goal.decreases-loop-len
decreases-loop-len l = l.len

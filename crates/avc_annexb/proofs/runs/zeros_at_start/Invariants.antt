use Rattle.avc_annexb.proofs.Written.{◌≡◌, ◌≤◌, ◌-◌, length, take, replicate}
use Rattle.avc_annexb.proofs.runs.zeros_at_start.Given as goal

-- the bytes before this place are zeros
abbrev pub invariant-loop-count : goal.invariant-loop-count
invariant-loop-count l = record {
  zeros : take l.count l.bytes ≡ replicate l.count 0;
  within : l.count ≤ length l.bytes;
}

abbrev pub decreases-loop-count : goal.decreases-loop-count
decreases-loop-count l = length l.bytes - l.count

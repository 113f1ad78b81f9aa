use Rattle.avc_annexb.proofs.Written.{◌≤◌, ◌-◌, length, HasLoneZerosBefore}
use Rattle.avc_annexb.proofs.runs.run_length.Given as goal

-- each zero before this place stands alone
abbrev pub invariant-loop-len : goal.invariant-loop-len
invariant-loop-len l = record {
  lone : HasLoneZerosBefore l.place l.bytes;
  within : l.place ≤ length l.bytes;
}

abbrev pub decreases-loop-len : goal.decreases-loop-len
decreases-loop-len l = length l.bytes - l.place

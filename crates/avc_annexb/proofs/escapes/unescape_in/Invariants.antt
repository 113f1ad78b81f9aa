use Rattle.avc_annexb.proofs.Written.{◌≡◌, ◌≤◌, ◌++◌, ◌-◌, drop, length, rbsp, resumed}
use Rattle.avc_annexb.proofs.escapes.unescape_in.Given as goal

-- what was written and what is still to come are the RBSP
abbrev pub invariant-loop-len : goal.invariant-loop-len
invariant-loop-len l = record {
  sum : l.raw.items ++ resumed l.zeros (drop l.place l.body) ≡ rbsp l.body;
  few : l.zeros ≤ 2;
  within : l.place ≤ length l.body;
}

abbrev pub decreases-loop-len : goal.decreases-loop-len
decreases-loop-len l = length l.body - l.place

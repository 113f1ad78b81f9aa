use Rattle.avc_rbsp.proofs.Reading.{◌≡◌, ◌≤◌, ◌++◌, drop, escaped, escaped_after}
use Rattle.avc_rbsp.proofs.escapes.escape.Given as goal

-- what was written and what is still to come are all
abbrev pub invariant-loop-byte : goal.invariant-loop-byte
invariant-loop-byte l = record {
  sum : l.body.items ++ escaped_after l.zeros (drop l.byte-index l.rbsp) ≡ escaped l.rbsp;
  few : l.zeros ≤ 2;
}

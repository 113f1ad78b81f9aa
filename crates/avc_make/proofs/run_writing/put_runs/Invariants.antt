use Rattle.avc_make.proofs.Slices.{◌≡◌, ◌++◌, ◌+◌, ◌≤◌, drop, length, false, sum, runs_bits, runs_of}
use Rattle.avc_make.proofs.run_writing.put_runs.Given as goal

-- what was put and the runs that are left are all
abbrev pub invariant-runs : goal.invariant-runs
invariant-runs l = record {
  going : l.maker.failed ≡ false;
  put : l.maker.bits ++ runs_bits l.zeros_left (drop l.k (runs_of l.found)) ≡ l.fn.maker.bits ++ runs_bits l.zeros (runs_of l.found);
  left : sum (drop l.k (runs_of l.found)) ≡ l.zeros_left;
  few : l.zeros_left ≤ l.zeros;
  others : l.others + l.k ≡ length l.found;
}

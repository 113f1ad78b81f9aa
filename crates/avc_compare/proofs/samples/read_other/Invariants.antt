use Rattle.avc_compare.proofs.Comparisons.{◌≡◌, ◌≤◌, ◌-◌, length, take, Consumes}
use Rattle.avc_compare.proofs.samples.read_other.Given as goal

abbrev pub invariant-reads : goal.invariant-reads
invariant-reads g l = record {
  long : length l.bytes ≡ length l.fn.bytes;
  within : l.count ≤ length l.bytes;
  consumed : Consumes (g.O.Read.remaining l.fn.other) (g.O.Read.remaining l.other) (take l.count l.bytes);
}

abbrev pub decreases-reads : goal.decreases-reads
decreases-reads g l = length l.bytes - l.count

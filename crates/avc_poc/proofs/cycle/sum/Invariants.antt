use Rattle.avc_poc.proofs.OrderCounts.{◌≡◌, ◌*◌, ◌^◌, pos, ◌+ℤ◌, ◌≤ℤ◌, neg_ℤ, drop, sum_ℤ}
use Rattle.avc_poc.proofs.cycle.sum.Given as goal

abbrev pub invariant-loop-offset : goal.invariant-loop-offset
invariant-loop-offset l = record {
  so_far : l.sum +ℤ sum_ℤ (drop l.offset-index l.offsets) ≡ sum_ℤ l.offsets;
  low : neg_ℤ (pos (l.offset-index * 2 ^ 31)) ≤ℤ l.sum;
  high : l.sum ≤ℤ pos (l.offset-index * 2 ^ 31);
}

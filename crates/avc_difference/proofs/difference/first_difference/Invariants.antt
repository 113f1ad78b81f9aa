use Rattle.std.proofs.Common.{◌≡◌, ℕ, ◌<◌, false}
use Rattle.avc_difference.specs.Differences.{differs_at}
use Rattle.avc_difference.proofs.difference.first_difference.Given as goal

abbrev pub invariant-samples : goal.invariant-samples
invariant-samples l = (k : ℕ) → k < l.place → differs_at l.most l.ours l.theirs k ≡ false

use Rattle.std.proofs.Common.{◌≡◌, ◌≤◌}
use Rattle.avc_difference.specs.Differences.{count_below, differs_at}
use Rattle.avc_difference.proofs.difference.count_differences.Given as goal

abbrev pub invariant-samples : goal.invariant-samples
invariant-samples l = record { few : l.count ≤ l.place; counted : l.count ≡ count_below l.place (differs_at l.most l.ours l.theirs) }

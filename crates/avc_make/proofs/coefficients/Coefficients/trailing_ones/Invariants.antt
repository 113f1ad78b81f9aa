use Rattle.avc_make.proofs.Slices.{◌≡◌, ◌≤◌, ◌+◌, ◌-◌, drop, length, ones_first, values_of}
use Rattle.avc_make.proofs.coefficients.Coefficients.trailing_ones.Given as goal

-- those so far, and those among the others
abbrev pub invariant-ones : goal.invariant-ones
invariant-ones l = record {
  all : l.k + ones_first (3 - l.k) (drop l.k (values_of l.self)) ≡ ones_first 3 (values_of l.self);
  within : l.k ≤ length l.self;
}

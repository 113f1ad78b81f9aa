use Rattle.avc_make.proofs.Slices.{◌≡◌, ◌≤◌, ◌+◌, ◌++◌, drop, length, reverse, after_zeros, coded}
use Rattle.avc_make.proofs.coefficients.Coefficients.of.Given as goal

-- what is left to be found and what was found are all
abbrev pub invariant-levels : goal.invariant-levels
invariant-levels g l = record {
  all : reverse (after_zeros l.zeros (drop l.k l.levels)) ++ l.found ≡ coded l.levels;
  few : length l.found + l.zeros ≤ l.k;
}

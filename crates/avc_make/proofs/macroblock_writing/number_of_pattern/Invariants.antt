use Rattle.avc_make.proofs.Slices.{◌≡◌, ◌+◌, drop, pattern_number, place_of, table_of}
use Rattle.avc_make.proofs.macroblock_writing.number_of_pattern.Given as goal

-- those that were passed, and its place among the others
abbrev pub invariant-numbers : goal.invariant-numbers
invariant-numbers l = record {
  place : l.k + place_of l.pattern (drop l.k (table_of l.intra)) ≡ pattern_number l.intra l.pattern;
}

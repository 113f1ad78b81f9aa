use Rattle.avc_syntax_tests.proofs.Following.{◌≡◌, ◌+◌, ℕ, Bool, length, GoesOn}
use Rattle.avc_syntax_tests.proofs.macroblock_types.add_i_types.Given as goal

abbrev pub invariant-types : goal.invariant-types
invariant-types l = record {
  goes_on : (p : Bool) (n first : ℕ) → GoesOn p n first l.fn.qp l.now l.fn.list.items l.list.items;
  more : length l.list.items ≡ length l.fn.list.items + 1 + l.k;
}

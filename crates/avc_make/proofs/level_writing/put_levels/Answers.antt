use Rattle.avc_make.proofs.Slices.{◌≡◌, ◌≤◌, pos, nat_abs, to_z, of_z, w16, ap, ◌∙◌, arith, append_assoc, ints, length-map, drop_all, put_all, values_of}
use Rattle.avc_make.proofs.Slices.{code_of_level, next_suffix_length, level_most, levels_at}
use Rattle.avc_make.proofs.level_writing.put_levels.Goals as goal

pub put_level-requires-clause-code : goal.put_level-requires-clause-code
put_level-requires-clause-code c =
    let same : to_z w16 (of_z w16 c.level-level.result) ≡ c.level-level.result = omega (arith, ints, c.level-level.type_inv) in
    let here = levels_at c.args.found.now _ _ c.levels.k c.level-level.result (omega arith) c.level-level.ensures c.levels.invariant.codes in
    omega (arith, here.0.0, c.code_of_level.ensures, ap (code_of_level c.levels.above_one) same)

pub next_suffix_length-suffix_length-requires-clause-size : goal.next_suffix_length-suffix_length-requires-clause-size
next_suffix_length-suffix_length-requires-clause-size c =
    let same : to_z w16 (of_z w16 c.level-level.result) ≡ c.level-level.result = omega (arith, ints, c.level-level.type_inv) in
    let here = levels_at c.args.found.now _ _ c.levels.k c.level-level.result (omega arith) c.level-level.ensures c.levels.invariant.codes in
    let some : 1 ≤ nat_abs c.level-level.result =
    rw c.level-level.ensures (c.requires.some c.levels.k (pos 0) (omega (arith, length-map c.args.found.now (λ p. p.0)))) in
    rw same (record { some = some; most = level_most c.levels.suffix_length c.levels.above_one _ c.levels.invariant.few c.levels.invariant.first here.0.0 })

pub levels-preserved : goal.levels-preserved
levels-preserved c =
    let same : to_z w16 (of_z w16 c.level-level.result) ≡ c.level-level.result = omega (arith, ints, c.level-level.type_inv) in
    let here = levels_at c.args.found.now _ _ c.levels.k c.level-level.result (omega arith) c.level-level.ensures c.levels.invariant.codes in
    let next = c.next_suffix_length-suffix_length.ensures.value ∙ ap (next_suffix_length c.levels.suffix_length) same in
    record {
      going = ap (λ m. m.failed) c.in_ok-put_level.ensures.1;
      put = rw (c.in_ok-put_level.ensures.1, append_assoc, c.code_of_level.ensures, same, next, ← here.1) c.levels.invariant.put;
      codes = rw next (here.0.1);
      few = c.next_suffix_length-suffix_length.ensures.few;
      first = λ t. cc;
    }

pub level-level-requires : goal.level-level-requires
level-level-requires c = omega (arith, c.levels-test.true, c.len-k-end.ensures.value)

pub put_level-requires-clause-length : goal.put_level-requires-clause-length
put_level-requires-clause-length c = c.levels.invariant.few

pub returns : goal.returns
returns c =
    let none = drop_all c.levels.k (values_of c.args.found.now) (omega (arith, c.levels-test.false, c.len-k-end.ensures.value, length-map c.args.found.now (λ p. p.0))) in
    (c.requires.going, put_all c.args.maker.now c.levels.maker _ c.levels.invariant.going (rw none at c.levels.invariant.put))

use Rattle.avc_samples.proofs.Places.{◌*◌, ◌+◌, arith, pos, slice_index_or, ap, ◌∙◌, by_line, sums_left}
use Rattle.avc_samples.proofs.sums.move_on.Goals as goal

pub sixteen_sums-next-requires-clause-small : goal.sixteen_sums-next-requires-clause-small
sixteen_sums-next-requires-clause-small g c = sums_left _ c.loop-row.row _ _ c.requires.small c.loop-row-test.true c.loop-row.invariant.moved c.loop-row.invariant.left

pub loop-row-preserved : goal.loop-row-preserved
loop-row-preserved g c =
    let row = c.loop-row.row in
    record {
      moved = by_line 16 _ row
          (λ k low. c.put_sums.ensures.before k low ∙ c.loop-row.invariant.moved k low)
          (λ i low. c.put_sums.ensures.inside i low ∙ c.sixteen_sums-next.ensures.value i low
          ∙ c.loop-row.invariant.left (16 * (row + 1) + i) (omega arith) ∙ ap (λ k. slice_index_or c.args.window.now k (pos 0)) (omega arith));
      left = λ k low. c.put_sums.ensures.behind k (omega arith) ∙ c.loop-row.invariant.left k (omega arith);
    }

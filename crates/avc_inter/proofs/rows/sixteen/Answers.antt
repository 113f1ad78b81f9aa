use Rattle.avc_inter.proofs.SixRows.{arith, rules, ap, ◌∙◌, slice_index, place_at, line_fits, by_line}
use Rattle.avc_inter.proofs.rows.sixteen.Goals as goal

pub overflow_mul-y : goal.overflow_mul-y
overflow_mul-y g c = omega (arith, line_fits _ _ c.args.source.lanes c.args.at _ _ c.requires c.loop-y-test.true)

pub overflow_add-at : goal.overflow_add-at
overflow_add-at g c = omega (arith, line_fits _ _ c.args.source.lanes c.args.at _ _ c.requires c.loop-y-test.true)

pub load-requires-clause-source : goal.load-requires-clause-source
load-requires-clause-source g c = line_fits _ _ c.args.source.lanes c.args.at _ _ c.requires c.loop-y-test.true

pub loop-y-preserved : goal.loop-y-preserved
loop-y-preserved g c = record {
  long = search rules;
  done = by_line g.row.L _ c.loop-y.y
      (λ k low. c.load.ensures.before k low ∙ c.loop-y.invariant.done k low)
      (λ x low. c.load.ensures.here x low ∙ ap (slice_index c.args.source.samples.now) (omega (arith, place_at g.row.L c.args.source.stride c.args.source.lanes c.loop-y.y x low)));
}

use Rattle.avc_inter.proofs.SixRows.{three_words, ℤ, ◌+◌, arith, subst, sym, ap, ◌∙◌, IsSum, by_line, place_row, row_begins, row_within, taps_along}
use Rattle.avc_inter.proofs.centres.put_sum_row.Goals as goal

pub overflow_mul-row : goal.overflow_mul-row
overflow_mul-row g c = omega (arith, row_begins _ _ c.args.source.lanes _ (c.args.at + 5) c.args.row _ c.requires.samples (omega arith))

pub overflow_add-at : goal.overflow_add-at
overflow_add-at g c = omega (arith, row_begins _ _ c.args.source.lanes _ (c.args.at + 5) c.args.row _ c.requires.samples (omega arith))

pub sum_row-next-requires : goal.sum_row-next-requires
sum_row-next-requires g c = (three_words, λ k low. row_within _ _ c.args.source.lanes _ c.args.at 5 c.args.row k _ c.requires.samples (omega arith) low)

pub returns : goal.returns
returns g c = record {
  value = by_line 16 _ c.args.row
      (λ k low. c.put_sums.ensures.before k low ∙ c.requires.sums.value k low)
      (λ i low. c.put_sums.ensures.inside i low ∙ c.sum_row-next.ensures.value i low
      ∙ ap (λ k. taps_along c.args.source.samples.now k 1) (omega (arith, place_row g.row.L c.args.source.stride c.args.source.lanes c.args.row i)));
  small = by_line 16 _ c.args.row
      (λ k low. subst (λ (z : ℤ). IsSum z) (sym (c.put_sums.ensures.before k low)) (c.requires.sums.small k low))
      (λ i low. subst (λ (z : ℤ). IsSum z) (sym (c.put_sums.ensures.inside i low)) (c.sum_row-next.ensures.small i low));
}

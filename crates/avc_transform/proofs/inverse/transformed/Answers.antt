use Rattle.avc_transform.proofs.Residuals.{ℕ, ℤ, ◌+◌, ◌*◌, ◌^◌, ◌+ℤ◌, arith, ap, ◌∙◌, pos}
use Rattle.avc_transform.proofs.Residuals.{◌>>ℤ◌, AreBelow, transformed_row, transformed, Lines, AllBelow-more, more_lines}
use Rattle.avc_transform.proofs.inverse.transformed.Goals as goal

pub exchanged-requires : goal.exchanged-requires
exchanged-requires c = more_lines _ (omega arith) (c.inverse4.ensures.small (2 ^ 26) c.requires)

pub inverse4-rows-requires : goal.inverse4-rows-requires
inverse4-rows-requires c = more_lines _ (omega arith) (c.exchanged.ensures.small (7 * 2 ^ 26 + 1) (c.inverse4.ensures.small (2 ^ 26) c.requires))

-- the rows after both transforms
both : (a b d : Lines) → AreBelow (7 * 2 ^ 26 + 1) a → ((n : ℕ) → AreBelow n a → AreBelow n b) → ((n : ℕ) → AreBelow (2 * n) b → AreBelow (7 * n + 1) d) →
    AreBelow (49 * 2 ^ 25 + 9) d
both a b d small exchanged rows =
    more_lines d (omega arith) (rows (7 * 2 ^ 25 + 1) (more_lines b (omega arith) (exchanged (7 * 2 ^ 26 + 1) small)))

pub all_rounded-requires : goal.all_rounded-requires
all_rounded-requires c = (both _ _ _ (c.inverse4.ensures.small (2 ^ 26) c.requires) c.exchanged.ensures.small c.inverse4-rows.ensures.small).zeroth

pub all_rounded-requires-2 : goal.all_rounded-requires-2
all_rounded-requires-2 c = (both _ _ _ (c.inverse4.ensures.small (2 ^ 26) c.requires) c.exchanged.ensures.small c.inverse4-rows.ensures.small).first

pub all_rounded-requires-3 : goal.all_rounded-requires-3
all_rounded-requires-3 c = (both _ _ _ (c.inverse4.ensures.small (2 ^ 26) c.requires) c.exchanged.ensures.small c.inverse4-rows.ensures.small).second

pub all_rounded-requires-4 : goal.all_rounded-requires-4
all_rounded-requires-4 c = (both _ _ _ (c.inverse4.ensures.small (2 ^ 26) c.requires) c.exchanged.ensures.small c.inverse4-rows.ensures.small).third

pub in_rows-requires : goal.in_rows-requires
in_rows-requires c = record {
  zeroth = AllBelow-more _ (omega arith) c.all_rounded.ensures.small;
  first = AllBelow-more _ (omega arith) c.all_rounded-2.ensures.small;
  second = AllBelow-more _ (omega arith) c.all_rounded-3.ensures.small;
  third = AllBelow-more _ (omega arith) c.all_rounded-4.ensures.small;
}

pub returns : goal.returns
returns c = record {
  values = λ f l.
      let shift = λ (z : ℤ). z +ℤ pos 32 >>ℤ 6 in
      let rows = c.inverse4-rows.ensures.values (λ x y. transformed_row f y x) (c.exchanged.ensures.values (transformed_row f) (c.inverse4.ensures.values f l)) in
      c.in_rows.ensures.values (λ y x. transformed f x y) (record {
        zeroth = λ x h. c.all_rounded.ensures.values x h ∙ ap shift (rows.zeroth x h);
        first = λ x h. c.all_rounded-2.ensures.values x h ∙ ap shift (rows.first x h);
        second = λ x h. c.all_rounded-3.ensures.values x h ∙ ap shift (rows.second x h);
        third = λ x h. c.all_rounded-4.ensures.values x h ∙ ap shift (rows.third x h);
      });
  small = c.in_rows.ensures.small (2 ^ 25) (record {
    zeroth = c.all_rounded.ensures.small;
    first = c.all_rounded-2.ensures.small;
    second = c.all_rounded-3.ensures.small;
    third = c.all_rounded-4.ensures.small;
  });
}

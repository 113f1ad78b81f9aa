use Rattle.avc_transform.proofs.Residuals.{ℕ, ◌*◌, ◌^◌, ◌∙◌, ap, arith, level, zigzag, hadamard_row, luma_dc_scaled}
use Rattle.avc_transform.proofs.Residuals.{AreBelow, Lines, AllBelow-more, more_lines, product_is}
use Rattle.avc_transform.proofs.dc.luma_dc.Goals as goal

pub hadamard4-requires : goal.hadamard4-requires
hadamard4-requires c = more_lines _ (omega arith) c.in_columns.ensures.small

pub exchanged-requires : goal.exchanged-requires
exchanged-requires c = more_lines _ (omega arith) (c.hadamard4.ensures.small (2 ^ 12) c.in_columns.ensures.small)

pub hadamard4-rows-requires : goal.hadamard4-rows-requires
hadamard4-rows-requires c = more_lines _ (omega arith) (c.exchanged.ensures.small (2 ^ 14) (c.hadamard4.ensures.small (2 ^ 12) c.in_columns.ensures.small))

-- the rows after both products
both : (a b d : Lines) → AreBelow (2 ^ 14) a → ((n : ℕ) → AreBelow n a → AreBelow n b) → ((n : ℕ) → AreBelow n b → AreBelow (4 * n) d) → AreBelow (2 ^ 16) d
both a b d small exchanged rows = rows (2 ^ 14) (exchanged (2 ^ 14) small)

pub luma_dc_scaled-requires-clause-small : goal.luma_dc_scaled-requires-clause-small
luma_dc_scaled-requires-clause-small c = (both _ _ _ (c.hadamard4.ensures.small (2 ^ 12) c.in_columns.ensures.small) c.exchanged.ensures.small c.hadamard4-rows.ensures.small).zeroth

pub luma_dc_scaled-requires-2-clause-small : goal.luma_dc_scaled-requires-2-clause-small
luma_dc_scaled-requires-2-clause-small c = (both _ _ _ (c.hadamard4.ensures.small (2 ^ 12) c.in_columns.ensures.small) c.exchanged.ensures.small c.hadamard4-rows.ensures.small).first

pub luma_dc_scaled-requires-3-clause-small : goal.luma_dc_scaled-requires-3-clause-small
luma_dc_scaled-requires-3-clause-small c = (both _ _ _ (c.hadamard4.ensures.small (2 ^ 12) c.in_columns.ensures.small) c.exchanged.ensures.small c.hadamard4-rows.ensures.small).second

pub luma_dc_scaled-requires-4-clause-small : goal.luma_dc_scaled-requires-4-clause-small
luma_dc_scaled-requires-4-clause-small c = (both _ _ _ (c.hadamard4.ensures.small (2 ^ 12) c.in_columns.ensures.small) c.exchanged.ensures.small c.hadamard4-rows.ensures.small).third

pub in_rows-requires : goal.in_rows-requires
in_rows-requires c = record {
  zeroth = AllBelow-more _ (omega arith) c.luma_dc_scaled.ensures.small;
  first = AllBelow-more _ (omega arith) c.luma_dc_scaled-2.ensures.small;
  second = AllBelow-more _ (omega arith) c.luma_dc_scaled-3.ensures.small;
  third = AllBelow-more _ (omega arith) c.luma_dc_scaled-4.ensures.small;
}

pub returns : goal.returns
returns c =
    let qp = c.args.qp in
    let f = λ (x y : ℕ). level c.args.levels.now (zigzag x y) in
    let columns = c.hadamard4.ensures.values f c.in_columns.ensures.values in
    let rows = c.hadamard4-rows.ensures.values _ (c.exchanged.ensures.values _ columns) in
    record {
      values = λ x y column row.
          c.in_rows.ensures.values (λ y x. luma_dc_scaled qp (hadamard_row (λ v. hadamard_row (λ u. f u v) x) y)) (record {
            zeroth = λ x h. c.luma_dc_scaled.ensures.values x h ∙ ap (luma_dc_scaled qp) (rows.zeroth x h);
            first = λ x h. c.luma_dc_scaled-2.ensures.values x h ∙ ap (luma_dc_scaled qp) (rows.first x h);
            second = λ x h. c.luma_dc_scaled-3.ensures.values x h ∙ ap (luma_dc_scaled qp) (rows.second x h);
            third = λ x h. c.luma_dc_scaled-4.ensures.values x h ∙ ap (luma_dc_scaled qp) (rows.third x h);
          }) x y column row
          ∙ ap (luma_dc_scaled qp) (product_is f x y column row);
      small = c.in_rows.ensures.small (2 ^ 27) (record {
        zeroth = c.luma_dc_scaled.ensures.small;
        first = c.luma_dc_scaled-2.ensures.small;
        second = c.luma_dc_scaled-3.ensures.small;
        third = c.luma_dc_scaled-4.ensures.small;
      });
    }

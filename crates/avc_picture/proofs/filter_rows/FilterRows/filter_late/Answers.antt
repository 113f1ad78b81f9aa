use Rattle.avc_picture.proofs.Slices.{◌≡◌, ◌∙◌, ◌<◌, ◌+◌, ◌-◌, ◌/◌, suc, length, sym, ap, arith, rules, w8, to_z, of_z, rows_filtered, row_of_last}
use Rattle.avc_picture.proofs.Slices.{same_row, next_row}
use Rattle.avc_picture.proofs.filter_rows.FilterRows.filter_late.Goals as goal

pub returns-then-self-clause-lines : goal.returns-then-self-clause-lines
returns-then-self-clause-lines g c =
    let i = c.self.inside in
    let k = c.self.invariant.0 in
    let back : to_z w8 (of_z w8 c.args.chroma_qp_index_offset) ≡ c.args.chroma_qp_index_offset = search rules in
    let here = row_of_last k in
    let next = next_row k (omega (arith, c.if-self.true)) in
    let same : suc (length i.info.items) / i.width - 1 ≡ length i.info.items / i.width = omega arith in
    let lines = rw (← c.self.view_is, back) at c.filter_last_row.ensures.lines in
    rw (← c.self.view_is, same) lines

pub returns-else-self-clause-lines : goal.returns-else-self-clause-lines
returns-else-self-clause-lines g c = rw (← c.self.view_is) (λ coded names of s old.
    let i = c.self.inside in
    let more : i.column + 1 < i.width = omega (arith, c.if-self.false, c.self.invariant.0.narrow) in
    old ∙ ap (λ n. rows_filtered coded (n - 1) s) (row_of_last c.self.invariant.0 ∙ sym (same_row c.self.invariant.0 more)))

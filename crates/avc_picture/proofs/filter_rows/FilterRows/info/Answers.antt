use Rattle.avc_picture.proofs.Slices.{◌%◌, ◌∙◌, ap, arith, take, slice_get, above_entry, current_entry, last_entry, lent_entry}
use Rattle.avc_picture.proofs.filter_rows.FilterRows.info.Goals as goal

pub returns-in-0 : goal.returns-in-0
returns-in-0 c =
    let i = c.self.inside in
    let h = c.get.ensures.lookup in
    rw (← c.self.view_is) (lent_entry c.get.result _ _ h.0 h.1 ∙ ap (λ xs. slice_get (take i.column xs) (c.args.address % i.width)) c.deref.ensures.value
    ∙ current_entry c.self.invariant.0 c.args.address (omega (arith, c.in-0.is, c.if-self-row.false)))

pub returns-in-1 : goal.returns-in-1
returns-in-1 c =
    let i = c.self.inside in
    let h = c.get-in-1.ensures.lookup in
    rw (← c.self.view_is) (lent_entry c.get-in-1.result _ _ h.0 h.1 ∙ ap (λ xs. slice_get xs (c.args.address % i.width)) c.deref-in-1.ensures.value
    ∙ last_entry c.self.invariant.0 c.args.address (omega (arith, c.in-1.is, c.if-self-row.false)))

pub returns-in-2 : goal.returns-in-2
returns-in-2 c =
    let i = c.self.inside in
    let h = c.get-in-2.ensures.lookup in
    rw (← c.self.view_is) (lent_entry c.get-in-2.result _ _ h.0 h.1 ∙ ap (λ xs. slice_get xs (c.args.address % i.width)) c.deref-in-2.ensures.value
    ∙ above_entry c.self.invariant.0 c.args.address (omega (arith, c.in-2.is, c.if-self-row.false)))

use Rattle.avc_inter.proofs.SixRows.{ℕ, arith, ap, ◌∙◌, pos, slice_index_or, same_centre}
use Rattle.avc_inter.proofs.centres.centre_row.Goals as goal

pub sixteen_sums-e-requires-clause-small : goal.sixteen_sums-e-requires-clause-small
sixteen_sums-e-requires-clause-small c k low = c.requires.small k (omega arith)

pub sixteen_sums-f-requires-clause-small : goal.sixteen_sums-f-requires-clause-small
sixteen_sums-f-requires-clause-small c k low = c.requires.small k (omega arith)

pub sixteen_sums-g-requires-clause-small : goal.sixteen_sums-g-requires-clause-small
sixteen_sums-g-requires-clause-small c k low = c.requires.small k (omega arith)

pub sixteen_sums-h-requires-clause-small : goal.sixteen_sums-h-requires-clause-small
sixteen_sums-h-requires-clause-small c k low = c.requires.small k (omega arith)

pub sixteen_sums-i-requires-clause-small : goal.sixteen_sums-i-requires-clause-small
sixteen_sums-i-requires-clause-small c k low = c.requires.small k (omega arith)

pub returns : goal.returns
returns c k low =
    let at = λ (i : ℕ). slice_index_or c.args.window.now i (pos 0) in
    c.centres_of.ensures k low
    ∙ same_centre _ _ _ _ _ _ _ _ _ _ _ _
    (c.sixteen_sums-e.ensures.value k low)
    (c.sixteen_sums-f.ensures.value k low ∙ ap at (omega arith))
    (c.sixteen_sums-g.ensures.value k low ∙ ap at (omega arith))
    (c.sixteen_sums-h.ensures.value k low ∙ ap at (omega arith))
    (c.sixteen_sums-i.ensures.value k low ∙ ap at (omega arith))
    (c.sixteen_sums-j.ensures.value k low ∙ ap at (omega arith))

use Rattle.avc_reading.proofs.Read.{asked_in, text_again, ap, arith, max_unit, left_by_feed, lines_added, listed_again}
use Rattle.avc_reading.proofs.stream.MacroblockLinesStreamText.feed.Goals as goal

pub invariant_of-self-2 : goal.invariant_of-self-2
invariant_of-self-2 g c =
    let listed = c.self.invariant c.in_ok-check.ensures.going in
    let left = left_by_feed c.units_stay.ensures max_unit _ _ c.args.piece.now listed.drained (rw (← c.in_ok-keep.ensures.same) at c.feed.ensures.ok) in
    λ _. listed_again (asked_in g.F.MacroblockForm.form c.self.inside.telling.selection) max_unit _ _ _ _ _ _ _ _ _ _ listed left (rw (← c.in_ok-lines.ensures.same) at c.lines_of_units_left-lines.ensures.taken)
    (rw (← c.in_ok-lines.ensures.same) at c.lines_of_units_left-lines.ensures.sets) (rw (← c.in_ok-lines.ensures.same) at c.lines_of_units_left-lines.ensures.text)

pub returns-clause-added : goal.returns-clause-added
returns-clause-added g c =
    let listed = c.self.invariant c.in_ok-check.ensures.going in
    let left = left_by_feed c.units_stay.ensures max_unit _ _ c.args.piece.now listed.drained (rw (← c.in_ok-keep.ensures.same) at c.feed.ensures.ok) in
    rw (← c.self.view_is, text_again c.self.inside.telling.selection listed.in_range)
    (λ short. lines_added (asked_in g.F.MacroblockForm.form c.self.inside.telling.selection) max_unit _ _ _ _ _ _ _ _ _ _ listed left (rw (← c.in_ok-lines.ensures.same) at c.lines_of_units_left-lines.ensures.taken)
    (rw (← c.in_ok-lines.ensures.same) at c.lines_of_units_left-lines.ensures.text) (ap (λ v. v.items) c.into_bytes.ensures.value) (omega (arith, short)))

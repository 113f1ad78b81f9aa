use Rattle.avc_sequence.proofs.Found.{max_unit, left_by_feed, taken_again}
use Rattle.avc_sequence.proofs.finder.SequenceFinder.feed.Goals as goal

pub invariant_of-self-2 : goal.invariant_of-self-2
invariant_of-self-2 c =
    let h = c.self.invariant c.in_ok-check.ensures.going in
    let left = left_by_feed c.units_stay.ensures max_unit _ _ c.args.piece.now h.drained (rw (← c.in_ok-keep.ensures.same) at c.feed.ensures.ok) in
    λ _.
    taken_again max_unit _ _ _ _ _ _ _ h left (rw (← c.in_ok-keep-2.ensures.same) at c.note_units_left-noted.ensures.taken)
    (rw (← c.in_ok-keep-2.ensures.same) at c.note_units_left-noted.ensures.sets) (rw (← c.in_ok-keep-2.ensures.same) at c.note_units_left-noted.ensures.said)

use Rattle.avc_info.proofs.Noted.{ap, sym, ◌∙◌, ◌++◌, append-nil, rules, counted_piece, StreamSoFar, max_unit, left_by_feed, info_so_far, feed_keeps_end, noted_again}
use Rattle.avc_info.proofs.Noted.{nothing_yet, open_still, stays_by_piece}
use Rattle.avc_info.proofs.info_lines.InfoLinesStreamText.feed.Goals as goal

pub invariant_of-self-2 : goal.invariant_of-self-2
invariant_of-self-2 g c =
    let h = c.self.invariant c.in_ok-check.ensures.going in
    let fed = (rw (← c.in_ok-keep.ensures.same) at c.feed.ensures.ok) in
    let left = left_by_feed c.units_stay.ensures max_unit _ _ c.args.piece.now h.drained fed in
    λ _.
    noted_again max_unit _ _ _ c.self.inside.ended c.self.inside.ended _ _ _ _ c.self.inside.bytes _ h left (rw (← c.in_ok-keep-2.ensures.same) at c.note_units_left-noted.ensures.taken)
    (rw (← c.in_ok-keep-2.ensures.same) at c.note_units_left-noted.ensures.sets) (rw (← c.in_ok-keep-2.ensures.same) at c.note_units_left-noted.ensures.facts) (h.end_is ∙ feed_keeps_end _ _ c.args.piece.now fed)
    (counted_piece _ _ c.args.piece.now c.self.inside.bytes _ h.bytes_are fed (sym h.end_is ∙ c.if-self.false) (search rules))

pub returns-clause-added : goal.returns-clause-added
returns-clause-added g c =
    let h = c.self.invariant c.in_ok-check.ensures.going in
    let was_open = sym h.end_is ∙ c.if-self.false in
    λ short.
    nothing_yet g.F.InfoForm.text c.note_units_left-noted.new.splitter c.args.self.now _ (open_still max_unit _ _ _ c.args.piece.now was_open (rw (← c.in_ok-keep.ensures.same) at c.feed.ensures.ok) (rw (← c.in_ok-keep-2.ensures.same) at c.note_units_left-noted.ensures.taken))
    (ap (λ (v : StreamSoFar). v.ended) (sym c.self.view_is) ∙ was_open) c.new-2.ensures.items

pub returns-then-self-clause-so_far : goal.returns-then-self-clause-so_far
returns-then-self-clause-so_far g c =
    let h = c.self.invariant c.in_ok-check.ensures.going in
    stays_by_piece c.args.self.now c.args.piece.now (ap (λ (v : StreamSoFar). v.ended) (sym c.self.view_is) ∙ sym h.end_is ∙ c.if-self.true)

pub returns-then-self-clause-added : goal.returns-then-self-clause-added
returns-then-self-clause-added g c =
    let text = info_so_far g.F.InfoForm.text c.args.self.now.bytes c.args.self.now.ended in
    λ short. sym (append-nil text) ∙ ap (λ t. text ++ t) (sym c.new.ensures.items)

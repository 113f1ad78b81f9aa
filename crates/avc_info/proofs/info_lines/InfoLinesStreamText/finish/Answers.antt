use Rattle.avc_info.proofs.Noted.{ap, sym, ◌∙◌, ◌++◌, append-nil, arith, length, saturated, refl, true, StreamSoFar, max_unit, left_by_finish, info_so_far, noted_again}
use Rattle.avc_info.proofs.Noted.{stays_by_end, told_at_end}
use Rattle.avc_info.proofs.info_lines.InfoLinesStreamText.finish.Goals as goal

pub invariant_of-self-2 : goal.invariant_of-self-2
invariant_of-self-2 g c =
    let h = c.self.invariant c.in_ok-check.ensures.going in
    let left = left_by_finish c.units_stay.ensures max_unit _ _ h.drained (rw (← c.in_ok-keep.ensures.same) at c.finish.ensures.ok) in
    λ _.
    noted_again max_unit _ _ _ c.self.inside.ended true _ _ _ _ c.self.inside.bytes c.self.inside.bytes h left (rw (← c.in_ok-keep-2.ensures.same) at c.note_units_left-noted.ensures.taken)
    (rw (← c.in_ok-keep-2.ensures.same) at c.note_units_left-noted.ensures.sets) (rw (← c.in_ok-keep-2.ensures.same) at c.note_units_left-noted.ensures.facts)
    (sym (ap (λ s. s.ended) (rw (← c.in_ok-keep.ensures.same) at c.finish.ensures.ok)))
    (h.bytes_are ∙ ap (λ s. saturated (length s.bytes)) (sym (rw (← c.in_ok-keep.ensures.same) at c.finish.ensures.ok)))

pub returns-clause-added : goal.returns-clause-added
returns-clause-added g c =
    let h = c.self.invariant c.in_ok-check.ensures.going in
    let left = left_by_finish c.units_stay.ensures max_unit _ _ h.drained (rw (← c.in_ok-keep.ensures.same) at c.finish.ensures.ok) in
    let noted =
    noted_again max_unit _ _ _ c.self.inside.ended true _ _ _ _ c.self.inside.bytes c.self.inside.bytes h left (rw (← c.in_ok-keep-2.ensures.same) at c.note_units_left-noted.ensures.taken)
    (rw (← c.in_ok-keep-2.ensures.same) at c.note_units_left-noted.ensures.sets) (rw (← c.in_ok-keep-2.ensures.same) at c.note_units_left-noted.ensures.facts)
    (sym (ap (λ s. s.ended) (rw (← c.in_ok-keep.ensures.same) at c.finish.ensures.ok)))
    (h.bytes_are ∙ ap (λ s. saturated (length s.bytes)) (sym (rw (← c.in_ok-keep.ensures.same) at c.finish.ensures.ok))) in
    λ short.
    told_at_end g.F.InfoForm.text max_unit _ true _ _ _ c.args.self.now _ noted refl (ap (λ (v : StreamSoFar). v.ended) (sym c.self.view_is) ∙ sym h.end_is ∙ c.if-self.false)
    (ap (λ v. v.items) c.into_bytes.ensures.value ∙ (rw (← c.in_ok-text.ensures.same) at c.tell.ensures)) (omega (arith, short))

pub returns-then-self-clause-so_far : goal.returns-then-self-clause-so_far
returns-then-self-clause-so_far g c =
    let h = c.self.invariant c.in_ok-check.ensures.going in
    stays_by_end c.args.self.now (ap (λ (v : StreamSoFar). v.ended) (sym c.self.view_is) ∙ sym h.end_is ∙ c.if-self.true)

pub returns-then-self-clause-added : goal.returns-then-self-clause-added
returns-then-self-clause-added g c =
    let text = info_so_far g.F.InfoForm.text c.args.self.now.bytes c.args.self.now.ended in
    λ short. sym (append-nil text) ∙ ap (λ t. text ++ t) (sym c.new.ensures.items)

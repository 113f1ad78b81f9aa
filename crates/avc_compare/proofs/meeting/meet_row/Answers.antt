use Rattle.std.proofs.Common.{◌+◌, ◌≤◌, ap, sym, ◌∙◌, length, subst, take}
use Rattle.avc_compare.specs.Kept.{Waiting}
use Rattle.avc_compare.specs.Meeting.{Meets}
use Rattle.avc_compare.proofs.Meetings.{meets_part, meets_read}
use Rattle.avc_compare.proofs.meeting.meet_row.Goals as goal

pub returns-then-part-eq0-clause-ok : goal.returns-then-part-eq0-clause-ok
returns-then-part-eq0-clause-ok g c =
    meets_read c.args.row.now c.args.left c.parts.met c.args.ahead.now.bytes c.parts.ahead c.fill.new.ahead _ _ _ c.parts.invariant.met c.in_ok-fill.ensures.ok c.in_ok-fill.ensures.few

pub parts-preserved : goal.parts-preserved
parts-preserved g c =
    let part = c.same_part-part.result in
    let waits : part ≤ length c.fill.new.ahead.bytes = subst (λ w. part ≤ length w) c.as_slice.ensures c.same_part-part.ensures.waiting in
    let filled = meets_read c.args.row.now c.args.left c.parts.met c.args.ahead.now.bytes c.parts.ahead c.fill.new.ahead _ _ _ c.parts.invariant.met c.in_ok-fill.ensures.ok c.in_ok-fill.ensures.few in
    record {
      met = subst (λ w. Meets c.args.row.now c.args.left (c.parts.met + part) c.args.ahead.now.bytes w (g.O.Read.remaining c.args.other.now) (g.O.Read.remaining c.fill.new.other))
          (sym (ap (λ (a : Waiting). a.bytes) c.drop_first.ensures))
          (meets_part c.args.row.now c.args.left c.parts.met part c.args.ahead.now.bytes c.fill.new.ahead.bytes _ _ filled c.same_part-part.ensures.row waits
          (c.same_part-part.ensures.same ∙ ap (take part) c.as_slice.ensures));
    }

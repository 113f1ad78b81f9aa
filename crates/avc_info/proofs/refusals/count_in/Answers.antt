use Rattle.avc_info.proofs.RefusalKinds.{◌∙◌, ◌++◌, [], ◌∷◌, List, ap, arith, sym, get_or, position, saturated, is_fault, RefusalKind, added_last, counted_there, room_left, ◌+◌}
use Rattle.avc_info.proofs.refusals.count_in.Goals as goal

pub push-requires : goal.push-requires
push-requires c =
    let none = sym (c.place_of.ensures ∙ ap (position (λ (k : RefusalKind). is_fault c.args.refusal.fault k.fault)) c.as_slice.ensures.value) ∙ c.in-None.is in
    (omega arith, room_left c.args.refusal c.args.kinds.now.items none c.requires)

pub returns-in-Some : goal.returns-in-Some
returns-in-Some c =
    let found = sym (c.place_of.ensures ∙ ap (position (λ (k : RefusalKind). is_fault c.args.refusal.fault k.fault)) c.as_slice.ensures.value) ∙ c.in-Some.is in
    counted_there c.args.refusal c.args.kinds.now.items c.deref_mut.result.now c.in-Some.place c.saturating_add.result _ found c.deref_mut.ensures.value
    (c.saturating_add.ensures ∙ ap (λ (l : List RefusalKind). saturated ((get_or l c.in-Some.place _).count + 1)) c.deref.ensures.0)

pub returns-in-None : goal.returns-in-None
returns-in-None c =
    let none = sym (c.place_of.ensures ∙ ap (position (λ (k : RefusalKind). is_fault c.args.refusal.fault k.fault)) c.as_slice.ensures.value) ∙ c.in-None.is in
    c.push.ensures.items ∙ ap (λ k. c.args.kinds.now.items ++ k ∷ []) c.first_of_kind.ensures ∙ sym (added_last c.args.refusal c.args.kinds.now.items none)

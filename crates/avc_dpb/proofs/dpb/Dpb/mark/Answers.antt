use Rattle.avc_dpb.proofs.EarlyOrder.{◌<◌, length, ap, ◌∙◌, sym, subst, with_mark, changed_read}
use Rattle.avc_dpb.proofs.dpb.Dpb.mark.Goals as goal

pub returns : goal.returns
returns c =
    let i = c.self.inside in
    let p = c.args.place in
    let low : p < length i.frames.items = subst (λ v. p < length v.frames) (sym c.self.view_is) c.requires in
    ap (λ f. record { slots = i.slots.items; frames = f; output = i.output; failed = i.failed })
    (changed_read (λ f. record f { mark = c.args.mark }) i.frames.items p c.index_mut.result.now low c.index_mut.ensures.value)
    ∙ ap (λ v. with_mark v p c.args.mark) c.self.view_is

use Rattle.avc_console.proofs.Texts.{ap, sym, ◌∙◌, subst, Tells}
use Rattle.avc_console.specs.Messages.{loss_text}
use Rattle.avc_console.proofs.telling.tell_loss.Goals as goal

pub returns-then-waits : goal.returns-then-waits
returns-then-waits g c =
    subst (λ text. Tells (g.E.Write.contents c.args.errors.now) (g.E.Write.contents c.write_what_is_taken.new.errors) text c.write_what_is_taken.result)
    (c.as_bytes.ensures.value ∙ c.as_str.ensures.value ∙ c.waits_line.ensures ∙ sym (ap (loss_text c.args.unit) c.if-waits.true))
    c.write_what_is_taken.ensures

use Rattle.avc_console.proofs.Texts.{ap, sym, ◌∙◌, subst, Tells, cut_text}
use Rattle.avc_console.proofs.program.write_no_piece.Goals as goal

pub returns-clause-ok : goal.returns-clause-ok
returns-clause-ok g c =
    subst (λ text. Tells (g.E.Write.contents c.args.errors.now) (g.E.Write.contents c.write_what_is_taken-2.new.errors) text c.write_what_is_taken-2.result)
    (c.as_bytes.ensures.value ∙ c.in_ok-text.ensures ∙ sym (ap (cut_text c.args.number) c.if-found.false))
    c.write_what_is_taken-2.ensures

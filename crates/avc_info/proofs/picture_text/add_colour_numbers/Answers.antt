use Rattle.avc_info.proofs.Noted.{◌++◌, ◌∙◌, ap, append_assoc, colour_text, string_bytes, sym}
use Rattle.avc_info.proofs.picture_text.add_colour_numbers.Goals as goal

pub returns-in_ok-write-in-Some : goal.returns-in_ok-write-in-Some
returns-in_ok-write-in-Some c =
    c.in_ok-write-in-Some.ensures.bytes ∙ (simp append_assoc) ∙ ap (λ x. string_bytes c.args.text.now ++ colour_text x) (sym c.in-Some.is)

pub returns-in_ok-push_str-in-None : goal.returns-in_ok-push_str-in-None
returns-in_ok-push_str-in-None c =
    c.in_ok-push_str-in-None.ensures.bytes ∙ ap (λ x. string_bytes c.args.text.now ++ colour_text x) (sym c.in-None.is)

use Rattle.avc_formats.proofs.Fronts.{◌++◌, ◌∙◌, ap, string_bytes, styled_decimal, column_8}
use Rattle.avc_formats.proofs.framemd5.add_count.Goals as goal

pub returns : goal.returns
returns c =
    c.in_ok-write.ensures.bytes
    ∙ ap (λ l. string_bytes c.args.text.now ++ l) (ap (λ s. styled_decimal s c.args.count) c.laid_out.ensures ∙ column_8 c.args.count)

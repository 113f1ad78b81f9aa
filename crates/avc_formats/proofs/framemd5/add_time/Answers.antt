use Rattle.avc_formats.proofs.Fronts.{◌++◌, ◌∙◌, ap, string_bytes, styled_decimal, column_10}
use Rattle.avc_formats.proofs.framemd5.add_time.Goals as goal

pub returns : goal.returns
returns c =
    c.in_ok-write.ensures.bytes
    ∙ ap (λ l. string_bytes c.args.text.now ++ l) (ap (λ s. styled_decimal s c.args.time) c.laid_out.ensures ∙ column_10 c.args.time)

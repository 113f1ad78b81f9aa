use Rattle.avc_compare.proofs.Comparisons.{ap, ◌++◌, ◌∙◌, psnr_line, told_line}
use Rattle.avc_compare.proofs.picture.tell_line.Goals as goal

pub returns : goal.returns
returns g c =
    told_line c.args.is_told c.args.picture c.args.ours.now c.args.theirs.now c.deref.result.now c.in_ok-psnr.psnr _ _ c.write_text.result c.if-not-is_told.false c.in_ok-psnr.ensures
    (c.deref.ensures ∙ c.in_ok-add_psnr.ensures ∙ ap (λ l. l ++ psnr_line c.args.picture.number c.in_ok-psnr.psnr) c.new-text.ensures.bytes) c.write_text.ensures.ok c.write_text.ensures.err

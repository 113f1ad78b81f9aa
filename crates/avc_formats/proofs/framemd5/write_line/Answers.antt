use Rattle.avc_formats.proofs.Fronts.{◌++◌, length, rules, string_bytes, subst, sym, true, codes, i420, StopsPicture, framemd5_line, size_text}
use Rattle.avc_formats.proofs.Fronts.{times_text, encode_lower, md5, err_with, none_of_line, text_stopped}
use Rattle.avc_formats.proofs.framemd5.write_line.Goals as goal

pub returns-in_err-digest-clause-err : goal.returns-in_err-digest-clause-err
returns-in_err-digest-clause-err g c =
    let held = g.W.Write.contents c.args.writer.now in
    let bytes = i420 c.args.picture.now in
    let text = string_bytes c.args.front ++ framemd5_line c.args.number c.args.picture.now in
    err_with c.from_residual.result c.in_err-digest.field-0.0 (λ fault. StopsPicture fault true held held text) c.from_residual.ensures.1
    (subst (λ fault. StopsPicture fault true held held text) (sym c.in_err-digest.ensures.err) (none_of_line held (string_bytes c.args.front) (times_text c.args.number ++ size_text (length bytes) ++ codes ", " ++ encode_lower (md5 bytes))))

pub returns-clause-err : goal.returns-clause-err
returns-clause-err g c =
    text_stopped _ _ _ _ _ (search rules) c.write_text.ensures.err

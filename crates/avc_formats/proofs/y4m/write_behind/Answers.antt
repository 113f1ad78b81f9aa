use Rattle.avc_formats.proofs.Fronts.{◌≡◌, ◌++◌, refl, i420, WritesFirst, err_with, second_broken}
use Rattle.avc_console.specs.declared.fault.RunFault.TheVariants as faults
use Rattle.avc_formats.proofs.y4m.write_behind.Goals as goal

pub returns-in_err-write_i420_through-clause-err : goal.returns-in_err-write_i420_through-clause-err
returns-in_err-write_i420_through-clause-err g c =
    err_with c.from_residual-in_err-write_i420_through.result faults.Write
    (λ fault. (fault ≡ faults.Write) × WritesFirst (g.W.Write.contents c.args.writer.now) (g.W.Write.contents c.write_i420_through.new.writer) (c.args.lines.now ++ i420 c.args.picture.now))
    c.from_residual-in_err-write_i420_through.ensures.1 (
      refl,
      second_broken _ _ _ c.args.lines.now (i420 c.args.picture.now) _ c.in_ok-write_text.ensures.ok (c.in_err-write_i420_through.ensures.before_all c.requires)
          (c.in_err-write_i420_through.ensures.err c.requires),
    )

use Rattle.avc_console.proofs.Texts.{◌≡◌, Err, ap, subst, ◌∙◌, Tells, fault_line, Memory, fault_status, told_after, untold_piece}
use Rattle.avc_console.proofs.program.cut.Goals as goal

pub returns-in-Err-write_no_piece : goal.returns-in-Err-write_no_piece
returns-in-Err-write_no_piece g c =
    let memory : c.in-Err-write_no_piece.fault ≡ Memory = c.in-Err-write_no_piece.ensures.err.0 in
    record {
      run = Err Memory;
      cuts = untold_piece c.args.number c.in-Ok.found _ _ _ _ c.in-Ok.ensures c.in-Err-write_no_piece.ensures.none;
      status_is = c.fail.ensures.status ∙ ap fault_status memory;
      told =
          subst (λ fault. Tells (g.E.Write.contents c.args.console.now.errors) (g.E.Write.contents c.fail.new.errors) (fault_line c.args.console.now.names fault) c.fail.result.told) memory
          (told_after _ _ _ _ _ c.in-Err-write_no_piece.ensures.err.1 c.fail.ensures.told);
    }

use Rattle.avc_console.proofs.Texts.{◌∷◌, [], ◌++◌, refl, rules, Appends-trans, Appends, fault_text, file_of, name_text, on_err, stopped_after}
use Rattle.avc_console.proofs.Texts.{stopped_before, stopped_last}
use Rattle.avc_console.proofs.messages.write_fault.Goals as goal

pub returns-in_err-write_name-clause-err : goal.returns-in_err-write_name-clause-err
returns-in_err-write_name-clause-err g c =
    let what = fault_text c.args.fault in
    let name = name_text (file_of c.args.names.now c.args.fault) in
    let first : Appends (g.E.Write.contents c.args.errors.now) (g.E.Write.contents c.write_text.new.writer) what = search rules in
    on_err _ c.from_residual-in_err-write_name.result
    (stopped_before _ _ (what ++ name) (10 ∷ []) (stopped_after _ _ _ what name first (search rules)))

pub returns-clause-err : goal.returns-clause-err
returns-clause-err g c =
    let what = fault_text c.args.fault in
    let name = name_text (file_of c.args.names.now c.args.fault) in
    let first : Appends (g.E.Write.contents c.args.errors.now) (g.E.Write.contents c.write_text.new.writer) what = search rules in
    let second : Appends (g.E.Write.contents c.write_text.new.writer) (g.E.Write.contents c.write_name.new.errors) name = search rules in
    stopped_last c.write_text-2.result _ _ _ (what ++ name) (10 ∷ []) _ refl (Appends-trans _ _ _ what name first second) c.write_text-2.ensures.err

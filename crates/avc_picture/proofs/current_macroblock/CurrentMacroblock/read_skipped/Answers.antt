use Rattle.avc_picture.proofs.Slices.{sym, subst, if◌then◌else◌, Some, Ok, IsHandedOut}
use Rattle.avc_picture.proofs.current_macroblock.CurrentMacroblock.read_skipped.Goals as goal

pub returns-clause-skipped : goal.returns-clause-skipped
returns-clause-skipped c = λ is s before follows.
    let one = c.next_skipped-self-inside in
    subst (λ b. IsHandedOut s before (Ok (Some (if b then one.new.mb else c.self.inside.other))) c.args.unread.now one.new.self) (sym is)
    (one.ensures.skipped is s before follows)

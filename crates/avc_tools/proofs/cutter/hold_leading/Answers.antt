use Rattle.avc_tools.proofs.Taking.{◌++◌, [], ap, sym, ◌∙◌, if◌then◌else◌, written, leading_more}
use Rattle.avc_tools.proofs.cutter.hold_leading.Goals as goal

pub returns : goal.returns
returns c =
    λ before h.
    leading_more before c.args.unit.now c.args.held.now.items c.write_if.new.piece.items (sym c.is_slice.ensures ∙ c.if-is_slice.false)
    (c.in_ok-write_if.ensures ∙ ap (λ b. c.args.held.now.items ++ (if b then written c.args.unit.now else [])) c.leads.ensures) h

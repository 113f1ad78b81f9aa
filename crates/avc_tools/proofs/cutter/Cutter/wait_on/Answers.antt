use Rattle.avc_tools.proofs.Taking.{sym, ◌∙◌, true, false, arith, begins, waits_on}
use Rattle.avc_tools.proofs.cutter.Cutter.wait_on.Goals as goal

pub returns-then-self-eq0 : goal.returns-then-self-eq0
returns-then-self-eq0 c =
    λ s h.
    begins s c.args.unit.now c.args.self.now c.begin.new.self c.args.piece.now.items c.begin.new.piece.items h c.requires c.if-self-eq0.true (sym c.in_ok-is_start.ensures ∙ c.if-branch.true)
    c.in_ok-begin.ensures.phase c.in_ok-begin.ensures.held c.in_ok-begin.ensures.staying c.in_ok-begin.ensures.piece

pub returns-then-branch : goal.returns-then-branch
returns-then-branch c =
    λ s h.
    let less = c.pass_over.ensures.left in
    waits_on s c.args.unit.now true c.args.self.now c.pass_over.new.self c.args.piece.now.items h c.requires (sym c.in_ok-is_start.ensures ∙ c.if-branch.true) (omega (arith, less, c.if-self-eq0.false))
    (c.pass_over.ensures.phase ∙ c.requires) c.in_ok-pass_over.ensures.sps c.in_ok-pass_over.ensures.pps c.in_ok-pass_over.ensures.held

pub returns : goal.returns
returns c =
    λ s h.
    waits_on s c.args.unit.now false c.args.self.now c.pass_over-2.new.self c.args.piece.now.items h c.requires (sym c.in_ok-is_start.ensures ∙ c.if-branch.false) (sym c.pass_over-2.ensures.left)
    (c.pass_over-2.ensures.phase ∙ c.requires) c.in_ok-pass_over-2.ensures.sps c.in_ok-pass_over-2.ensures.pps c.in_ok-pass_over-2.ensures.held

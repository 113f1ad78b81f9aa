use Rattle.avc_syntax_tests.proofs.Following.{subst, sym, Mb, FollowOn, syntax_of, follow_more}
use Rattle.avc_syntax_tests.proofs.macroblock_types.add.Goals as goal

pub returns-clause-goes_on : goal.returns-clause-goes_on
returns-clause-goes_on c = λ p n first stands follow.
    let m : Mb = record { syntax = syntax_of c.args.syntax; qp = c.qp_of-after.result } in
    subst (λ l. FollowOn p n first c.qp_of-after.result l) (sym c.in_ok-push.ensures.items)
    (follow_more p n first c.args.qp c.args.list.now.items m follow stands c.qp_of-after.ensures)

use Rattle.avc_syntax_tests.proofs.Following.{sym, subst, true, FollowOn, follow_none}
use Rattle.avc_syntax_tests.proofs.written_syntax.writes_a_run_of_one.Goals as goal

pub only_p_slice-slice-requires-clause-follow : goal.only_p_slice-slice-requires-clause-follow
only_p_slice-slice-requires-clause-follow g c =
    let empty = subst (λ l. FollowOn true 1 26 26 l) (sym c.new-list.ensures.items) (follow_none true 1 26) in
    (c.in_ok-add.field-0, subst (λ l. FollowOn true 1 26 c.in_ok-add.field-0 l) (sym c.from_vec.ensures) (c.in_ok-add.ensures.goes_on true 1 26 (λ k is_p count. is_p) empty))

use Rattle.avc_syntax_tests.proofs.Following.{sym, subst, true, ◌∙◌, FollowOn, follow_none}
use Rattle.avc_syntax_tests.proofs.written_syntax.writes_a_run_of_none.Goals as goal

pub only_p_slice-slice-requires-clause-follow : goal.only_p_slice-slice-requires-clause-follow
only_p_slice-slice-requires-clause-follow g c =
    (26, subst (λ l. FollowOn true 1 26 26 l) (sym (c.from_vec.ensures ∙ c.new.ensures.items)) (follow_none true 1 26))

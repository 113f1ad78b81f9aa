use Rattle.avc_syntax_tests.proofs.Following.{sym, subst, true, ◌∙◌, FollowOn, follow_none}
use Rattle.avc_syntax_tests.proofs.written_slices.no_macroblock_of_a_p_slice.Goals as goal

pub p_slice-slice-requires-clause-follow : goal.p_slice-slice-requires-clause-follow
p_slice-slice-requires-clause-follow g c =
    (26, subst (λ l. FollowOn true 2 26 26 l) (sym (c.from_vec.ensures ∙ c.new.ensures.items)) (follow_none true 2 26))

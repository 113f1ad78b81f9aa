use Rattle.avc_syntax_tests.proofs.Following.{sym, subst, false, FollowOn, follow_none}
use Rattle.avc_syntax_tests.proofs.written_syntax.writes_a_slice.Goals as goal

pub only_slice-slice-requires-clause-follow : goal.only_slice-slice-requires-clause-follow
only_slice-slice-requires-clause-follow g c =
    let empty = subst (λ l. FollowOn false 0 26 26 l) (sym c.new-list.ensures.items) (follow_none false 0 26) in
    (c.in_ok-add.field-0, subst (λ l. FollowOn false 0 26 c.in_ok-add.field-0 l) (sym c.from_vec.ensures) (c.in_ok-add.ensures.goes_on false 0 26 (c.i_pcm.ensures false 0) empty))

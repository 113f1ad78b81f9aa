use Rattle.avc_syntax_tests.proofs.Following.{sym, subst, true, FollowOn, follow_none}
use Rattle.avc_syntax_tests.proofs.written_slices.each_type_of_p_slices.Goals as goal

pub p_slice-slice-requires-clause-follow : goal.p_slice-slice-requires-clause-follow
p_slice-slice-requires-clause-follow g c =
    let empty = subst (λ l. FollowOn true 2 26 26 l) (sym c.new-list.ensures.items) (follow_none true 2 26) in
    (c.in_ok-add_skipped.field-0, subst (λ l. FollowOn true 2 26 c.in_ok-add_skipped.field-0 l) (sym c.from_vec.ensures) (c.in_ok-add_skipped.ensures.goes_on 26 (c.in_ok-qp-2.ensures.goes_on true 2 26 (c.in_ok-qp.ensures.goes_on 26 empty))))

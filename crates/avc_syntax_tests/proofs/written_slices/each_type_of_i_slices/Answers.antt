use Rattle.avc_syntax_tests.proofs.Following.{sym, subst, false, FollowOn, follow_none}
use Rattle.avc_syntax_tests.proofs.written_slices.each_type_of_i_slices.Goals as goal

pub i_slice-slice-requires-clause-follow : goal.i_slice-slice-requires-clause-follow
i_slice-slice-requires-clause-follow g c =
    let empty = subst (λ l. FollowOn false 0 26 26 l) (sym c.new-list.ensures.items) (follow_none false 0 26) in
    (c.in_ok-add_i_types.field-0, subst (λ l. FollowOn false 0 26 c.in_ok-add_i_types.field-0 l) (sym c.from_vec.ensures) (c.in_ok-add_i_types.ensures.goes_on false 0 26 empty))

use Rattle.avc_tools.proofs.Taking.{◌≤◌, ◌++◌, ◌∙◌, ap, sym, not, subst, length, flat_map, take_while, written, rest_all, rest_written}
use Rattle.avc_tools.proofs.piece.write_rest.Goals as goal

pub returns-then-end-after : goal.returns-then-end-after
returns-then-end-after c =
    let «end» = c.count_before_start-end.ensures ∙ ap (λ starts. length (take_while not starts)) c.requires in
    c.in_ok-write_units.ensures
    ∙ ap (λ us. c.args.piece.now.items ++ flat_map written us) (sym (rest_all c.args.after.now (subst (λ n. length c.args.after.now ≤ n) «end» c.if-end-after.true)))

pub returns : goal.returns
returns c =
    let «end» = c.count_before_start-end.ensures ∙ ap (λ starts. length (take_while not starts)) c.requires in
    rest_written c.args.after.now c.count_before_start-end.result c.count_through_slices-kept.result c.args.piece.now.items c.write_units-2.new.piece.items c.write_not_left_out.new.piece.items «end»
    c.if-end-after.false c.count_through_slices-kept.ensures c.in_ok-write_units-2.ensures c.in_ok-write_not_left_out.ensures

use Rattle.avc_tools.proofs.Taking.{ap, sym, subst, ◌∙◌, arith, max_unit, IsCutting, after_units_left, cutting_again, ends_too, more_ends, nothing_added, taken_past_end, text_added}
use Rattle.avc_tools.proofs.piece_text.piece_of_more.Goals as goal

pub returns : goal.returns
returns c =
    let more = c.in_ok-take_more.ensures in
    let cut = c.in_ok-added.ensures in
    let end_is = more_ends _ _ c.args.piece.now c.args.ends c.args.ended more.came c.requires.ended in
    record {
      taken = cut.taken ∙ ap (after_units_left max_unit) more.came;
      cutting = λ number h. cutting_again max_unit number _ _ _ _ _ _ _ c.in_ok-added.added.items h more.left cut.taken end_is cut.piece;
      added = λ number h short.
          text_added max_unit number _ _ _ _ c.args.ends _ _ c.in_ok-added.added.items c.write_held.new.piece.items h c.if-ended.false more.left cut.taken
          end_is cut.piece c.in_ok-write_held.ensures (omega (arith, short));
    }

pub returns-then-ended : goal.returns-then-ended
returns-then-ended c = record {
  taken = taken_past_end max_unit _ c.args.piece.now c.args.ends c.requires.drained (sym c.requires.ended ∙ c.if-ended.true);
  cutting = λ number h. subst (λ ended. IsCutting max_unit number c.args.splitter.now ended c.args.cutter.now) (ends_too c.args.ends c.args.ended c.if-ended.true) h;
  added = λ number h short. nothing_added _ _ c.new.ensures.items;
}

use Rattle.avc_tools.proofs.Taking.{ap, sym, ◌∙◌, arith, max_unit, after_units_left, counted_again, cut_point_lines_added, more_ends, nothing_added, taken_past_end, AreCounted, subst, ends_too}
use Rattle.avc_tools.proofs.cut_points.lines_of_more.Goals as goal

pub returns : goal.returns
returns g c =
    let more = c.in_ok-take_more.ensures in
    let lines = c.in_ok-lines.ensures in
    let end_is = more_ends _ _ c.args.piece.now c.args.ends c.args.ended more.came c.requires.end_is in
    record {
      taken = lines.taken ∙ ap (after_units_left max_unit) more.came;
      counted = counted_again max_unit _ _ _ _ _ _ _ c.requires more.left lines.taken end_is lines.counts;
      added = λ short.
          cut_point_lines_added g.F.ListingForm.of_piece max_unit _ _ _ c.args.ends _ _ _ _ _ _ c.requires c.if-ended.false more.left lines.taken
          lines.text lines.counts end_is c.last.ensures (ap (λ v. v.items) c.into_bytes.ensures.value ∙ c.in_ok-add_line.ensures) (omega (arith, short));
    }

pub returns-then-ended : goal.returns-then-ended
returns-then-ended g c = record {
  taken = taken_past_end max_unit _ c.args.piece.now c.args.ends c.requires.drained (sym c.requires.end_is ∙ c.if-ended.true);
  counted = subst (λ ended. AreCounted max_unit c.args.splitter.now ended c.args.counts.now) (ends_too c.args.ends c.args.ended c.if-ended.true) c.requires;
  added = λ short. nothing_added _ _ c.new.ensures.items;
}

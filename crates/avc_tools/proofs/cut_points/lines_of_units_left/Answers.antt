use Rattle.avc_tools.proofs.Taking.{max_unit, all_taken, one_more, counted_more}
use Rattle.avc_tools.proofs.cut_points.lines_of_units_left.Goals as goal

pub loop-unit-preserved-in_ok-add_unit : goal.loop-unit-preserved-in_ok-add_unit
loop-unit-preserved-in_ok-add_unit g c = record {
  draining =
      one_more max_unit _ _ _ _ c.in-Some.unit _ _ c.loop-unit.invariant.draining c.requires c.next_unit.ensures.unit c.next_unit.ensures.taken c.in-Some.is
      (counted_more g.F.ListingForm.of_piece c.args.counts.now _ _ _ _ c.in-Some.unit c.in_ok-add_unit.ensures.counts c.in_ok-add_unit.ensures.text);
}

pub loop-unit-preserved : goal.loop-unit-preserved
loop-unit-preserved g c = record {
  draining =
      one_more max_unit _ _ _ _ c.in-Some.unit _ _ c.loop-unit.invariant.draining c.requires c.next_unit.ensures.unit c.next_unit.ensures.taken c.in-Some.is
      (counted_more g.F.ListingForm.of_piece c.args.counts.now _ _ _ _ c.in-Some.unit c.in_ok-add_unit.ensures.counts c.in_ok-add_unit.ensures.text);
}

pub returns : goal.returns
returns g c =
    let all = all_taken max_unit _ _ _ _ _ c.loop-unit.invariant.draining c.requires c.next_unit.ensures.unit c.next_unit.ensures.taken c.in_default.is in
    record { text = all.0.lines; counts = all.0.counts; taken = all.1 }

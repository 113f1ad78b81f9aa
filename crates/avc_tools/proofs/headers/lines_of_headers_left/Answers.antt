use Rattle.avc_tools.proofs.Taking.{max_unit, all_taken, one_more, shown_more}
use Rattle.avc_tools.proofs.headers.lines_of_headers_left.Goals as goal

pub loop-unit-preserved-in_ok-add_header : goal.loop-unit-preserved-in_ok-add_header
loop-unit-preserved-in_ok-add_header g c = record {
  draining =
      one_more max_unit _ _ _ _ c.in-Some.unit _ _ c.loop-unit.invariant.draining c.requires c.next_unit.ensures.unit c.next_unit.ensures.taken c.in-Some.is
      (shown_more g.F.ListingForm.of_header c.args.reader.now _ _ _ _ c.in-Some.unit c.in_ok-add_header.ensures.sets c.in_ok-add_header.ensures.text);
}

pub loop-unit-preserved : goal.loop-unit-preserved
loop-unit-preserved g c = record {
  draining =
      one_more max_unit _ _ _ _ c.in-Some.unit _ _ c.loop-unit.invariant.draining c.requires c.next_unit.ensures.unit c.next_unit.ensures.taken c.in-Some.is
      (shown_more g.F.ListingForm.of_header c.args.reader.now _ _ _ _ c.in-Some.unit c.in_ok-add_header.ensures.sets c.in_ok-add_header.ensures.text);
}

pub returns : goal.returns
returns g c =
    let all = all_taken max_unit _ _ _ _ _ c.loop-unit.invariant.draining c.requires c.next_unit.ensures.unit c.next_unit.ensures.taken c.in_default.is in
    record { text = all.0.lines; sets = all.0.sets; taken = all.1 }

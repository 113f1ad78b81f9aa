use Rattle.avc_formats.proofs.Fronts.{rules, all_taken, one_more, max_unit, found_first, passed_more}
use Rattle.avc_formats.proofs.first_set.find_set.Goals as goal

pub returns-then-is_some : goal.returns-then-is_some
returns-then-is_some c =
    found_first _ _ _ _ c.in-Some.unit c.args.reader.now c.loop-unit.reader _ c.in_ok-said.said c.loop-unit.invariant.draining c.requires c.next_unit.ensures.unit
    c.next_unit.ensures.taken c.in-Some.is c.in_ok-said.ensures.said (search rules)

pub loop-unit-preserved-else-is_some : goal.loop-unit-preserved-else-is_some
loop-unit-preserved-else-is_some c = record {
  draining =
      one_more max_unit _ _ _ _ c.in-Some.unit _ _ c.loop-unit.invariant.draining c.requires c.next_unit.ensures.unit c.next_unit.ensures.taken c.in-Some.is
      (passed_more c.args.reader.now _ _ c.in-Some.unit c.in_ok-said.said c.in_ok-said.ensures.said (search rules) c.in_ok-said.ensures.sets);
}

pub loop-unit-preserved : goal.loop-unit-preserved
loop-unit-preserved c = record {
  draining =
      one_more max_unit _ _ _ _ c.in-Some.unit _ _ c.loop-unit.invariant.draining c.requires c.next_unit.ensures.unit c.next_unit.ensures.taken c.in-Some.is
      (passed_more c.args.reader.now _ _ c.in-Some.unit c.in_ok-said.said c.in_ok-said.ensures.said (search rules) c.in_ok-said.ensures.sets);
}

pub returns : goal.returns
returns c =
    let taken = all_taken max_unit _ _ _ _ _ c.loop-unit.invariant.draining c.requires c.next_unit.ensures.unit c.next_unit.ensures.taken c.in_default.is in
    (taken.0.none, taken.0.sets, taken.1)

use Rattle.avc_reading.proofs.Read.{asked_in, max_unit, all_taken, draining_begun, listed_more, none_listed, one_more}
use Rattle.avc_reading.proofs.stream.lines_of_units_left.Goals as goal

pub loop-unit-init : goal.loop-unit-init
loop-unit-init g c = record { draining = draining_begun max_unit _ _ (none_listed (asked_in g.F.MacroblockForm.form c.args.telling.now.selection) _ _ _ _ c.new-text.ensures.bytes) }

pub loop-unit-preserved-in_ok-add_unit : goal.loop-unit-preserved-in_ok-add_unit
loop-unit-preserved-in_ok-add_unit g c = record {
  draining =
      one_more max_unit _ _ _ _ c.in-Some.unit _ _ c.loop-unit.invariant.draining c.requires c.next_unit.ensures.unit c.next_unit.ensures.taken c.in-Some.is
      (listed_more (asked_in g.F.MacroblockForm.form c.args.telling.now.selection) c.args.table.now _ _ c.args.kept.now _ _ _ _ _ _ _ c.in-Some.unit c.in_ok-add_unit.ensures.sets c.in_ok-add_unit.ensures.told);
}

pub loop-unit-preserved : goal.loop-unit-preserved
loop-unit-preserved g c = record {
  draining =
      one_more max_unit _ _ _ _ c.in-Some.unit _ _ c.loop-unit.invariant.draining c.requires c.next_unit.ensures.unit c.next_unit.ensures.taken c.in-Some.is
      (listed_more (asked_in g.F.MacroblockForm.form c.args.telling.now.selection) c.args.table.now _ _ c.args.kept.now _ _ _ _ _ _ _ c.in-Some.unit c.in_ok-add_unit.ensures.sets c.in_ok-add_unit.ensures.told);
}

pub returns-clause-text : goal.returns-clause-text
returns-clause-text g c = (all_taken max_unit _ _ _ _ _ c.loop-unit.invariant.draining c.requires c.next_unit.ensures.unit c.next_unit.ensures.taken c.in_default.is).0.told

pub returns-clause-sets : goal.returns-clause-sets
returns-clause-sets g c = (all_taken max_unit _ _ _ _ _ c.loop-unit.invariant.draining c.requires c.next_unit.ensures.unit c.next_unit.ensures.taken c.in_default.is).0.sets

pub returns-clause-taken : goal.returns-clause-taken
returns-clause-taken g c = (all_taken max_unit _ _ _ _ _ c.loop-unit.invariant.draining c.requires c.next_unit.ensures.unit c.next_unit.ensures.taken c.in_default.is).1

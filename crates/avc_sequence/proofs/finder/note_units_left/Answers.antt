use Rattle.avc_sequence.proofs.Found.{max_unit, all_taken, draining_begun, one_more, noted_more, noted_none}
use Rattle.avc_sequence.proofs.finder.note_units_left.Goals as goal

pub loop-unit-init : goal.loop-unit-init
loop-unit-init c = record { draining = draining_begun max_unit _ _ (noted_none _ _) }

pub loop-unit-preserved-in_ok-note_unit : goal.loop-unit-preserved-in_ok-note_unit
loop-unit-preserved-in_ok-note_unit c = record {
  draining =
      one_more max_unit _ _ _ _ c.in-Some.unit _ _ c.loop-unit.invariant.draining c.requires c.next_unit.ensures.unit c.next_unit.ensures.taken c.in-Some.is
      (noted_more c.args.reader.now _ _ c.args.said.now _ _ c.in-Some.unit c.in_ok-note_unit.ensures.sets c.in_ok-note_unit.ensures.said);
}

pub loop-unit-preserved : goal.loop-unit-preserved
loop-unit-preserved c = record {
  draining =
      one_more max_unit _ _ _ _ c.in-Some.unit _ _ c.loop-unit.invariant.draining c.requires c.next_unit.ensures.unit c.next_unit.ensures.taken c.in-Some.is
      (noted_more c.args.reader.now _ _ c.args.said.now _ _ c.in-Some.unit c.in_ok-note_unit.ensures.sets c.in_ok-note_unit.ensures.said);
}

pub returns-clause-sets : goal.returns-clause-sets
returns-clause-sets c = (all_taken max_unit _ _ _ _ _ c.loop-unit.invariant.draining c.requires c.next_unit.ensures.unit c.next_unit.ensures.taken c.in_default.is).0.sets

pub returns-clause-said : goal.returns-clause-said
returns-clause-said c = (all_taken max_unit _ _ _ _ _ c.loop-unit.invariant.draining c.requires c.next_unit.ensures.unit c.next_unit.ensures.taken c.in_default.is).0.said_is

pub returns-clause-taken : goal.returns-clause-taken
returns-clause-taken c = (all_taken max_unit _ _ _ _ _ c.loop-unit.invariant.draining c.requires c.next_unit.ensures.unit c.next_unit.ensures.taken c.in_default.is).1

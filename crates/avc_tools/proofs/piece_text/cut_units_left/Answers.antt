use Rattle.avc_tools.proofs.Taking.{max_unit, cut_more, cut_none, all_taken, draining_begun, one_more}
use Rattle.avc_tools.proofs.piece_text.cut_units_left.Goals as goal

pub loop-unit-init : goal.loop-unit-init
loop-unit-init c = record { draining = draining_begun max_unit _ _ (cut_none _ _ c.new-piece.ensures.items) }

pub loop-unit-preserved-in_ok-take_in : goal.loop-unit-preserved-in_ok-take_in
loop-unit-preserved-in_ok-take_in c = record {
  draining =
      one_more max_unit _ _ _ _ c.in-Some.unit _ _ c.loop-unit.invariant.draining c.requires c.next_unit.ensures.unit c.next_unit.ensures.taken c.in-Some.is
      (cut_more c.args.cutter.now _ _ _ _ c.in-Some.unit c.in_ok-take_in.ensures);
}

pub loop-unit-preserved : goal.loop-unit-preserved
loop-unit-preserved c = record {
  draining =
      one_more max_unit _ _ _ _ c.in-Some.unit _ _ c.loop-unit.invariant.draining c.requires c.next_unit.ensures.unit c.next_unit.ensures.taken c.in-Some.is
      (cut_more c.args.cutter.now _ _ _ _ c.in-Some.unit c.in_ok-take_in.ensures);
}

pub returns : goal.returns
returns c =
    let all = all_taken max_unit _ _ _ _ _ c.loop-unit.invariant.draining c.requires c.next_unit.ensures.unit c.next_unit.ensures.taken c.in_default.is in
    record { piece = all.0; taken = all.1 }

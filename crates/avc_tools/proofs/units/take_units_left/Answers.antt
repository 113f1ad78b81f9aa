use Rattle.avc_tools.proofs.Taking.{◌++◌, ◌∷◌, [], ap, ◌∙◌, max_unit, all_taken, draining_begun, one_more}
use Rattle.avc_tools.proofs.units.take_units_left.Goals as goal

pub loop-unit-init : goal.loop-unit-init
loop-unit-init c = record { draining = draining_begun max_unit _ _ c.requires.none }

pub loop-unit-preserved : goal.loop-unit-preserved
loop-unit-preserved c = record {
  draining =
      one_more max_unit _ _ _ _ c.in-Some.unit _ _ c.loop-unit.invariant.draining c.requires.going c.next_unit.ensures.unit c.next_unit.ensures.taken c.in-Some.is
      (λ done so_far. c.in_ok-push.ensures.items ∙ ap (λ us. us ++ c.in-Some.unit ∷ []) so_far);
}

pub returns : goal.returns
returns c = (all_taken max_unit _ _ _ _ _ c.loop-unit.invariant.draining c.requires.going c.next_unit.ensures.unit c.next_unit.ensures.taken c.in_default.is).0

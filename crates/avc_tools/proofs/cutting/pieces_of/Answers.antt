use Rattle.avc_tools.proofs.Taking.{◌++◌, [], ap, pieces_from, pieces_more, sets_next, sets_none}
use Rattle.avc_tools.proofs.cutting.pieces_of.Goals as goal

pub loop-place-init : goal.loop-place-init
loop-place-init c = record {
  sets = sets_none c.in_ok-sets.sets c.in_ok-sets.ensures.sps c.in_ok-sets.ensures.pps;
  pieces = ap (λ all. all ++ pieces_from [] c.args.units.now) c.new-all.ensures.items;
}

pub loop-place-preserved : goal.loop-place-preserved
loop-place-preserved c = record {
  sets = sets_next c.args.units.now c.loop-place.place c.index-units-place.result _ _ c.loop-place-test.true c.index-units-place.is c.loop-place.invariant.sets c.in_ok-take_in.ensures.sps c.in_ok-take_in.ensures.pps;
  pieces = pieces_more c.args.units.now c.loop-place.place c.index-units-place.result _ _ c.loop-place-test.true c.index-units-place.is c.loop-place.invariant.pieces c.in_ok-add_piece.ensures;
}

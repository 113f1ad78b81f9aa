use Rattle.avc_picture_core.proofs.InterTiles.{sym, arith, below_more, all_sixteen, one_false, can_nxn}
use Rattle.avc_picture_core.proofs.luma4x4.has_sides4x4.Goals as goal

pub returns-then-not-is_available : goal.returns-then-not-is_available
returns-then-not-is_available c =
    sym (one_false (can_nxn c.args.readable c.args.modes.in_order.now) c.loop-k.k c.loop-k-test.true
    (cc (c.mode4x4.ensures, c.sides.ensures, c.is_available.ensures, c.if-not-is_available.true)))

pub loop-k-preserved : goal.loop-k-preserved
loop-k-preserved c = record {
  done = below_more _ _ c.loop-k.invariant.done (cc (c.mode4x4.ensures, c.sides.ensures, c.is_available.ensures, c.if-not-is_available.false));
}

pub returns-then-has_corner_neighbours : goal.returns-then-has_corner_neighbours
returns-then-has_corner_neighbours c =
    sym (all_sixteen (can_nxn c.args.readable c.args.modes.in_order.now) (λ k low. c.has_corner_neighbours.ensures c.if-has_corner_neighbours.true _ k low))

pub returns : goal.returns
returns c = sym (all_sixteen (can_nxn c.args.readable c.args.modes.in_order.now) (λ k low. c.loop-k.invariant.done k (omega (arith, low, c.loop-k-test.false))))

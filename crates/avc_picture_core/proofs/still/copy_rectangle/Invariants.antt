use Rattle.std.specs.Prelude.{◌≡◌}
use Rattle.avc_picture_core.specs.Still.{with_rectangle_of}
use Rattle.avc_picture_core.proofs.still.copy_rectangle.Given as goal

abbrev pub invariant-loop-row : goal.invariant-loop-row
invariant-loop-row g l = l.plane ≡ with_rectangle_of l.from l.left l.top l.width l.row l.fn.plane

use Rattle.std.specs.Prelude.{◌<◌}
use Rattle.avc_sample_tests.proofs.inter_prediction.plane_of.Given as goal

abbrev pub invariant-loop-y : goal.invariant-loop-y
invariant-loop-y l = record { wide : 0 < l.plane.width; high : 0 < l.plane.height }

abbrev pub invariant-loop-x : goal.invariant-loop-x
invariant-loop-x l = record { wide : 0 < l.plane.width; high : 0 < l.plane.height }

use Rattle.std.proofs.Common.{take}
use Rattle.avc_replay.specs.Tracing.{AreTraced}
use Rattle.avc_replay.proofs.tracing.trace.Given as goal

abbrev pub invariant-pairs : goal.invariant-pairs
invariant-pairs l = AreTraced l.picture (take l.pair-index l.pairs) l.samples.items

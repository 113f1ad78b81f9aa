use Rattle.avc_replay.proofs.Traced.{traced_more}
use Rattle.avc_replay.proofs.tracing.trace.Goals as goal

pub pairs-preserved : goal.pairs-preserved
pairs-preserved c =
    traced_more c.args.picture.now c.args.pairs.now c.pairs.pair-index c.pairs.samples.items c.push.new.self.items _ c.in-Some.sample c.pairs-test.true c.pairs.invariant c.in-Some.ensures c.in_ok-push.ensures.items

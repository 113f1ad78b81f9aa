use Rattle.std.proofs.Common.{take_all}
use Rattle.avc_decoder.proofs.Events.{List, subst, take_more, new_machine, run_more, Run}
use Rattle.avc_decoder.specs.declared.calls.Call.{Call}
use Rattle.avc_decoder.proofs.calls.run_calls.Goals as goal

pub loop-call-preserved : goal.loop-call-preserved
loop-call-preserved g c =
    let more = take_more c.args.calls.now c.loop-call.call-index c.call-item.result c.loop-call-test.true in
    rw (more, c.in_ok-push.ensures.items, ← c.call-item.is) (run_more g.row.MAX _ _ (new_machine c.args.output) c.loop-call.decoder c.make_call.new.decoder c.call-item.result c.make_call.result c.loop-call.invariant c.make_call.ensures)

pub returns : goal.returns
returns g c = (
  c.loop-call.decoder,
  subst (λ (calls : List Call). Run g.row.MAX (new_machine c.args.output) calls c.loop-call.replies.items c.loop-call.decoder)
      (take_all c.loop-call.call-index c.args.calls.now c.loop-call-test.false) c.loop-call.invariant,
)

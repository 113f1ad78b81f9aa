use Rattle.avc_decoder.proofs.Events.{take, new_machine, Run}
use Rattle.avc_decoder.proofs.calls.run_calls.Given as goal

abbrev pub invariant-loop-call : goal.invariant-loop-call
invariant-loop-call g l = Run g.row.MAX (new_machine l.fn.output) (take l.call-index l.calls) l.replies.items l.decoder

use Rattle.avc_decoder.proofs.Events.{◌≡◌, ◌++◌, length, pictures}
use Rattle.avc_decoder.proofs.queue.push_all.Given as goal

abbrev pub invariant-loop-picture : goal.invariant-loop-picture
invariant-loop-picture l = l.waiting.items ++ pictures l.out.items ≡ l.fn.waiting.items ++ pictures l.fn.out.items

abbrev pub decreases-loop-picture : goal.decreases-loop-picture
decreases-loop-picture l = length l.out.items

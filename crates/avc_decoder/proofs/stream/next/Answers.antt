use Rattle.avc_decoder.proofs.Events.{subst, sets_after, Slice, after_first_slice, base_in, sets_named, ComesTo, phase_of}
use Rattle.avc_decoder.proofs.stream.next.Goals as goal

pub returns-in_ok-first_slice-in-Begins : goal.returns-in_ok-first_slice-in-Begins
returns-in_ok-first_slice-in-Begins c =
    let t = c.args.stream.now in
    let t' = c.first_slice.new.stream in
    rw c.in-Begins.is
    (subst (λ (s : Slice). ComesTo t.sequence.output t.queue t.read t.table
    (after_first_slice t.sequence.output (sets_named (sets_after t.table) s.header)
    (base_in (phase_of t.sequence t.phase)) s) t'.sequence t'.phase t'.queue t'.read t'.table)
    c.get.ensures c.in_ok-first_slice-in-Begins.ensures.state)

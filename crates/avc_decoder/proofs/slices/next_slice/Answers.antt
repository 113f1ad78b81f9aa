use Rattle.avc_decoder.proofs.Events.{sets_after, can_have, named_further, next_slice_comes}
use Rattle.avc_decoder.proofs.slices.next_slice.Goals as goal

pub decode_slice-requires-clause-can : goal.decode_slice-requires-clause-can
decode_slice-requires-clause-can c =
    let t = c.args.stream.now in
    can_have (sets_after t.table) t.sequence t.phase c.args.slice.now c.requires.works c.requires.within
    c.requires.continues

pub returns-clause-state : goal.returns-clause-state
returns-clause-state c =
    let t = c.args.stream.now in
    let t' = c.decode_slice.new.stream in
    let d = c.in_ok-decode_slice.ensures.state in
    next_slice_comes t.sequence t'.sequence t.queue t'.queue t.read t'.read t.table t'.table c.args.slice.now t.phase
    t'.phase c.requires.works
    (named_further (sets_after t.table) t.phase c.args.slice.now c.requires.works.named c.requires.continues) d.0 d.1

use Rattle.avc_decoder_core.proofs.Sequences.{◌∙◌, ap, sym, arith, is_ok, FrameBufferState, some_left, missing_is_stored, stored_rest}
use Rattle.avc_decoder_core.proofs.missing_frames.store_missing.Goals as goal

pub loop-frame_num-preserved : goal.loop-frame_num-preserved
loop-frame_num-preserved c =
    missing_is_stored c.args.sps.now c.args.numbers c.args.buffer.now c.loop-frame_num.numbers c.loop-frame_num.buffer c.loop-frame_num.out.items c.in-Some.frame_num _ _ _ _
    c.loop-frame_num.invariant c.requires.marked (sym c.in-Some.ensures.first) c.next.ensures.rest c.in_ok-shown.ensures.ok c.in_ok-output_more.ensures

pub returns-then-leaves_its_end : goal.returns-then-leaves_its_end
returns-then-leaves_its_end c =
    let one =
    missing_is_stored c.args.sps.now c.args.numbers c.args.buffer.now c.loop-frame_num.numbers c.loop-frame_num.buffer c.loop-frame_num.out.items c.in-Some.frame_num
    c.next.new.self c.store_missing.new.self c.in_ok-shown.shown.items c.output_more.new.out.items
    c.loop-frame_num.invariant c.requires.marked (sym c.in-Some.ensures.first) c.next.ensures.rest c.in_ok-shown.ensures.ok c.in_ok-output_more.ensures in
    stored_rest c.args.sps.now c.args.numbers c.args.buffer.now c.next.new.self c.store_missing.new.self c.output_more.new.out.items
    c.store_last.new.buffer c.in_ok-last.last.items c.output_more-then-leaves_its_end.new.out.items
    one c.in_ok-last.ensures c.in_ok-output_more-2.ensures

pub store_missing-requires-clause-going : goal.store_missing-requires-clause-going
store_missing-requires-clause-going c = c.loop-frame_num.invariant.going

pub store_missing-requires-clause-same : goal.store_missing-requires-clause-same
store_missing-requires-clause-same c = c.loop-frame_num.invariant.same (some_left _ _ (sym c.in-Some.ensures.first))

pub leaves_its_end-requires-clause-going : goal.leaves_its_end-requires-clause-going
leaves_its_end-requires-clause-going c = ap (λ (b : FrameBufferState). b.failed) c.in_ok-shown.ensures.ok.state

pub store_last-requires-clause-going : goal.store_last-requires-clause-going
store_last-requires-clause-going c = ap (λ (b : FrameBufferState). b.failed) c.in_ok-shown.ensures.ok.state

pub store_last-requires-clause-same : goal.store_last-requires-clause-same
store_last-requires-clause-same c =
    let one =
    missing_is_stored c.args.sps.now c.args.numbers c.args.buffer.now c.loop-frame_num.numbers c.loop-frame_num.buffer c.loop-frame_num.out.items c.in-Some.frame_num
    c.next.new.self c.store_missing.new.self c.in_ok-shown.shown.items c.output_more.new.out.items
    c.loop-frame_num.invariant c.requires.marked (sym c.in-Some.ensures.first) c.next.ensures.rest c.in_ok-shown.ensures.ok c.in_ok-output_more.ensures in
    one.same (omega (arith, c.leaves_its_end.ensures.long c.if-leaves_its_end.true))

pub store_last-requires-clause-marked : goal.store_last-requires-clause-marked
store_last-requires-clause-marked c =
    let one =
    missing_is_stored c.args.sps.now c.args.numbers c.args.buffer.now c.loop-frame_num.numbers c.loop-frame_num.buffer c.loop-frame_num.out.items c.in-Some.frame_num
    c.next.new.self c.store_missing.new.self c.in_ok-shown.shown.items c.output_more.new.out.items
    c.loop-frame_num.invariant c.requires.marked (sym c.in-Some.ensures.first) c.next.ensures.rest c.in_ok-shown.ensures.ok c.in_ok-output_more.ensures in
    ap is_ok one.left ∙ c.requires.marked

pub store_last-requires-clause-gap : goal.store_last-requires-clause-gap
store_last-requires-clause-gap c = c.leaves_its_end.ensures.gap c.if-leaves_its_end.true

pub store_last-requires-clause-long : goal.store_last-requires-clause-long
store_last-requires-clause-long c = c.leaves_its_end.ensures.long c.if-leaves_its_end.true

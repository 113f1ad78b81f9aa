use Rattle.avc_decoder_core.proofs.Sequences.{sym, missing_is_stored}
use Rattle.avc_decoder_core.proofs.missing_frames.store_each.Goals as goal

pub loop-frame_num-preserved : goal.loop-frame_num-preserved
loop-frame_num-preserved c =
    missing_is_stored c.args.sps.now c.args.numbers c.args.buffer.now c.loop-frame_num.numbers c.loop-frame_num.buffer c.loop-frame_num.out.items c.in-Some.frame_num _ _ _ _
    c.loop-frame_num.invariant c.requires.marked (sym c.in-Some.ensures.first) c.next.ensures.rest c.in_ok-more.ensures.ok c.in_ok-output_more.ensures

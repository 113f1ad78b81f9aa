use Rattle.avc_decoder_core.proofs.Sequences.{length, HasStored}
use Rattle.avc_decoder_core.proofs.missing_frames.store_each.Given as goal

-- the frames of the first numbers are stored
abbrev pub invariant-loop-frame_num : goal.invariant-loop-frame_num
invariant-loop-frame_num l = HasStored l.sps l.initial.numbers l.initial.buffer l.numbers l.buffer l.out.items

abbrev pub decreases-loop-frame_num : goal.decreases-loop-frame_num
decreases-loop-frame_num l = length l.numbers

use Rattle.avc_decoder.proofs.Events.{◌∙◌, refl}
use Rattle.avc_decoder.proofs.SpareMemory.{none_added, one_added}
use Rattle.avc_decoder.proofs.slices.keep_emptied.Goals as goal

pub loop-frame-init : goal.loop-frame-init
loop-frame-init c = record { sequence = refl; memory = none_added c.args.memory.now }

pub loop-frame-preserved : goal.loop-frame-preserved
loop-frame-preserved c = record {
  sequence = c.emptied_planes.ensures ∙ c.loop-frame.invariant.sequence;
  memory = rw c.keep.ensures (one_added c.args.memory.now c.loop-frame.memory c.in-Some.planes c.loop-frame.invariant.memory);
}

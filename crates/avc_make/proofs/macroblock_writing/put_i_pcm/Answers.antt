use Rattle.avc_make.proofs.Slices.{append_assoc, length-append}
use Rattle.avc_make.proofs.macroblock_writing.put_i_pcm.Goals as goal

pub returns : goal.returns
returns c = (c.requires, rw (c.in_ok-put_pcm_samples.ensures.1, c.in_ok-put_i_type.ensures.1, length-append) (simp append_assoc))

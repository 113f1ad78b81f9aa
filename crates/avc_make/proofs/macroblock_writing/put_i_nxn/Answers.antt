use Rattle.avc_make.proofs.Slices.{append_assoc}
use Rattle.avc_make.proofs.macroblock_writing.put_i_nxn.Goals as goal

pub returns : goal.returns
returns c = (c.requires.going, rw (c.in_ok-put_nxn_elements.ensures.1, c.in_ok-put_i_type.ensures.1) (simp append_assoc))

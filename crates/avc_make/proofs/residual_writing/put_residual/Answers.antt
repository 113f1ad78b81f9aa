use Rattle.avc_make.proofs.Slices.{append_assoc}
use Rattle.avc_make.proofs.residual_writing.put_residual.Goals as goal

pub returns : goal.returns
returns c = (c.requires.going, rw (c.in_ok-put_chroma.ensures.1, c.in_ok-put_luma.ensures.1) (simp append_assoc))

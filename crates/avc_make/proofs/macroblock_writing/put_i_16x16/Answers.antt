use Rattle.avc_make.proofs.Slices.{append_assoc, pair}
use Rattle.avc_make.proofs.macroblock_writing.put_i_16x16.Goals as goal

pub returns : goal.returns
returns c =
    pair c.requires.going (rw (c.in_ok-put_residual_16x16.ensures.1, c.in_ok-put_delta.ensures.1, c.in_ok-put_chroma_mode.ensures.1)
    (rw (c.in_ok-put_i_type.ensures.1, c.type_16x16.ensures.value) (simp append_assoc)))

use Rattle.avc_make.proofs.Slices.{append_assoc, pair}
use Rattle.avc_make.proofs.macroblock_writing.put_pattern.Goals as goal

pub returns : goal.returns
returns c =
    pair c.requires.going (rw (c.in_ok-put_residual.ensures.1, c.in_ok-put_qp_delta.ensures.1, c.in_ok-ue.ensures.1, c.number_of_pattern.ensures.value)
    (rw c.pattern_of-pattern.ensures.value (simp append_assoc)))

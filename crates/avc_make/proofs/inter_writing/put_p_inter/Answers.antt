use Rattle.avc_make.proofs.Slices.{append_assoc, pair}
use Rattle.avc_make.proofs.inter_writing.put_p_inter.Goals as goal

pub returns : goal.returns
returns c =
    pair c.requires.going (rw (c.in_ok-put_pattern.ensures.1, c.in_ok-put_mvd.ensures.1, c.in_ok-put_ref_idx.ensures.1, c.in_ok-put_sub_mb_types.ensures.1)
    (rw c.in_ok-put_p_type.ensures.1 (simp append_assoc)))

use Rattle.avc_make_headers.proofs.Headers.{append_assoc, pair}
use Rattle.avc_make_headers.proofs.vui_writing.HrdPart.put.Goals as goal

pub returns : goal.returns
returns c =
    pair c.in_ok-ue.ensures.0 (rw (c.in_ok-put-6.ensures.1, c.in_ok-put-5.ensures.1, c.in_ok-put-4.ensures.1, c.in_ok-put-3.ensures.1)
    (rw (c.in_ok-put_each.ensures.1, c.in_ok-put-2.ensures.1, c.in_ok-put.ensures.1, c.in_ok-ue.ensures.1, c.as_slice-entries.ensures) (simp append_assoc)))

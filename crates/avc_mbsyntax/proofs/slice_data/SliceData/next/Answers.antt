use Rattle.avc_mbsyntax.proofs.SliceDataReading.{◌≡◌, ap, reader_bits, ended, rest_at, rest_of}
use Rattle.avc_mbsyntax.proofs.slice_data.SliceData.next.Goals as goal

pub returns-in-Ended : goal.returns-in-Ended
unfolding rest_of
returns-in-Ended c = λ s before f l u.
    let d = c.args.self.now in
    let over : rest_of s before c.args.self.now ≡ ended = ap (λ t. rest_at t s before d.qp (reader_bits d.reader)) c.in-Ended.is in
    (over, over, f)

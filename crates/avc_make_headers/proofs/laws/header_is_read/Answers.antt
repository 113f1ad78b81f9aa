use Rattle.avc_make_headers.proofs.Headers.{header_unit_is_read}
use Rattle.avc_make_headers.proofs.laws.header_is_read.Goals as goal

pub returns : goal.returns
returns c = header_unit_is_read

use Rattle.avc_make_headers.proofs.Headers.{pps_unit_is_read}
use Rattle.avc_make_headers.proofs.laws.pps_is_read.Goals as goal

pub returns : goal.returns
returns c = pps_unit_is_read

use Rattle.avc_make_headers.proofs.Headers.{pps_unit_is_read}
use Rattle.avc_make_headers.proofs.pps_writing.pps_unit.Goals as goal

pub returns-clause-read : goal.returns-clause-read
returns-clause-read c = pps_unit_is_read c.args.pps.now c.in_ok-unit.unit.items c.requires.pps (rw (c.in_ok-put_pps.ensures.1, c.requires.none) at c.in_ok-unit.ensures)

use Rattle.avc_make_headers.proofs.Headers.{sps_unit_is_read}
use Rattle.avc_make_headers.proofs.sps_writing.sps_unit.Goals as goal

pub returns-clause-read : goal.returns-clause-read
returns-clause-read c within = sps_unit_is_read c.args.sps.now c.in_ok-unit.unit.items c.requires.sps within (rw (c.in_ok-put_sps.ensures.1, c.requires.none) at c.in_ok-unit.ensures)

use Rattle.avc_make.proofs.Slices.{IsPut}
use Rattle.avc_make.proofs.slice_writing.put_macroblocks.Given as goal

abbrev pub invariant-each : goal.invariant-each
invariant-each l = IsPut l.slice l.fn.maker l.mb-index l.row l.qp l.run l.maker

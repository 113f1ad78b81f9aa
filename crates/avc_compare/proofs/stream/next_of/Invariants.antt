use Rattle.avc_compare.proofs.Comparisons.{◌≤◌, length, ReadsOn}
use Rattle.avc_compare.proofs.stream.next_of.Given as goal

abbrev pub invariant-steps : goal.invariant-steps
invariant-steps g l = record {
  on : ReadsOn (g.R.Read.remaining l.fn.reader) (g.R.Read.remaining l.reader) l.fn.decoder l.decoder l.fn.ahead l.ahead;
  many : l._step ≤ length l.decoder.bytes;
}

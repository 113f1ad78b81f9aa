use Rattle.avc_inter.proofs.SixRows.{◌*◌, AreSumsOf}
use Rattle.avc_inter.proofs.centres.begin.Given as goal

abbrev pub invariant-loop-row : goal.invariant-loop-row
invariant-loop-row g l = AreSumsOf g.row.L l.source.stride (16 * l.row) l.at l.source.samples.now l.window

use Rattle.avc_mbsyntax.proofs.SliceDataReading.{◌≡◌, length, take, replicate, no_levels}
use Rattle.avc_mbsyntax.proofs.blocks.clear.Given as goal

abbrev pub invariant-each : goal.invariant-each
invariant-each g l = record {
  long : length l.levels ≡ g.row.N;
  done : take l.k l.levels ≡ replicate l.k (no_levels g.row.MAXN);
}

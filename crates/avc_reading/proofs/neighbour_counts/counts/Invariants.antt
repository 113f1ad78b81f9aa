use Rattle.std.proofs.Common.{◌≡◌, length, map}
use Rattle.std.specs.Prelude.{take}
use Rattle.avc_types.specs.Macroblock.{total_coeff}
use Rattle.avc_reading.proofs.neighbour_counts.counts.Given as goal

abbrev pub invariant-loop-k : goal.invariant-loop-k
invariant-loop-k g l = record {
  long : length l.counts ≡ length l.blocks;
  done : take l.k l.counts ≡ map total_coeff (take l.k l.blocks);
}

use Rattle.avc_picture.proofs.Slices.{◌≡◌, length, take, map, total_coeff}
use Rattle.avc_picture.proofs.info_for_neighbours.set_counts.Given as goal

abbrev pub invariant-loop-k : goal.invariant-loop-k
invariant-loop-k g l = record {
  long : length l.counts ≡ length l.blocks;
  done : take l.k l.counts ≡ map total_coeff (take l.k l.blocks);
}

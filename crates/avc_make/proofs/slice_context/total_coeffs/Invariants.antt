use Rattle.avc_make.proofs.Slices.{◌≡◌, length, take, map, total_coeff}
use Rattle.avc_make.proofs.slice_context.total_coeffs.Given as goal

abbrev pub invariant-blocks-2 : goal.invariant-blocks-2
invariant-blocks-2 g l = record {
  long : length l.counts ≡ g.row.N;
  counts : take l.k l.counts ≡ map total_coeff (take l.k l.blocks);
}

use Rattle.avc_deblock.proofs.FilteredPictures.{◌≡◌, ◌-◌, ℕ, slice_index_or, planes_of, row_by_info, no_info, HasRoom}
use Rattle.avc_deblock.specs.MbLimits.{AreRowLimits}
use Rattle.avc_deblock.proofs.filter.row.Given as goal

abbrev pub invariant-loop-column : goal.invariant-loop-column
invariant-loop-column g l = record {
  room : (column row : ℕ) → HasRoom column row (planes_of l.fn.planes) → HasRoom column row (planes_of l.planes);
  kept : AreRowLimits l.kept l.chroma_qp_index_offset;
  left : l.left.info.now ≡ slice_index_or l.info (l.column - 1) no_info;
  lines : planes_of l.planes ≡ row_by_info l.chroma_qp_index_offset l.row l.above l.info l.column (planes_of l.fn.planes);
}

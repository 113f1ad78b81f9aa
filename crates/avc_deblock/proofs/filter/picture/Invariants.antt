use Rattle.avc_deblock.proofs.FilteredPictures.{◌≡◌, ℕ, List, range_with_len, flat_map, Coded, Motion, planes_of, HasRoom, Names, HaveInfo}
use Rattle.avc_deblock.proofs.FilteredPictures.{all_filtered, row_lines}
use Rattle.avc_deblock.proofs.filter.picture.Given as goal

abbrev pub invariant-loop-y : goal.invariant-loop-y
invariant-loop-y g l = record {
  room : (column row : ℕ) → HasRoom column row (planes_of l.fn.planes) → HasRoom column row (planes_of l.planes);
  lines : (c : Coded) (motion : List (List Motion)) (names : Names) → c.width ≡ l.width → c.chroma_qp_index_offset ≡ l.chroma_qp_index_offset →
      HaveInfo c motion names 0 l.info → planes_of l.planes ≡ all_filtered c motion (planes_of l.fn.planes) (flat_map (row_lines c) (range_with_len 0 l.y));
}

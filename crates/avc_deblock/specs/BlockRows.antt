-- What strengths ask of the luma blocks of a macroblock, in rows of four blocks, ITU-T H.264 clauses
-- 6.4.3 and 8.7.2.1.
use Rattle.std.specs.Prelude.{◌≡◌, ℕ, ◌+◌, ◌*◌, ◌/◌, ◌%◌, ◌<◌, ◌==◌, pos, ◌+ℤ◌}
use Rattle.std.specs.Prelude.{not, slice_index, slice_index_or}
use Rattle.avc_neigh.specs.Blocks.{block_at}
use Rattle.avc_deblock.specs.declared.mb_info.MbInfo.{MbInfo}
use Rattle.avc_deblock.specs.declared.block_rows.BlockRows.{BlockRows}
use Rattle.avc_deblock.specs.FilterInfo.{has_bit, vector_at}

-- At this place the rows have what is asked of luma block j of a macroblock.
pub record HoldsBlock (r : BlockRows) (place : ℕ) (f : MbInfo) (j : ℕ) : Type 0 where
  pub x : pos (slice_index_or r.vectors (2 * place) 0) ≡ (vector_at f j).x +ℤ pos 32768
  pub y : pos (slice_index_or r.vectors (2 * place + 1) 0) ≡ (vector_at f j).y +ℤ pos 32768
  pub picture : slice_index_or r.pictures place 0 ≡ slice_index f.pictures (j / 4)
  pub coded : (slice_index_or r.coded place 0 == 0) ≡ not (has_bit f.coefficients j)

-- they have those of all its blocks, each in its place (6.4.3)
abbrev pub AreRowsOf : BlockRows → MbInfo → Type 0
AreRowsOf r f =
    (place : ℕ) → place < 16 →
    HoldsBlock r place f (block_at (4 * (place % 4)) (4 * (place / 4)))

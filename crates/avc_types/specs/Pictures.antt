-- Samples, frames, and what the decoding of one picture's samples starts from.
use Rattle.std.specs.Prelude.{ℕ, ℤ, Bool, List, Option}
use Rattle.avc_types.specs.declared.edges.FilteredEdges.{FilteredEdges}
use Rattle.avc_types.specs.declared.weight.Weights.{Weights}
use Rattle.avc_types.specs.Macroblock.{Mb}

-- The sample of component c (0 luma, 1 Cb, 2 Cr) in column x and row y (6.2).
abbrev pub Samples : Type 0
Samples = (c x y : ℕ) → ℕ

-- A frame that an inter prediction can name (8.4.2.1). Two frames are one picture
-- where their decoding indices are equal.
pub record Frame : Type 0 where
  -- its decoding index in the history
  pub decoding_index : ℕ
  -- no for a non-existing frame, which has no samples
  pub existing : Bool
  pub samples : Samples

-- What the samples of a slice's macroblocks depend on, beside the macroblocks (7.4.3).
pub record SliceInfo : Type 0 where
  pub is_p : Bool
  -- RefPicList0; no frame where an entry is empty
  pub references : List (Option Frame)
  -- by reference index, where predictions are explicitly weighted (8.4.2.3); else none
  pub weights : List Weights
  pub disable_deblocking_filter_idc : FilteredEdges
  -- FilterOffsetA and FilterOffsetB: twice the coded offsets
  pub filter_offset_a : ℤ
  pub filter_offset_b : ℤ

-- A macroblock with the number of its slice in the picture, from 0 (6.3).
pub record PicMb : Type 0 where
  pub slice : ℕ
  pub mb : Mb

-- A picture's macroblocks so far, in decoding order: the macroblock at place a has the address a
-- (6.3, 6.4.1).
pub record Coded : Type 0 where
  -- in macroblocks
  pub width : ℕ
  pub height : ℕ
  pub chroma_qp_index_offset : ℤ
  pub constrained_intra_pred : Bool
  pub slices : List SliceInfo
  pub mbs : List PicMb

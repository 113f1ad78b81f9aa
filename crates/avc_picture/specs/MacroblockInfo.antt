-- What is told of one macroblock: to later macroblocks, and to the deblocking filter.
use Rattle.std.specs.Prelude.{◌≡◌, ◌≤◌, ◌<◌, ◌*◌, ℕ, Bool, List, map, replicate, All, slice_index}
use Rattle.std.specs.Prelude.{slice_index_or}
use Rattle.avc_types.specs.Macroblock.{Mb, MbSyntax, p_skip, i_pcm, i_nxn, i_16x16, p_inter}
use Rattle.avc_types.specs.Pictures.{Coded}
use Rattle.avc_neigh.specs.Around.{Around}
use Rattle.avc_neigh.specs.BlockNear.{ModesAreAround, HasModes}
use Rattle.avc_neigh.specs.Modes.{IsMode, IsRem, modes_of}
use Rattle.avc_neigh.specs.TotalCoeffs.{all_total_coeffs, total_coeffs_of}
use Rattle.avc_neigh.specs.declared.neighbour_info.NeighbourInfo.{NeighbourInfo}
use Rattle.avc_neigh.specs.declared.neighbour_info.NearMode.{NearMode}
use Rattle.avc_neigh.specs.declared.neighbour_info.NearMode.TheVariants.{Inter as inter_mode}
use Rattle.avc_neigh.specs.declared.neighbour_info.Motion.{Motion}
use Rattle.avc_neigh.specs.declared.neighbour_info.Motion.TheVariants.{Absent as absent}
use Rattle.avc_neigh.specs.declared.neighbour_info.Motion.TheVariants.{Intra as intra}
use Rattle.avc_neigh.specs.declared.neighbour_info.Motion.TheVariants.{Inter as inter}
use Rattle.avc_mbsyntax.specs.Ranges.{IsSyntax}
use Rattle.avc_motion.specs.Motion.{is_intra, still_blocks, vector_of}
use Rattle.avc_deblock.specs.declared.mb_info.MbInfo.{MbInfo}
use Rattle.avc_deblock.specs.Edges.{filter_qp, has_coefficients}
use Rattle.avc_deblock.specs.FilterInfo.{has_bit}
use Rattle.avc_picture.specs.declared.slice_context.SliceContext.{SliceContext}

-- A macroblock as it is read: its syntax elements and QP_Y are in their ranges (7.4.5).
pub record IsRead (mb : Mb) : Type 0 where
  -- of the reference indices of its slice
  pub num_ref_idx_active : ℕ
  pub syntax : IsSyntax num_ref_idx_active mb.syntax
  pub quantiser : mb.qp ≤ 51

-- each rem_intra4x4_pred_mode is 0 to 7
abbrev pub HasRems : MbSyntax → Type 0
HasRems p_skip = Unit {0}
HasRems (i_pcm luma cb cr) = Unit {0}
HasRems (i_nxn modes chroma_mode r) = All IsRem modes
HasRems (i_16x16 mode chroma_mode r) = Unit {0}
HasRems (p_inter mb_type ref_idx mvd r) = Unit {0}

-- These are the modes of a macroblock with this syntax, in whichever picture it has these
-- neighbours (8.3.1.1).
abbrev pub AreModes : Around → (constrained_intra_pred : Bool) → MbSyntax → List NearMode → Type 0
AreModes n constrained_intra_pred syntax modes =
    (c : Coded) (known : List (List NearMode)) (a : ℕ) → c.constrained_intra_pred
    ≡ constrained_intra_pred
    → ModesAreAround n c.mbs c.width known a → modes ≡ modes_of c known a syntax

-- what neighbours are told of a macroblock of this slice, beside its motion
pub record IsNeighbourInfo (slice : ℕ) (n : Around) (constrained_intra_pred : Bool) (mb : Mb)
    (f : NeighbourInfo) : Type 0 where
  pub slice_is : f.slice ≡ slice
  pub total_coeffs_is : f.total_coeffs ≡ total_coeffs_of mb.syntax
  pub modes_are : AreModes n constrained_intra_pred mb.syntax f.modes
  pub in_range : HasModes n.a → HasModes n.b → All IsMode f.modes

-- what neighbours are told of a skipped macroblock of this slice that stands still (8.4.1.1)
abbrev pub still_info : (slice : ℕ) → NeighbourInfo
still_info slice = record {
  slice = slice;
  total_coeffs = all_total_coeffs 0;
  modes = replicate 16 inter_mode;
  motion = still_blocks;
}

-- the number of the frame that a block is predicted from, by the slice's numbers; 0 of a block that
-- is not
abbrev pub number_of : (frame_numbers : List ℕ) → Motion → ℕ
number_of numbers absent = 0
number_of numbers intra = 0
number_of numbers (inter r v) = slice_index_or numbers r 0

-- what the deblocking filter is told of a macroblock of this slice with this motion
pub record IsFilterInfo {PAD : ℕ} (mb : Mb) (motion : List Motion) (s : SliceContext PAD)
    (f : MbInfo) : Type 0 where
  pub intra_is : f.is_intra ≡ is_intra mb.syntax
  pub coefficients_is : (k : ℕ) → k < 16 → has_bit f.coefficients k ≡ has_coefficients mb.syntax k
  pub pictures_are : (q : ℕ) → q < 4 → slice_index f.pictures q
      ≡ number_of s.frame_numbers (slice_index_or motion (4 * q) absent)
  pub vectors_are : f.vectors ≡ map vector_of motion
  pub qp_is : f.qp ≡ filter_qp mb.qp mb.syntax
  pub slice_is : f.slice ≡ s.number
  pub edges_is : f.filtered_edges ≡ s.filtered_edges
  pub offset_a_is : f.offset_a ≡ s.offset_a
  pub offset_b_is : f.offset_b ≡ s.offset_b

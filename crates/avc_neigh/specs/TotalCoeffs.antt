-- total_coeff of the blocks of a macroblock, and nC (9.2.1).
use Rattle.std.specs.Prelude.{ℕ, zero, suc, ◌+◌, ◌-◌, ◌/◌, List, map, replicate, Option, Some, None}
use Rattle.std.specs.Prelude.{slice_index}
use Rattle.std.specs.Option.{option_map}
use Rattle.avc_neigh.specs.declared.neighbour_info.TotalCoeffs.{TotalCoeffs}
use Rattle.avc_types.specs.Macroblock.{total_coeff, Residual, MbSyntax, p_skip, i_pcm, i_nxn}
use Rattle.avc_types.specs.Macroblock.{i_16x16, p_inter}
use Rattle.avc_neigh.specs.Blocks.{block_x, block_y, block_at}

-- the same total_coeff for each block of a macroblock (9.2.1)
abbrev pub all_total_coeffs : ℕ → TotalCoeffs
all_total_coeffs n = record { luma = replicate 16 n; cb = replicate 4 n; cr = replicate 4 n }

-- total_coeff of each block of a residual; the DC blocks do not count (9.2.1)
abbrev pub residual_total_coeffs : Residual → TotalCoeffs
residual_total_coeffs r = record {
  luma = map total_coeff r.luma;
  cb = map total_coeff r.cb_ac;
  cr = map total_coeff r.cr_ac;
}

-- total_coeff of each block of a macroblock: 0 in a skipped one, 16 in I_PCM (9.2.1)
abbrev pub total_coeffs_of : MbSyntax → TotalCoeffs
total_coeffs_of p_skip = all_total_coeffs 0
total_coeffs_of (i_pcm luma cb cr) = all_total_coeffs 16
total_coeffs_of (i_nxn modes chroma_mode r) = residual_total_coeffs r
total_coeffs_of (i_16x16 mode chroma_mode r) = residual_total_coeffs r
total_coeffs_of (p_inter shape ref_idx mvd r) = residual_total_coeffs r

-- nA for block k of a component (9.2.1): that of the block which covers the sample to the left of
-- it. Inside the macroblock it is in `mine`, which has the blocks before k; else in the
-- neighbouring macroblock, where that is available. A macroblock has size x size samples of the
-- component.
abbrev pub nA : (size : ℕ) → Option (List ℕ) → (mine : List ℕ) → ℕ → Option ℕ
nA size left mine k =
    elim (block_x k) [
      | zero ↦ option_map
          (λ total_coeffs. slice_index total_coeffs (block_at (size - 1) (block_y k))) left
      | suc x ↦ Some (slice_index mine (block_at x (block_y k)))
    ]

-- nB: the same of the sample above it (9.2.1)
abbrev pub nB : (size : ℕ) → Option (List ℕ) → (mine : List ℕ) → ℕ → Option ℕ
nB size up mine k =
    elim (block_y k) [
      | zero ↦ option_map
          (λ total_coeffs. slice_index total_coeffs (block_at (block_x k) (size - 1))) up
      | suc y ↦ Some (slice_index mine (block_at (block_x k) y))
    ]

-- nC from nA and nB, as far as these are available (9.2.1)
abbrev pub mean : Option ℕ → Option ℕ → ℕ
mean (Some a) (Some b) = (a + b + 1) / 2
mean (Some a) None = a
mean None (Some b) = b
mean None None = 0

-- nC for block k of a component (9.2.1)
abbrev pub nc : (size : ℕ) → (left up : Option (List ℕ)) → (mine : List ℕ) → (k : ℕ) → ℕ
nc size left up mine k = mean (nA size left mine k) (nB size up mine k)

-- What holds of every macroblock that is read (7.4.5).
use Rattle.std.specs.Prelude.{ℕ, ◌-◌, ◌≤◌, ℤ, pos, List, IfSome, slice_index_or}
use Rattle.std.specs.List.{All}
use Rattle.avc_types.specs.Macroblock.{Residual, MbSyntax, p_skip, i_pcm, i_nxn, i_16x16, p_inter}
use Rattle.avc_cavlc.specs.Block.{IsSmall}

-- each level is from -2,528 to 2,528
abbrev pub AreSmall : List ℤ → Type 0
AreSmall levels = (i : ℕ) → IsSmall (slice_index_or levels i (pos 0))

-- patterns and levels of a residual are in their ranges
pub record IsResidual (r : Residual) : Type 0 where
  pub luma_bits : r.luma_pattern ≤ 15
  pub chroma_bits : r.chroma_pattern ≤ 2
  pub dc : AreSmall r.luma_dc
  pub blocks : All AreSmall r.luma
  pub dc_of_cb : AreSmall r.cb_dc
  pub dc_of_cr : AreSmall r.cr_dc
  pub blocks_of_cb : All AreSmall r.cb_ac
  pub blocks_of_cr : All AreSmall r.cr_ac

-- rem_intra4x4_pred_mode, intra_chroma_pred_mode, Intra16x16PredMode and ref_idx_l0 are in their
-- ranges
abbrev pub IsSyntax : (num_ref_idx_active : ℕ) → MbSyntax → Type 0
IsSyntax num_ref_idx_active p_skip = Unit {0}
IsSyntax num_ref_idx_active (i_pcm luma cb cr) = Unit {0}
IsSyntax num_ref_idx_active (i_nxn modes chroma_mode r) =
    All (λ m. IfSome m (λ rem. rem ≤ 7)) modes × (chroma_mode ≤ 3) × IsResidual r
IsSyntax num_ref_idx_active (i_16x16 mode chroma_mode r) =
    (mode ≤ 3) × (chroma_mode ≤ 3) × IsResidual r
IsSyntax num_ref_idx_active (p_inter mb_type ref_idx mvd r) =
    All (λ ref. ref ≤ num_ref_idx_active - 1) ref_idx × IsResidual r

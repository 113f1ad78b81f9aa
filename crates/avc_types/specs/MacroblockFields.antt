-- The syntax elements that the fields of a macroblock stand for.
use Rattle.std.specs.Prelude.{ℕ, ℤ, List, [], length, take}
use Rattle.avc_types.specs.Macroblock.{Residual, MbSyntax, p_skip, i_pcm, i_nxn, i_16x16, p_inter}
use Rattle.avc_types.specs.Macroblock.{Mb, parts_of, partitions}
use Rattle.avc_types.specs.declared.mb.BlockLevels.{BlockLevels}
use Rattle.avc_types.specs.declared.mb.Syntax.{Syntax}
use Rattle.avc_types.specs.declared.mb.Syntax.TheVariants.{PSkip, IPcm, INxN, I16x16, PInter}
use Rattle.avc_types.specs.declared.mb.Mb.TheInside.{Inside}

-- the residual, with the levels of Intra16x16DCLevel
abbrev pub residual_of : {max : ℕ} → (luma_dc : List ℤ) → BlockLevels max → Residual
residual_of luma_dc levels = record {
  luma_pattern = levels.luma_pattern;
  chroma_pattern = levels.chroma_pattern;
  mb_qp_delta = levels.mb_qp_delta;
  luma_dc = luma_dc;
  luma = levels.luma;
  cb_dc = levels.cb_dc;
  cr_dc = levels.cr_dc;
  cb_ac = levels.cb_ac;
  cr_ac = levels.cr_ac;
}

-- of the reference indices and of the differences those that the type has
abbrev pub syntax_of : Syntax → MbSyntax
syntax_of PSkip = p_skip
syntax_of (IPcm luma cb cr) = i_pcm luma cb cr
syntax_of (INxN modes chroma_mode levels) = i_nxn modes chroma_mode (residual_of [] levels)
syntax_of (I16x16 mode chroma_mode luma_dc levels) =
    i_16x16 mode chroma_mode (residual_of luma_dc levels)
syntax_of (PInter mb_type ref_idx mvd levels) =
    p_inter mb_type (take (partitions mb_type) ref_idx) (take (length (parts_of mb_type)) mvd)
    (residual_of [] levels)

-- the macroblock: its syntax elements and QP_Y
abbrev pub mb_of : Inside → Mb
mb_of m = record { syntax = syntax_of m.syntax; qp = m.qp }

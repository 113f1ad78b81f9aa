-- What is read of a macroblock into its place.
use Rattle.std.specs.Prelude.{◌≡◌, ℕ, pos, Bool, true, false, List, replicate, Result, Ok, Err}
use Rattle.std.specs.Prelude.{MatchResult}
use Rattle.std.specs.Option.{option_copied}
use Rattle.avc_types.specs.declared.fault.Fault.{Fault}
use Rattle.avc_types.specs.declared.macroblock.PMbType.{PMbType}
use Rattle.avc_types.specs.declared.macroblock.Mvd.{Mvd}
use Rattle.avc_types.specs.declared.mb.BlockLevels.{BlockLevels}
use Rattle.avc_types.specs.declared.mb.Syntax.{Syntax}
use Rattle.avc_types.specs.declared.mb.Syntax.TheVariants.{PSkip, IPcm, INxN, I16x16, PInter}
use Rattle.avc_types.specs.declared.macroblock.PMbType.TheVariants.{P16x16, P16x8, P8x16, P8x8}
use Rattle.avc_types.specs.declared.macroblock.PMbType.TheVariants.{P8x8Ref0}
use Rattle.avc_bits.specs.declared.reader.BitReader.{BitReader}
use Rattle.avc_bits.specs.Bits.{Read}
use Rattle.avc_bits.specs.Reader.{reader_bits, reader_bytes}
use Rattle.avc_mbsyntax.specs.Reading.{no_levels}
use Rattle.avc_mbsyntax.specs.declared.context.Context.{Context}
use Rattle.avc_mbsyntax.specs.declared.context.LentContext.{LentContext}

-- What was read into a place is what this part of the syntax reads, and the reader goes on after
-- it. After a fault anything may stand there.
abbrev pub ReadsInto : {V : Type 0} → Result (Unit {0}) Fault → (value : V) → Read V → BitReader →
    BitReader → Type 0
ReadsInto result value read old new = MatchResult result
    (λ _. (read (reader_bits old) ≡ Ok (value, reader_bits new)) ×
    (reader_bytes new ≡ reader_bytes old))
    (λ fault. read (reader_bits old) ≡ Err fault)

-- Nothing is coded yet: all is 0.
pub record HasNoLevels {max : ℕ} (levels : BlockLevels max) : Type 0 where
  pub no_luma_pattern : levels.luma_pattern ≡ 0
  pub no_chroma_pattern : levels.chroma_pattern ≡ 0
  pub no_delta : levels.mb_qp_delta ≡ pos 0
  pub no_luma : levels.luma ≡ replicate 16 (no_levels max)
  pub no_cb_dc : levels.cb_dc ≡ no_levels 4
  pub no_cr_dc : levels.cr_dc ≡ no_levels 4
  pub no_cb_ac : levels.cb_ac ≡ replicate 4 (no_levels 15)
  pub no_cr_ac : levels.cr_ac ≡ replicate 4 (no_levels 15)

-- no levels, where none have been read
abbrev pub no_block_levels : {max : ℕ} → BlockLevels max
no_block_levels {max} = record {
  luma_pattern = 0;
  chroma_pattern = 0;
  mb_qp_delta = pos 0;
  luma = replicate 16 (no_levels max);
  cb_dc = no_levels 4;
  cr_dc = no_levels 4;
  cb_ac = replicate 4 (no_levels 15);
  cr_ac = replicate 4 (no_levels 15);
}

-- the levels that stand in the place of an inter macroblock
abbrev pub inter_levels_in : Syntax → BlockLevels 16
inter_levels_in (PInter mb_type ref_idx mvd levels) = levels
inter_levels_in PSkip = no_block_levels
inter_levels_in (IPcm luma cb cr) = no_block_levels
inter_levels_in (INxN modes chroma_mode levels) = no_block_levels
inter_levels_in (I16x16 mode chroma_mode luma_dc levels) = no_block_levels

-- the differences of vectors that stand there
abbrev pub mvd_in : Syntax → List Mvd
mvd_in (PInter mb_type ref_idx mvd levels) = mvd
mvd_in PSkip = replicate 16 (record { x = pos 0; y = pos 0 })
mvd_in (IPcm luma cb cr) = replicate 16 (record { x = pos 0; y = pos 0 })
mvd_in (INxN modes chroma_mode levels) = replicate 16 (record { x = pos 0; y = pos 0 })
mvd_in (I16x16 mode chroma_mode luma_dc levels) = replicate 16 (record { x = pos 0; y = pos 0 })

-- the levels that stand in the place of an I_NxN macroblock
abbrev pub nxn_levels_in : Syntax → BlockLevels 16
nxn_levels_in (INxN modes chroma_mode levels) = levels
nxn_levels_in PSkip = no_block_levels
nxn_levels_in (IPcm luma cb cr) = no_block_levels
nxn_levels_in (I16x16 mode chroma_mode luma_dc levels) = no_block_levels
nxn_levels_in (PInter mb_type ref_idx mvd levels) = no_block_levels

-- the levels that stand in the place of an Intra 16x16 macroblock
abbrev pub levels_in_16x16 : Syntax → BlockLevels 15
levels_in_16x16 (I16x16 mode chroma_mode luma_dc levels) = levels
levels_in_16x16 PSkip = no_block_levels
levels_in_16x16 (IPcm luma cb cr) = no_block_levels
levels_in_16x16 (INxN modes chroma_mode levels) = no_block_levels
levels_in_16x16 (PInter mb_type ref_idx mvd levels) = no_block_levels

-- mb_type is P_8x8ref0 (Table 7-13)
abbrev pub is_ref0 : PMbType → Bool
is_ref0 P16x16 = false
is_ref0 P16x8 = false
is_ref0 P8x16 = false
is_ref0 (P8x8 subs) = false
is_ref0 (P8x8Ref0 subs) = true

-- what the context is whose neighbours' counts are lent
abbrev pub context_of : LentContext → Context
context_of c = record {
  is_p = c.is_p;
  num_ref_idx_active = c.num_ref_idx_active;
  qp = c.qp;
  left = option_copied c.left;
  up = option_copied c.up;
}

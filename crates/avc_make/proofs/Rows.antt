-- Worked examples of what is written.
use Rattle.avc_make.proofs.Slices.{◌≡◌, pos, negsuc, false, [], ◌∷◌, refl, count_leading_zeros, byte_bits, block_bits}
use Rattle.avc_make.proofs.Slices.{se_word, ue_word, plain, small, take, replicate, None, Residual, i_16x16, Context}
use Rattle.avc_make.proofs.Slices.{mb_bits, ◌++◌, i_type, zeros_to_byte, header_bits}
use Rattle.avc_make_headers.proofs.Rows.{of_i}

-- a block that begins with 0 3 0 1 -1 -1 0 1
writes_block : block_bits 16 (pos 0) (pos 0 ∷ pos 3 ∷ pos 0 ∷ pos 1 ∷ negsuc 0 ∷ negsuc 0 ∷ pos 0 ∷ pos 1 ∷ pos 0 ∷ pos 0 ∷ pos 0 ∷ pos 0 ∷ pos 0 ∷ pos 0 ∷ pos 0 ∷ pos 0 ∷ []) ≡ byte_bits (0x08 ∷ 0xE5 ∷ 0xED ∷ [])
writes_block = refl

-- ---- macroblocks

abbrev first : Context
first = record { is_p = false; num_ref_idx_active = 0; qp = 26; left = None; up = None }

abbrev one_level : Residual
one_level = record {
  luma_pattern = 0;
  chroma_pattern = 0;
  mb_qp_delta = pos 0;
  luma_dc = pos 1 ∷ replicate 15 (pos 0);
  luma = replicate 16 (replicate 15 (pos 0));
  cb_dc = replicate 4 (pos 0);
  cr_dc = replicate 4 (pos 0);
  cb_ac = replicate 4 (replicate 15 (pos 0));
  cr_ac = replicate 4 (replicate 15 (pos 0));
}

intra_16x16 : mb_bits first 0 (i_16x16 2 0 one_level) ≡ take 11 (byte_bits (0x26 ∷ 0xB0 ∷ []))
unfolding se_word ue_word count_leading_zeros
intra_16x16 = refl

-- ---- what stands before the samples of an I_PCM macroblock

-- what stands before the samples, in bytes
writes_i_pcm : header_bits small plain of_i ++ (ue_word (i_type false 25) ++ zeros_to_byte 26) ≡ byte_bits (0x88 ∷ 0x84 ∷ 0x86 ∷ 0x80 ∷ [])
unfolding se_word ue_word count_leading_zeros
writes_i_pcm = refl

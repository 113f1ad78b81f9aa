-- Worked examples of what is written.
use Rattle.avc_make_headers.proofs.Headers.{◌≡◌, pos, true, [], ◌∷◌, refl, arith, count_leading_zeros, byte_bits, escaped_after}
use Rattle.avc_make_headers.proofs.Headers.{pps_bits, IsUnit, pps_header, sps_header, se_word, ue_word, plain, small, take, None}
use Rattle.avc_make_headers.proofs.Headers.{Some, Type0, Header, sps_bits, header_bits, slice_unit_header}
use Rattle.avc_params.specs.declared.sps.OrderCount.TheVariants as orders
use Rattle.avc_slice.specs.declared.header.SliceType.TheVariants.{AllI}
use Rattle.avc_slice.proofs.ReadUnder as Read

-- the unit of a plain picture parameter set
writes_plain : IsUnit pps_header (pps_bits plain) (0x68 ∷ 0xCE ∷ 0x38 ∷ 0x80 ∷ [])
unfolding escaped_after se_word ue_word count_leading_zeros
writes_plain = record { raw = 0xCE ∷ 0x38 ∷ 0x80 ∷ []; padding = 7; filled = record { few = omega arith; filled = refl }; body = refl }

-- the unit of a set of 16x16 samples, order count type 2, one reference frame
writes_small : IsUnit sps_header (sps_bits small) (0x67 ∷ 0x42 ∷ 0xC0 ∷ 0x0A ∷ 0xDA ∷ 0x71 ∷ [])
unfolding escaped_after se_word ue_word count_leading_zeros
writes_small = record { raw = 0x42 ∷ 0xC0 ∷ 0x0A ∷ 0xDA ∷ 0x71 ∷ []; padding = 0; filled = record { few = omega arith; filled = refl }; body = refl }

-- with weighted_pred_flag 1
writes_weighted : IsUnit pps_header (pps_bits (record plain { weighted_pred_flag = true })) (0x68 ∷ 0xCF ∷ 0x38 ∷ 0x80 ∷ [])
unfolding escaped_after se_word ue_word count_leading_zeros
writes_weighted = record { raw = 0xCF ∷ 0x38 ∷ 0x80 ∷ []; padding = 7; filled = record { few = omega arith; filled = refl }; body = refl }

-- ---- slice headers

-- of the only slice of an IDR picture
abbrev pub of_i : Header
of_i = record Read.of_i { idr_pic_id = Some 0; position = 0 }

writes_i : (header_bits small plain of_i ≡ take 17 (byte_bits (0x88 ∷ 0x84 ∷ 0x93 ∷ []))) × (slice_unit_header of_i ≡ 0x65)
unfolding se_word ue_word count_leading_zeros
writes_i = (refl, refl)

-- of a P slice of the next picture
abbrev of_p : Header
of_p = record Read.of_p { position = 0 }

writes_p : (header_bits small plain of_p ≡ take 15 (byte_bits (0x9A ∷ 0x22 ∷ []))) × (slice_unit_header of_p ≡ 0x41)
unfolding se_word ue_word count_leading_zeros
writes_p = (refl, refl)

-- with pic_order_cnt_lsb 4
writes_lsb : header_bits (record small { order_count = orders.Type0 0 }) plain (record of_p { slice_type = AllI; num_ref_idx_active = 0; order = Type0 4 (pos 0) }) ≡ take 19 (byte_bits (0x88 ∷ 0x8A ∷ 0x24 ∷ []))
unfolding se_word ue_word count_leading_zeros
writes_lsb = refl

-- with weight 1 and offset 2 of luma
writes_weights : header_bits small (record plain { weighted_pred_flag = true })
    (record of_p {
      pred_weight_table = Some (record {
        luma_log2_weight_denom = 0;
        chroma_log2_weight_denom = 0;
        entries = record { luma = Some (record { weight = pos 1; offset = pos 2 }); chroma = None } ∷ [];
      });
    }) ≡ take 27 (byte_bits (0x9A ∷ 0x27 ∷ 0x44 ∷ 0x2A ∷ []))
unfolding se_word ue_word count_leading_zeros
writes_weights = refl

use Rattle.avc_make_headers.proofs.Headers.{true, cropping_bits, flag_bits, optional_bits, order_bits, puts_then, size_bits, ue_word}
use Rattle.avc_make_headers.specs.SpsWriting.{identity_bits}
use Rattle.avc_make_headers.proofs.sps_writing.put_sps.Goals as goal

pub returns : goal.returns
returns c =
    let s = c.args.sps.now in
    puts_then c.args.maker.now _ _ (identity_bits s) _ c.in_ok-put_identity.ensures
    (puts_then _ _ _ (ue_word s.log2_max_frame_num_minus4) _ c.in_ok-ue.ensures
    (puts_then _ _ _ (order_bits s.order_count) _ c.in_ok-put_order.ensures
    (puts_then _ _ _ (ue_word s.max_num_ref_frames) _ c.in_ok-ue-2.ensures
    (puts_then _ _ _ (flag_bits s.gaps_in_frame_num_value_allowed_flag) _ c.in_ok-flag.ensures
    (puts_then _ _ _ (size_bits s) _ c.in_ok-put_size.ensures
    (puts_then _ _ _ (flag_bits true) _ c.in_ok-flag-2.ensures
    (puts_then _ _ _ (flag_bits s.direct_8x8_inference_flag) _ c.in_ok-flag-3.ensures
    (puts_then _ _ _ (optional_bits cropping_bits s.frame_cropping) _ c.in_ok-put_optional.ensures
    c.in_ok-put_optional-2.ensures))))))))

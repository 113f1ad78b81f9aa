use Rattle.avc_make_headers.proofs.Headers.{false, flag_bits, puts_then, ue_word}
use Rattle.avc_make_headers.specs.PpsWriting.{default_counts_bits, quantisation_bits}
use Rattle.avc_make_headers.proofs.pps_writing.put_pps.Goals as goal

pub returns : goal.returns
returns c =
    let p = c.args.pps.now in
    puts_then c.args.maker.now _ _ (ue_word p.pic_parameter_set_id) _ c.in_ok-ue.ensures
    (puts_then _ _ _ (ue_word p.seq_parameter_set_id) _ c.in_ok-ue-2.ensures
    (puts_then _ _ _ (flag_bits false) _ c.in_ok-flag.ensures
    (puts_then _ _ _ (flag_bits p.bottom_field_pic_order_in_frame_present_flag) _ c.in_ok-flag-2.ensures
    (puts_then _ _ _ (ue_word 0) _ c.in_ok-ue-3.ensures
    (puts_then _ _ _ (default_counts_bits p) _ c.in_ok-put_default_counts.ensures
    (puts_then _ _ _ (quantisation_bits p) _ c.in_ok-put_quantisation.ensures
    c.in_ok-put_switches.ensures))))))

use Rattle.avc_make_headers.proofs.Headers.{aspect_bits, chroma_location_bits, flag_bits, hrd_bits, optional_bits, puts_then, timing_bits, video_signal_bits, where_bits}
use Rattle.avc_make_headers.proofs.vui_writing.VuiPart.put.Goals as goal

pub returns : goal.returns
returns c =
    let v = c.args.self.now in
    puts_then c.args.maker.now _ _ (optional_bits aspect_bits v.aspect) _ c.in_ok-put_optional.ensures
    (puts_then _ _ _ (optional_bits flag_bits v.overscan_appropriate_flag) _ c.in_ok-put_optional-2.ensures
    (puts_then _ _ _ (optional_bits video_signal_bits v.video_signal) _ c.in_ok-put_optional-3.ensures
    (puts_then _ _ _ (optional_bits chroma_location_bits v.chroma_location) _ c.in_ok-put_optional-4.ensures
    (puts_then _ _ _ (optional_bits timing_bits v.timing) _ c.in_ok-put_optional-5.ensures
    (puts_then _ _ _ (optional_bits hrd_bits v.nal_hrd) _ c.in_ok-put_optional-6.ensures
    (puts_then _ _ _ (optional_bits hrd_bits v.vcl_hrd) _ c.in_ok-put_optional-7.ensures
    (puts_then _ _ _ (where_bits flag_bits v.low_delay_hrd_flag) _ c.in_ok-put_where.ensures
    (puts_then _ _ _ (flag_bits v.pic_struct_present_flag) _ c.in_ok-flag.ensures
    c.in_ok-put_optional-8.ensures))))))))

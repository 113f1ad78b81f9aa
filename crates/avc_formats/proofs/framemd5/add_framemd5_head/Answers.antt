use Rattle.avc_formats.proofs.Fronts.{string_bytes, aspect_line, codec_lines, columns_line, dimensions_line, format_lines, time_base_line, joined_six}
use Rattle.avc_formats.proofs.framemd5.add_framemd5_head.Goals as goal

pub returns : goal.returns
returns c =
    let s = c.args.said.now in
    joined_six (string_bytes c.args.text.now) format_lines (time_base_line s.frame_rate) codec_lines (dimensions_line s) (aspect_line s.sample_aspect) columns_line
    _ _ _ _ _ _ c.in_ok-push_str.ensures.bytes c.in_ok-add_time_base.ensures c.in_ok-push_str-2.ensures.bytes c.in_ok-add_dimensions.ensures
    c.in_ok-add_aspect.ensures c.in_ok-push_str-3.ensures.bytes

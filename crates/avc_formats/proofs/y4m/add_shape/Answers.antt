use Rattle.avc_formats.proofs.Fronts.{string_bytes, codes, decimal, ratio_word, joined_shape}
use Rattle.avc_formats.proofs.y4m.add_shape.Goals as goal

pub returns : goal.returns
returns c =
    let s = c.args.said.now in
    joined_shape (string_bytes c.args.text.now) (codes "YUV4MPEG2 W") (decimal s.width) (codes " H") (decimal s.height) (codes " F") (ratio_word s.frame_rate)
    (codes " Ip A") (ratio_word s.sample_aspect) _ _ _ _ c.in_ok-write.ensures.bytes c.in_ok-add_ratio.ensures c.in_ok-push_str.ensures.bytes c.in_ok-add_ratio-2.ensures

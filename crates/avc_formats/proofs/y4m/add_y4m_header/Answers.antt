use Rattle.avc_formats.proofs.Fronts.{string_bytes, newline, chroma_words, range_words, shape_words, joined_four}
use Rattle.avc_formats.proofs.y4m.add_y4m_header.Goals as goal

pub returns : goal.returns
returns c =
    let s = c.args.said.now in
    joined_four (string_bytes c.args.text.now) (shape_words s) (chroma_words s.chroma_site) (range_words s.full_range) newline _ _ _ _ _ _ c.in_ok-add_shape.ensures
    c.in_ok-push_str.ensures.bytes c.chroma_words.ensures c.in_ok-push_str-2.ensures.bytes c.range_words.ensures c.in_ok-push_str-3.ensures.bytes

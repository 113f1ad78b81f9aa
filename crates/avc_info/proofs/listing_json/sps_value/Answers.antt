use Rattle.avc_info.proofs.Noted.{◌∙◌, ap, refl, serde_json_on_literals, view-Object, object, members_view, count, with_one}
use Rattle.avc_info.proofs.listing_json.sps_value.Goals as goal

pub returns : goal.returns
unfolding serde_json_on_literals
returns c =
    let none = ap members_view c.new-map.ensures.empty in
    let frames = with_one _ _ _ _ _ _ c.in_ok-put_count.ensures (ap count (c.from.ensures ∙ c.dpb_size.ensures)) none in
    let height = with_one _ _ _ _ _ _ c.in_ok-put_count-2.ensures (ap count c.shown_height.ensures) frames in
    let kind = with_one _ _ _ _ _ _ c.in_ok-put_text.ensures refl height in
    let level = with_one _ _ _ _ _ _ c.in_ok-put_count-3.ensures (ap count c.from-2.ensures) kind in
    let references = with_one _ _ _ _ _ _ c.in_ok-put_count-4.ensures (ap count c.from-3.ensures) level in
    let order = with_one _ _ _ _ _ _ c.in_ok-put_count-5.ensures (ap count (c.from-4.ensures ∙ c.order_type.ensures)) references in
    let profile = with_one _ _ _ _ _ _ c.in_ok-put_count-6.ensures (ap count c.from-5.ensures) order in
    let id = with_one _ _ _ _ _ _ c.in_ok-put_count-7.ensures (ap count c.from-6.ensures) profile in
    let numbered = with_one _ _ _ _ _ _ c.in_ok-put_count-8.ensures refl id in
    let width = with_one _ _ _ _ _ _ c.in_ok-put_count-9.ensures (ap count c.shown_width.ensures) numbered in
    view-Object c.put_count-9.new.map ∙ ap object width

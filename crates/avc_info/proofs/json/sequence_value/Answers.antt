use Rattle.avc_info.proofs.Noted.{◌∙◌, ap, refl, serde_json_on_literals, view-Object, object, members_view, count, ratio_data}
use Rattle.avc_info.proofs.Noted.{with_one}
use Rattle.avc_info.proofs.json.sequence_value.Goals as goal

pub returns : goal.returns
unfolding serde_json_on_literals
returns c =
    let none = ap members_view c.new-map.ensures.empty in
    let place = with_one _ _ _ _ _ _ c.in_ok-put.ensures.ok c.count_if_given-place.ensures none in
    let coded = with_one _ _ _ _ _ _ c.in_ok-put-2.ensures.ok c.in_ok-coded.ensures place in
    let colour = with_one _ _ _ _ _ _ c.in_ok-put-3.ensures.ok c.in_ok-colour.ensures coded in
    let crop = with_one _ _ _ _ _ _ c.in_ok-put-4.ensures.ok c.in_ok-crop.ensures colour in
    let rate = with_one _ _ _ _ _ _ c.in_ok-put-5.ensures.ok (c.in_ok-frame_rate.ensures ∙ ap ratio_data c.rate_ratio.ensures) crop in
    let height = with_one _ _ _ _ _ _ c.in_ok-put_count.ensures refl rate in
    let level = with_one _ _ _ _ _ _ c.in_ok-put_level.ensures refl height in
    let references = with_one _ _ _ _ _ _ c.in_ok-put_count-2.ensures (ap count c.from.ensures) level in
    let reordered = with_one _ _ _ _ _ _ c.in_ok-put-6.ensures.ok c.count_if_given-reordered.ensures references in
    let profile = with_one _ _ _ _ _ _ c.in_ok-put_profile.ensures refl reordered in
    let aspect = with_one _ _ _ _ _ _ c.in_ok-put-7.ensures.ok c.in_ok-aspect.ensures profile in
    let range = with_one _ _ _ _ _ _ c.in_ok-put-8.ensures.ok c.flag_value-full_range.ensures aspect in
    let width = with_one _ _ _ _ _ _ c.in_ok-put_count-3.ensures refl range in
    view-Object c.put_count-3.new.map ∙ ap object width

use Rattle.avc_info.proofs.Noted.{◌∙◌, ap, refl, serde_json_on_literals, view-Object, object, members_view, with_one, count, string}
use Rattle.avc_info.proofs.listing_json.refused_value.Goals as goal

pub returns : goal.returns
unfolding serde_json_on_literals
returns c =
    let none = ap members_view c.new-map.ensures.empty in
    let kind = with_one _ _ _ _ _ _ c.in_ok-put_text.ensures refl none in
    let name = with_one _ _ _ _ _ _ c.in_ok-put_text-2.ensures (ap string c.name.ensures) kind in
    let number = with_one _ _ _ _ _ _ c.in_ok-put_byte.ensures (ap count c.number.ensures) name in
    let unit = with_one _ _ _ _ _ _ c.in_ok-put_count.ensures refl number in
    view-Object c.put_count.new.map ∙ ap object unit

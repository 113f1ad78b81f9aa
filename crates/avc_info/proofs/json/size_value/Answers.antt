use Rattle.avc_info.proofs.Noted.{◌∙◌, ap, refl, serde_json_on_literals, view-Object, object, members_view, with_one}
use Rattle.avc_info.proofs.json.size_value.Goals as goal

pub returns : goal.returns
unfolding serde_json_on_literals
returns c =
    let none = ap members_view c.new-map.ensures.empty in
    let height = with_one _ _ _ _ _ _ c.in_ok-put_count.ensures refl none in
    let width = with_one _ _ _ _ _ _ c.in_ok-put_count-2.ensures refl height in
    view-Object c.put_count-2.new.map ∙ ap object width

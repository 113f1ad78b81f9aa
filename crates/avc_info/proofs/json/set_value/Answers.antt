use Rattle.avc_info.proofs.Noted.{◌∙◌, ap, serde_json_on_literals, view-Object, object, members_view, count, with_one}
use Rattle.avc_info.proofs.json.set_value.Goals as goal

pub returns : goal.returns
unfolding serde_json_on_literals
returns c =
    let none = ap members_view c.new-map.ensures.empty in
    let coded = with_one _ _ _ _ _ _ c.in_ok-put.ensures.ok c.in_ok-coded.ensures none in
    let level = with_one _ _ _ _ _ _ c.in_ok-put_count.ensures (ap count c.from.ensures) coded in
    let profile = with_one _ _ _ _ _ _ c.in_ok-put_count-2.ensures (ap count c.from-2.ensures) level in
    view-Object c.put_count-2.new.map ∙ ap object profile

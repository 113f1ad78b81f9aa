use Rattle.avc_info.proofs.Noted.{◌∙◌, ap, refl, serde_json_on_literals, view-Object, object, members_view, with_one}
use Rattle.avc_info.proofs.listing_json.piece_value.Goals as goal

pub returns : goal.returns
unfolding serde_json_on_literals
returns c =
    let none = ap members_view c.new-map.ensures.empty in
    let first = with_one _ _ _ _ _ _ c.in_ok-put_count.ensures refl none in
    let pictures = with_one _ _ _ _ _ _ c.in_ok-put_count-2.ensures refl first in
    let number = with_one _ _ _ _ _ _ c.in_ok-put_count-3.ensures refl pictures in
    let unit = with_one _ _ _ _ _ _ c.in_ok-put_count-4.ensures refl number in
    view-Object c.put_count-4.new.map ∙ ap object unit

use Rattle.avc_info.proofs.Noted.{◌∙◌, ap, refl, serde_json_on_literals, view-Object, object, members_view, count, with_one}
use Rattle.avc_info.proofs.listing_json.pps_value.Goals as goal

pub returns : goal.returns
unfolding serde_json_on_literals
returns c =
    let none = ap members_view c.new-map.ensures.empty in
    let constrained = with_one _ _ _ _ _ _ c.in_ok-put_byte.ensures (ap count c.flag_number-constrained.ensures) none in
    let controlled = with_one _ _ _ _ _ _ c.in_ok-put_byte-2.ensures (ap count c.flag_number-controlled.ensures) constrained in
    let kind = with_one _ _ _ _ _ _ c.in_ok-put_text.ensures refl controlled in
    let references = with_one _ _ _ _ _ _ c.in_ok-put_byte-3.ensures refl kind in
    let qp = with_one _ _ _ _ _ _ c.in_ok-put_initial_qp.ensures refl references in
    let id = with_one _ _ _ _ _ _ c.in_ok-put_byte-4.ensures refl qp in
    let sequence = with_one _ _ _ _ _ _ c.in_ok-put_byte-5.ensures refl id in
    let numbered = with_one _ _ _ _ _ _ c.in_ok-put_count.ensures refl sequence in
    view-Object c.put_count.new.map ∙ ap object numbered

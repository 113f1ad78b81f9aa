use Rattle.avc_info.proofs.Noted.{◌∙◌, ap, refl, serde_json_on_literals, view-Object, object, members_view, count, string, with_one}
use Rattle.avc_tools.specs.Lines.{flag_number, slice_qp_under}
use Rattle.avc_info.proofs.listing_json.slice_value.Goals as goal

pub returns : goal.returns
unfolding serde_json_on_literals
returns c =
    let none = ap members_view c.new-map.ensures.empty in
    let idr = with_one _ _ _ _ _ _ c.in_ok-put_byte.ensures (ap count (c.flag_number.ensures ∙ ap flag_number c.is_idr.ensures)) none in
    let qp = with_one _ _ _ _ _ _ c.in_ok-put_count.ensures (ap count (c.slice_qp_under-qp.ensures ∙ ap (λ p. slice_qp_under p c.args.header.now) c.pps.ensures)) idr in
    let first = with_one _ _ _ _ _ _ c.in_ok-put_count-2.ensures (ap count (c.from-first_mb.ensures ∙ c.get.ensures)) qp in
    let number = with_one _ _ _ _ _ _ c.in_ok-put_count-3.ensures (ap count c.from.ensures) first in
    let kind = with_one _ _ _ _ _ _ c.in_ok-put_text.ensures refl number in
    let id = with_one _ _ _ _ _ _ c.in_ok-put_byte-2.ensures refl kind in
    let type = with_one _ _ _ _ _ _ c.in_ok-put_text-2.ensures (ap string c.type_name.ensures) id in
    let numbered = with_one _ _ _ _ _ _ c.in_ok-put_count-4.ensures refl type in
    view-Object c.put_count-4.new.map ∙ ap object numbered

use Rattle.std.proofs.Common.{refl}
use Rattle.std.specs.Prelude.{codes}
use Rattle.serde_json.specs.View.{members_view}
use Rattle.avc_objects.proofs.Members.{with_one}
use Rattle.avc_objects.proofs.json.put_type.Goals as goal

pub returns : goal.returns
returns c =
    let qp = with_one (codes "QPY") _ _ (members_view c.args.map.now.entries) _ _ c.in_ok-put.ensures.ok c.from.ensures refl in
    let pattern = with_one _ _ _ _ _ _ c.in_ok-put-2.ensures.ok c.pattern_value.ensures qp in
    let chroma_mode = with_one _ _ _ _ _ _ c.in_ok-put-3.ensures.ok c.chroma_mode_value-chroma_mode.ensures pattern in
    let mb_type = with_one _ _ _ _ _ _ c.in_ok-put-4.ensures.ok c.in_ok-mb_type.ensures chroma_mode in
    with_one _ _ _ _ _ _ c.in_ok-put-5.ensures.ok c.in_ok-subs.ensures mb_type

use Rattle.std.proofs.Common.{◌∙◌, ap, refl}
use Rattle.std.specs.Prelude.{codes}
use Rattle.serde_json.specs.Data.{string}
use Rattle.serde_json.specs.View.{members_view}
use Rattle.avc_objects.proofs.Members.{with_one}
use Rattle.avc_objects.specs.JsonLines.{count}
use Rattle.avc_objects.proofs.json.put_fault.Goals as goal

pub returns : goal.returns
returns c =
    let name = with_one (codes "name") _ _ (members_view c.args.map.now.entries) _ _ c.in_ok-put.ensures.ok (c.in_ok-name.ensures ∙ ap string c.name.ensures) refl in
    with_one _ _ _ _ _ _ c.in_ok-put-2.ensures.ok (c.from.ensures ∙ ap count c.number.ensures) name

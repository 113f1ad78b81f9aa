use Rattle.std.proofs.Common.{◌∙◌, ap, refl}
use Rattle.std.specs.Prelude.{codes}
use Rattle.serde_json.specs.View.{members_view}
use Rattle.avc_objects.proofs.Members.{with_one}
use Rattle.avc_objects.specs.Parts.{with_fault}
use Rattle.avc_objects.proofs.json.put_refused.Goals as goal

pub returns : goal.returns
returns c =
    let kind = with_one (codes "kind") _ _ (members_view c.args.map.now.entries) _ _ c.in_ok-put.ensures.ok c.in_ok-kind.ensures refl in
    let unit = with_one _ _ _ _ _ _ c.in_ok-put-2.ensures.ok c.from.ensures kind in
    c.in_ok-put_fault.ensures ∙ ap (with_fault c.args.fault) unit

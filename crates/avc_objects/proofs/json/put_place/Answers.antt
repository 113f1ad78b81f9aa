use Rattle.std.proofs.Common.{refl}
use Rattle.std.specs.Prelude.{codes}
use Rattle.serde_json.specs.View.{members_view}
use Rattle.avc_objects.proofs.Members.{with_one}
use Rattle.avc_objects.proofs.json.put_place.Goals as goal

pub returns : goal.returns
returns c =
    let kind = with_one (codes "kind") _ _ (members_view c.args.map.now.entries) _ _ c.in_ok-put.ensures.ok c.in_ok-kind.ensures refl in
    let address = with_one _ _ _ _ _ _ c.in_ok-put-2.ensures.ok c.from.ensures kind in
    let slice = with_one _ _ _ _ _ _ c.in_ok-put-3.ensures.ok c.from-2.ensures address in
    with_one _ _ _ _ _ _ c.in_ok-put-4.ensures.ok c.from-3.ensures slice

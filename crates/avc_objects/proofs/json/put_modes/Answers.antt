use Rattle.std.proofs.Common.{refl}
use Rattle.std.specs.Prelude.{codes}
use Rattle.serde_json.specs.View.{members_view}
use Rattle.avc_objects.proofs.Members.{with_one}
use Rattle.avc_objects.proofs.json.put_modes.Goals as goal

pub returns : goal.returns
returns c =
    let derived = with_one (codes "Intra4x4PredMode") _ _ (members_view c.args.map.now.entries) _ _ c.in_ok-put.ensures.ok c.in_ok-derived.ensures refl in
    with_one _ _ _ _ _ _ c.in_ok-put-2.ensures.ok c.in_ok-coded.ensures derived

use Rattle.std.proofs.Common.{refl}
use Rattle.std.specs.Prelude.{codes}
use Rattle.serde_json.specs.View.{members_view}
use Rattle.avc_objects.proofs.Members.{with_one}
use Rattle.avc_objects.proofs.json.put_motion.Goals as goal

pub returns : goal.returns
returns c =
    let vectors = with_one (codes "mv_l0") _ _ (members_view c.args.map.now.entries) _ _ c.in_ok-put.ensures.ok c.in_ok-vectors.ensures refl in
    let mvd = with_one _ _ _ _ _ _ c.in_ok-put-2.ensures.ok c.in_ok-mvd.ensures vectors in
    with_one _ _ _ _ _ _ c.in_ok-put-3.ensures.ok c.in_ok-ref_idx.ensures mvd

use Rattle.std.proofs.Common.{refl}
use Rattle.std.specs.Prelude.{codes}
use Rattle.serde_json.specs.View.{members_view}
use Rattle.avc_objects.proofs.Members.{with_one}
use Rattle.avc_objects.proofs.json_lists.put_blocks.Goals as goal

pub returns : goal.returns
returns g c =
    let cb = with_one (codes "cb") _ _ (members_view c.args.map.now.entries) _ _ c.in_ok-put.ensures.ok c.in_ok-cb.ensures refl in
    let cb_dc = with_one _ _ _ _ _ _ c.in_ok-put-2.ensures.ok c.in_ok-cb_dc.ensures cb in
    let cr = with_one _ _ _ _ _ _ c.in_ok-put-3.ensures.ok c.in_ok-cr.ensures cb_dc in
    let cr_dc = with_one _ _ _ _ _ _ c.in_ok-put-4.ensures.ok c.in_ok-cr_dc.ensures cr in
    with_one _ _ _ _ _ _ c.in_ok-put-5.ensures.ok c.in_ok-luma.ensures cr_dc

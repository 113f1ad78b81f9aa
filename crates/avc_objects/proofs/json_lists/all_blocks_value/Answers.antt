use Rattle.std.proofs.Common.{◌∙◌, ap, refl}
use Rattle.serde_json.proofs.OnLiterals.{serde_json_on_literals}
use Rattle.serde_json.proofs.Views.{view-Object}
use Rattle.serde_json.specs.Data.{object}
use Rattle.serde_json.specs.View.{members_view}
use Rattle.avc_types.specs.MacroblockFields.{residual_of}
use Rattle.avc_objects.proofs.Members.{with_one}
use Rattle.avc_objects.specs.Parts.{with_blocks}
use Rattle.std.specs.Prelude.{[]}
use Rattle.avc_objects.proofs.json_lists.all_blocks_value.Goals as goal

pub returns : goal.returns
unfolding serde_json_on_literals
returns g c =
    let none = ap members_view c.new-map.ensures.empty in
    let luma_dc = with_one _ _ _ _ _ _ c.in_ok-put.ensures.ok refl none in
    view-Object c.put_blocks.new.map ∙ ap object (c.in_ok-put_blocks.ensures ∙ ap (with_blocks c.args.facts (residual_of [] c.args.levels.now)) luma_dc)

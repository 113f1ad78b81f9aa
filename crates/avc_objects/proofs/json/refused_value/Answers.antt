use Rattle.std.proofs.Common.{◌∙◌, ap}
use Rattle.serde_json.proofs.OnLiterals.{serde_json_on_literals}
use Rattle.serde_json.proofs.Views.{view-Object}
use Rattle.serde_json.specs.Data.{object}
use Rattle.serde_json.specs.View.{members_view}
use Rattle.avc_objects.specs.Parts.{with_refused}
use Rattle.avc_objects.proofs.json.refused_value.Goals as goal

pub returns : goal.returns
unfolding serde_json_on_literals
returns c =
    let none = ap (λ e. with_refused c.args.unit c.args.fault (members_view e)) c.new-map.ensures.empty in
    view-Object c.put_refused.new.map ∙ ap object (c.in_ok-put_refused.ensures ∙ none)

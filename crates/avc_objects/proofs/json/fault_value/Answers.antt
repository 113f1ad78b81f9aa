use Rattle.std.proofs.Common.{◌∙◌, ap}
use Rattle.serde_json.proofs.OnLiterals.{serde_json_on_literals}
use Rattle.serde_json.proofs.Views.{view-Object}
use Rattle.serde_json.specs.Data.{object}
use Rattle.serde_json.specs.View.{members_view}
use Rattle.std.specs.Prelude.{codes}
use Rattle.avc_objects.specs.Parts.{with_fault, with_place}
use Rattle.avc_objects.proofs.json.fault_value.Goals as goal

pub returns : goal.returns
unfolding serde_json_on_literals
returns c =
    let none = ap (λ e. with_place (codes "fault") c.args.place (members_view e)) c.new-map.ensures.empty in
    let placed = ap (with_fault c.args.fault) (c.in_ok-put_place.ensures ∙ none) in
    view-Object c.put_fault.new.map ∙ ap object (c.in_ok-put_fault.ensures ∙ placed)

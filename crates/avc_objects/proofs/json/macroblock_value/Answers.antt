use Rattle.std.proofs.Common.{◌∙◌, ap}
use Rattle.serde_json.proofs.OnLiterals.{serde_json_on_literals}
use Rattle.serde_json.proofs.Views.{view-Object}
use Rattle.serde_json.specs.Data.{object}
use Rattle.serde_json.specs.View.{members_view}
use Rattle.serde_json.specs.Written.{has_float}
use Rattle.avc_types.specs.Macroblock.{Mb}
use Rattle.avc_types.specs.MacroblockFields.{syntax_of}
use Rattle.avc_objects.proofs.Floats.{macroblock_has_none}
use Rattle.avc_objects.specs.Parts.{with_macroblock}
use Rattle.avc_objects.proofs.json.macroblock_value.Goals as goal

pub returns-clause-data : goal.returns-clause-data
unfolding serde_json_on_literals
returns-clause-data c =
    let mb : Mb = record { syntax = syntax_of c.args.syntax.now; qp = c.args.qp } in
    let none = ap (λ e. with_macroblock c.args.has_coefficients c.args.place mb c.args.derived.now (members_view e)) c.new-map.ensures.empty in
    view-Object c.put_macroblock.new.map ∙ ap object (c.in_ok-put_macroblock.ensures ∙ none)

pub returns-clause-float : goal.returns-clause-float
returns-clause-float c =
    ap has_float (returns-clause-data c) ∙ macroblock_has_none c.args.has_coefficients c.args.place (record { syntax = syntax_of c.args.syntax.now; qp = c.args.qp }) c.args.derived.now

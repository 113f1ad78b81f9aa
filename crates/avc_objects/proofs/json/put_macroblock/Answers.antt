use Rattle.std.proofs.Common.{◌∙◌, ap}
use Rattle.std.specs.Prelude.{codes}
use Rattle.avc_types.specs.MacroblockFields.{syntax_of}
use Rattle.avc_objects.proofs.Members.{with_one}
use Rattle.avc_objects.specs.Json.{with_coefficients}
use Rattle.avc_objects.specs.Parts.{with_modes, with_motion, with_place}
use Rattle.avc_objects.proofs.json.put_macroblock.Goals as goal

pub returns : goal.returns
returns c =
    let syntax = syntax_of c.args.syntax.now in
    let d = c.args.derived.now in
    let modes = c.in_ok-put_modes.ensures ∙ ap (with_modes syntax d.modes) c.in_ok-put_type.ensures in
    let motion = c.in_ok-put_motion.ensures ∙ ap (with_motion syntax d.motion) modes in
    let placed = c.in_ok-put_place.ensures ∙ ap (with_place (codes "macroblock") c.args.place) motion in
    let counted = with_one _ _ _ _ _ _ c.in_ok-put.ensures.ok c.in_ok-counts.ensures placed in
    c.in_ok-put_coefficients.ensures ∙ ap (with_coefficients c.args.has_coefficients syntax) counted

use Rattle.avc_picture_core.proofs.InterTiles.{rules, ◌≡◌, [], Err, refl, p_inter, planes_of, planes_parted, refused_inter}
use Rattle.avc_types.specs.MacroblockFields.{residual_of}
use Rattle.avc_picture_core.proofs.macroblock.build_p_inter.Goals as goal

pub returns-in_err-predict_inter-clause-built : goal.returns-in_err-predict_inter-clause-built
returns-in_err-predict_inter-clause-built g c = λ p ref_idx mvd at width height motion are.
    let fault = c.in_err-predict_inter.field-0.0 in
    let errs : c.from_residual.result ≡ Err fault = search rules in
    refused_inter p (p_inter c.args.mb_type.now ref_idx mvd (residual_of [] c.args.levels.blocks.now)) c.args.motion.now c.from_residual.result fault (planes_of c.args.planes.now) (planes_of c.predict_inter.new.planes) at.syntax_is refl refl motion errs
    (c.in_err-predict_inter.ensures.built p.coded p.slice width height are)

pub returns-clause-built : goal.returns-clause-built
returns-clause-built g c = λ p ref_idx mvd at width height motion are.
    planes_parted p c.args.place.column c.args.place.row c.args.qp.luma.value c.args.qp.chroma.value c.args.mb_type.now ref_idx mvd (residual_of [] c.args.levels.blocks.now) c.args.motion.now
    (planes_of c.args.planes.now) (planes_of c.predict_inter.new.planes) (planes_of c.add_residual.new.planes) at motion c.requires.macroblock
    (c.in_ok-predict_inter.ensures.built p.coded p.slice width height are)
    c.add_residual.ensures.luma c.add_residual.ensures.cb c.add_residual.ensures.cr

use Rattle.avc_picture_core.proofs.InterTiles.{rules, planes_of, planes_skip, refused_inter}
use Rattle.avc_picture_core.proofs.macroblock.build_p_skip.Goals as goal

pub returns-in_err-predict_inter-clause-built : goal.returns-in_err-predict_inter-clause-built
returns-in_err-predict_inter-clause-built g c = λ p qp qp_of_chroma at width height motion are. search (rules, refused_inter)

pub returns-clause-built : goal.returns-clause-built
returns-clause-built g c = λ p qp qp_of_chroma at width height motion are.
    planes_skip p c.args.place.column c.args.place.row qp qp_of_chroma c.args.motion.now (planes_of c.args.planes.now) (planes_of c.predict_inter.new.planes) at motion c.requires.macroblock
    (c.in_ok-predict_inter.ensures.built p.coded p.slice width height are) c.holds_bytes.ensures.small c.holds_bytes-2.ensures.small c.holds_bytes-3.ensures.small

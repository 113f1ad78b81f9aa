use Rattle.avc_picture_core.proofs.InterTiles.{there, arith, sym, ap, ◌∙◌, option_copied, planes_of, block_motion, picture_in, part_is}
use Rattle.avc_picture_core.proofs.inter.predict_part.Goals as goal

pub returns-in-Inter-Some : goal.returns-in-Inter-Some
returns-in-Inter-Some g c =
    let a = c.args in
    let from = a.from.now in
    let references = from.references.now in
    let motion = from.motion.now in
    let i = c.in-Inter-Some in
    part_is references from.place.column from.place.row motion a.part.x a.part.y g.row.W g.row.H i.ref_idx-0 i.mv i.picture.now (planes_of a.planes.now) (planes_of c.set_part.new.planes)
    a.part.even_x a.part.even_y c.requires.one
    (ap (block_motion motion) (sym c.block_at.ensures.value) ∙ i.is-0)
    (ap (picture_in references) (sym i.is-0) ∙ sym c.picture_of.ensures ∙ ap option_copied i.is-1)
    c.set_part.ensures

pub returns-2 : goal.returns-2
returns-2 g c =
    let from = c.args.from.now in
    absurd (grind (arith, there from.references.now from.motion.now c.block_at.result from.sixteen c.block_at.ensures.small from.pictures))

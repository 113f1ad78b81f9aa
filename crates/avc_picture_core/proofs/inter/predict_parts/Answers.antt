use Rattle.avc_picture_core.proofs.InterTiles.{sym, ◌∙◌, planes_of, all_predicted, pictures_shown, usable_each}
use Rattle.avc_picture_core.proofs.inter.predict_parts.Goals as goal

pub returns-clause-built : goal.returns-clause-built
returns-clause-built g c c' slice wide high are =
    let a = c.args in
    let pictures = sym c.have_pictures.ensures ∙ c.if-not-have_pictures.false in (
      pictures_shown c' slice a.references.now.pictures.now a.motion.now are ∙ pictures,
      all_predicted a.references.now.pictures.now a.references.now.size.width a.references.now.size.height a.place.column a.place.row a.motion.now (planes_of a.planes.now) (planes_of c.predict_macroblock.new.planes) c' slice
          c.told-motion a.references.now.usable pictures c.predict_macroblock.ensures wide high are,
    )

pub invariant_of-from : goal.invariant_of-from
invariant_of-from g c =
    let a = c.args in
    let references = a.references.now in
    record {
      usable = usable_each references.size.width references.size.height a.place.column a.place.row references.pictures.now references.usable c.requires.at.column c.requires.at.row;
      sixteen = c.told-motion;
      pictures = sym c.have_pictures.ensures ∙ c.if-not-have_pictures.false;
    }

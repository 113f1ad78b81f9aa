use Rattle.avc_picture_core.proofs.InterTiles.{◌≡◌, refl, sym, ap, ◌∙◌, Some, is_some, option_copied, planes_of, block_motion, picture_in}
use Rattle.avc_picture_core.proofs.InterTiles.{all_as_first, all_predicted, pictures_shown, usable_in, whole_is}
use Rattle.avc_picture_core.proofs.inter.predict_whole.Goals as goal

pub invariant_of-set_macroblock : goal.invariant_of-set_macroblock
invariant_of-set_macroblock g c =
    let a = c.args in
    let references = a.references.now in
    record {
      usable = usable_in references.size.width references.size.height a.place.column a.place.row references.pictures.now (block_motion a.motion.now 0) c.in-Some.picture.now references.usable
          c.requires.at.column c.requires.at.row (sym c.picture_of.ensures ∙ ap option_copied c.in-Some.is);
    }

pub returns-in-Some-clause-built : goal.returns-in-Some-clause-built
returns-in-Some-clause-built g c c' slice wide high are =
    let a = c.args in
    let named : picture_in a.references.now.pictures.now (block_motion a.motion.now 0) ≡ Some c.in-Some.picture.now = sym c.picture_of.ensures ∙ ap option_copied c.in-Some.is in
    let pictures = sym (all_as_first a.references.now.pictures.now a.motion.now c.told-motion c.requires.shape) ∙ ap is_some named in (
      pictures_shown c' slice a.references.now.pictures.now a.motion.now are ∙ pictures,
      all_predicted a.references.now.pictures.now a.references.now.size.width a.references.now.size.height a.place.column a.place.row a.motion.now (planes_of a.planes.now) (planes_of c.set_macroblock.new.planes) c' slice
          c.told-motion a.references.now.usable pictures
          (whole_is a.references.now.pictures.now a.place.column a.place.row a.motion.now c.in-Some.picture.now c.vector-mv.result (planes_of a.planes.now) (planes_of c.set_macroblock.new.planes)
          c.requires.shape named c.vector-mv.ensures c.set_macroblock.ensures)
          wide high are,
    )

pub returns-in-None-clause-built : goal.returns-in-None-clause-built
returns-in-None-clause-built g c c' slice wide high are =
    let a = c.args in (
      refl,
      pictures_shown c' slice a.references.now.pictures.now a.motion.now are ∙ sym (all_as_first a.references.now.pictures.now a.motion.now c.told-motion c.requires.shape)
          ∙ ap is_some (sym c.picture_of.ensures ∙ ap option_copied c.in-None.is),
    )

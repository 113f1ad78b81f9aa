use Rattle.avc_picture_core.proofs.InterTiles.{◌≡◌, ◌+◌, ◌*◌, true, false, refl, sym, subst, ◌∙◌, arith, i_16x16, planes_of, sides_of, has_sides}
use Rattle.avc_picture_core.proofs.InterTiles.{AreInside, inside_luma, luma_16x16, planes_intra, refused_by}
use Rattle.avc_types.specs.MacroblockFields.{residual_of}
use Rattle.avc_picture_core.proofs.intra.build_i_16x16.Goals as goal

pub returns-then-not-has_sides16x16-clause-built : goal.returns-then-not-has_sides16x16-clause-built
returns-then-not-has_sides16x16-clause-built g c = λ p at may.
    let r = residual_of c.args.levels.dc.now c.args.levels.blocks.now in
    let syntax = i_16x16 c.args.mode c.args.chroma_mode r in
    let sides = c.sides-sides.result in
    let mine : sides_of p.coded p.address 0 ≡ sides = may.sides 0 (omega arith) ∙ sym c.sides-sides.ensures in
    let test : has_sides p syntax ≡ c.has_sides16x16.result = cc (mine, c.mode16x16-luma_mode.ensures, c.mode_chroma-mode.ensures, c.has_sides16x16.ensures) in
    refused_by p syntax true false at.syntax_is refl (test ∙ c.if-not-has_sides16x16.true)

pub returns-clause-built : goal.returns-clause-built
returns-clause-built g c = λ p at may.
    let r = residual_of c.args.levels.dc.now c.args.levels.blocks.now in
    let m = c.args.mode in
    let chroma = c.args.chroma_mode in
    let syntax = i_16x16 m chroma r in
    let sides = c.sides-sides.result in
    let column = c.args.place.column in
    let row = c.args.place.row in
    let old = c.args.planes.now in
    let mine : sides_of p.coded p.address 0 ≡ sides = may.sides 0 (omega arith) ∙ sym c.sides-sides.ensures in
    let within = subst (λ t. AreInside (16 * column + 0) (16 * row + 0) old.luma.width t) (sym c.sides-sides.ensures) (may.inside 0 (omega arith)) in
    let test : has_sides p syntax ≡ c.has_sides16x16.result = cc (mine, c.mode16x16-luma_mode.ensures, c.mode_chroma-mode.ensures, c.has_sides16x16.ensures) in
    planes_intra p column row c.args.qp.luma.value c.args.qp.chroma.value chroma syntax r sides c.mode_chroma-mode.result (planes_of old) _ at mine c.mode_chroma-mode.ensures refl
    (test ∙ c.if-not-has_sides16x16.false) within c.requires.macroblock.cb.columns c.requires.macroblock.cr.columns (λ k t. refl)
    (λ x y. rw (at.syntax_is, at.chroma_is) refl) (λ x y. rw (at.syntax_is, at.chroma_is) refl)
    (luma_16x16 p column row m chroma c.args.qp.luma.value c.args.qp.chroma.value r sides old.luma c.build_luma16x16.new.plane c.mode16x16-luma_mode.result at mine c.mode16x16-luma_mode.ensures
    (c.build_luma16x16.ensures.samples (inside_luma (16 * column) (16 * row) old.luma.width sides within)))
    c.build_component.ensures.samples c.build_component-2.ensures.samples

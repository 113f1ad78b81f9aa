use Rattle.avc_picture_core.proofs.InterTiles.{◌≡◌, ◌+◌, ◌*◌, true, false, slice_index_or, refl, ap, sym, subst, ◌∙◌, arith, [], and_parts, i_nxn, absent}
use Rattle.avc_picture_core.proofs.InterTiles.{planes_of, can_predict4x4, can_predict_chroma, mode4x4_of, luma_after, mode_number, sides_of, AreInside, readable_sides}
use Rattle.avc_picture_core.proofs.InterTiles.{each_sixteen, has_nxn, nxn_at, planes_intra, refused_by}
use Rattle.avc_types.specs.MacroblockFields.{residual_of}
use Rattle.avc_picture_core.proofs.intra.build_i_nxn.Goals as goal

pub build_luma4x4-requires : goal.build_luma4x4-requires
build_luma4x4-requires g c =
    let can = each_sixteen (λ k. can_predict4x4 (readable_sides c.args.readable k) (mode4x4_of (mode_number (slice_index_or c.args.modes.in_order.now k absent))))
    (and_parts _ _ (sym c.has_sides_nxn.ensures ∙ c.if-not-has_sides_nxn.false)).0 in
    (omega arith, (c.requires.macroblock.luma, can))

pub build_component-requires : goal.build_component-requires
build_component-requires g c = (
  omega arith,
  (
    c.requires.macroblock.cb,
    subst (λ t. can_predict_chroma t c.mode_chroma-mode.result ≡ true) (sym c.sides-sides.ensures)
        (and_parts _ _ (sym c.has_sides_nxn.ensures ∙ c.if-not-has_sides_nxn.false)).1,
  ),
)

pub build_component-requires-2 : goal.build_component-requires-2
build_component-requires-2 g c = (
  omega arith,
  (
    c.requires.macroblock.cr,
    subst (λ t. can_predict_chroma t c.mode_chroma-mode.result ≡ true) (sym c.sides-sides.ensures)
        (and_parts _ _ (sym c.has_sides_nxn.ensures ∙ c.if-not-has_sides_nxn.false)).1,
  ),
)

pub returns-then-not-has_sides_nxn-clause-built : goal.returns-then-not-has_sides_nxn-clause-built
returns-then-not-has_sides_nxn-clause-built g c = λ p coded at may modes.
    let r = residual_of [] c.args.levels.blocks.now in
    refused_by p (i_nxn coded c.args.chroma_mode r) true false at.syntax_is refl
    (has_nxn p coded c.args.chroma_mode r c.args.readable c.args.modes.in_order.now c.mode_chroma-mode.result may.sides modes c.mode_chroma-mode.ensures ∙ sym c.has_sides_nxn.ensures ∙ c.if-not-has_sides_nxn.true)

pub returns-clause-built : goal.returns-clause-built
returns-clause-built g c = λ p coded at may modes.
    let r = residual_of [] c.args.levels.blocks.now in
    let chroma = c.args.chroma_mode in
    let sides = c.sides-sides.result in
    let column = c.args.place.column in
    let row = c.args.place.row in
    let old = c.args.planes.now in
    let mine : sides_of p.coded p.address 0 ≡ sides = may.sides 0 (omega arith) ∙ sym c.sides-sides.ensures in
    let within = subst (λ t. AreInside (16 * column + 0) (16 * row + 0) old.luma.width t) (sym c.sides-sides.ensures) (may.inside 0 (omega arith)) in
    let test = has_nxn p coded chroma r c.args.readable c.args.modes.in_order.now c.mode_chroma-mode.result may.sides modes c.mode_chroma-mode.ensures ∙ sym c.has_sides_nxn.ensures in
    planes_intra p column row c.args.qp.luma.value c.args.qp.chroma.value chroma (i_nxn coded chroma r) r sides c.mode_chroma-mode.result (planes_of old) _ at mine c.mode_chroma-mode.ensures refl
    (test ∙ c.if-not-has_sides_nxn.false) within c.requires.macroblock.cb.columns c.requires.macroblock.cr.columns (λ k t. refl)
    (λ x y. rw (at.syntax_is, at.chroma_is) refl) (λ x y. rw (at.syntax_is, at.chroma_is) refl)
    (c.build_luma4x4.ensures.blocks p (nxn_at p column row old.luma.width chroma c.args.qp.luma.value c.args.qp.chroma.value coded r c.args.readable c.args.modes.in_order.now at may modes)
    ∙ sym (ap (λ t. luma_after p t old.luma) at.syntax_is))
    c.build_component.ensures.samples c.build_component-2.ensures.samples

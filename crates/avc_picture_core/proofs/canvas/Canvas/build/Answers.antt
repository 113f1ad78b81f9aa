use Rattle.avc_picture_core.proofs.InterTiles.{rules, ◌≡◌, ◌∙◌, ℤ, w8, to_z, of_z, ap, subst, refl, Mb, info_of, planes_of, chroma_qp, IsBuilt, IsPlaceOn}
use Rattle.avc_picture_core.proofs.InterTiles.{with_planes, canvas_built}
use Rattle.avc_picture_core.proofs.InterTiles.{sym, MbSyntax, syntax_of, IsAt}
use Rattle.avc_picture_core.specs.Canvas.{address_of}
use Rattle.avc_picture_core.specs.Sides.{readable_near}
use Rattle.avc_picture_core.proofs.canvas.Canvas.build.Goals as goal

pub returns-clause-built : goal.returns-clause-built
returns-clause-built g c = λ p.
    let s = c.args.self.now in
    let place = c.args.place in
    let canvas = with_planes s (planes_of c.args.planes.now) in
    let back : to_z w8 (of_z w8 s.chroma_qp_index_offset) ≡ s.chroma_qp_index_offset = search rules in
    subst (λ (m : Mb). IsPlaceOn canvas (address_of s.width place) m c.args.info.now (info_of c.args.sources.now.neighbours) c.args.sources.now.references.now p
    → IsBuilt p c.build_macroblock.result canvas (with_planes s (planes_of c.build_macroblock.new.planes))) c.mb.view_is
    (λ on. canvas_built canvas (address_of s.width place) c.chroma_qp.result _ c.args.info.now (info_of c.args.sources.now.neighbours) c.readable_neighbours-readable.result
    c.args.sources.now.references.now p on place.column place.row c.requires.column refl
    (c.chroma_qp.ensures.value ∙ ap (λ (z : ℤ). chroma_qp z c.mb.inside.qp) back) c.readable_neighbours-readable.ensures
    c.build_macroblock.result (planes_of c.build_macroblock.new.planes) (c.build_macroblock.ensures.built p))

pub returns-in-PSkip-clause-built : goal.returns-in-PSkip-clause-built
returns-in-PSkip-clause-built g c = λ p on.
    let s = c.args.self.now in
    let place = c.args.place in
    let mb = c.args.mb.now in
    let around = info_of c.args.sources.now.neighbours in
    let chroma = chroma_qp s.chroma_qp_index_offset mb.qp in
    let skipped = ap (λ (m : Mb). m.syntax) (sym c.mb.view_is) ∙ ap syntax_of c.in-PSkip.is in
    canvas_built (with_planes s (planes_of c.args.planes.now)) (address_of s.width place) chroma mb c.args.info.now around
    (readable_near s.constrained_intra_pred around) c.args.sources.now.references.now p on place.column place.row c.requires.column refl refl (λ _. refl)
    c.build_p_skip.result (planes_of c.build_p_skip.new.planes)
    (λ there. c.build_p_skip.ensures.built p mb.qp chroma (subst (λ (t : MbSyntax). IsAt place.column place.row t mb.qp chroma p) skipped there.at)
    there.width_is there.height_is there.motion_is there.references_are)

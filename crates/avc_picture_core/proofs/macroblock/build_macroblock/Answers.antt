use Rattle.avc_picture_core.proofs.InterTiles.{ℕ, ap, subst, sym, length, take, MbSyntax, parts_of, partitions, syntax_of, is_intra, IsAt, MayRead}
use Rattle.avc_picture_core.proofs.macroblock.build_macroblock.Goals as goal

pub returns-in-INxN-clause-built : goal.returns-in-INxN-clause-built
returns-in-INxN-clause-built g c = λ p place.
    let column = c.args.place.column in
    let row = c.args.place.row in
    let is = ap syntax_of c.in-INxN.is in
    let at = subst (λ (t : MbSyntax). IsAt column row t c.args.qp.luma.value c.args.qp.chroma.value p) is place.at in
    let may = subst (λ (w : ℕ). MayRead column row w c.args.readable p) (sym c.requires.sized.luma_width) (place.may_read (ap is_intra is)) in
    c.build_i_nxn.ensures.built p c.in-INxN.modes at may place.modes_are

pub returns-in-PInter-clause-built : goal.returns-in-PInter-clause-built
returns-in-PInter-clause-built g c = λ p place.
    let mb_type = c.in-PInter.mb_type in
    let at = subst (λ (t : MbSyntax). IsAt c.args.place.column c.args.place.row t c.args.qp.luma.value c.args.qp.chroma.value p) (ap syntax_of c.in-PInter.is) place.at in
    c.build_p_inter.ensures.built p (take (partitions mb_type) c.in-PInter.ref_idx) (take (length (parts_of mb_type)) c.in-PInter.mvd) at
    place.width_is place.height_is place.motion_is place.references_are

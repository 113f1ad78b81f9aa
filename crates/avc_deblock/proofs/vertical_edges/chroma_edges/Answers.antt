use Rattle.avc_deblock.proofs.FilteredPictures.{◌≡◌, ◌∙◌, ◌&&◌, Bool, true, sym, arith, and_parts, chroma_qp_of, both_chroma}
use Rattle.avc_deblock.proofs.vertical_edges.chroma_edges.Goals as goal

-- both limits filter
each_on : (a b s n t : Bool) → n ≡ (a && b) → t ≡ (n && s) → t ≡ true → (a ≡ true) × (b ≡ true)
each_on a b s n t en et is = let parts = and_parts n s (sym et ∙ is) in and_parts a b (sym en ∙ parts.0)

pub two_vertical_chroma-requires : goal.two_vertical_chroma-requires
two_vertical_chroma-requires g c =
    let some = c.requires.some in
    let room = c.requires.room in
    let on = each_on _ _ _ _ _ c.both-on.ensures c.both.ensures c.if-both.true in
    (omega arith, (omega (arith, some, room.cb_columns), (room.cb_rows, (omega (arith, some, room.cr_columns), (room.cr_rows, (on.0, on.1))))))

pub returns-then-both-clause-cb : goal.returns-then-both-clause-cb
returns-then-both-clause-cb g c =
    let qp = chroma_qp_of c.args.place.chroma_qp_index_offset c.args.p.now c.args.q.now in
    let next = chroma_qp_of c.args.place.chroma_qp_index_offset c.args.q.now c.args.q.now in
    both_chroma c.args.place.column c.args.place.row _ _ _ _ qp next c.args.cb.now c.two_vertical_chroma.new.cb c.requires.some c.requires.outer.value c.requires.middle.value
    (c.two_vertical_chroma.ensures.cb qp next c.requires.outer.limits c.requires.middle.limits)

pub returns-then-both-clause-cr : goal.returns-then-both-clause-cr
returns-then-both-clause-cr g c =
    let qp = chroma_qp_of c.args.place.chroma_qp_index_offset c.args.p.now c.args.q.now in
    let next = chroma_qp_of c.args.place.chroma_qp_index_offset c.args.q.now c.args.q.now in
    both_chroma c.args.place.column c.args.place.row _ _ _ _ qp next c.args.cr.now c.two_vertical_chroma.new.cr c.requires.some c.requires.outer.value c.requires.middle.value
    (c.two_vertical_chroma.ensures.cr qp next c.requires.outer.limits c.requires.middle.limits)

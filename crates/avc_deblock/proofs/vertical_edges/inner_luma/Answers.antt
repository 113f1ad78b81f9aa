use Rattle.avc_deblock.proofs.FilteredPictures.{◌∙◌, ◌∷◌, [], ℕ, ◌+◌, ◌*◌, true, ap, Plane, edge_filtered, luma_setting, strength_of}
use Rattle.avc_deblock.proofs.FilteredPictures.{luma_qp_of, intra_lines, threes}
use Rattle.avc_deblock.proofs.vertical_edges.inner_luma.Goals as goal

pub returns-then-q : goal.returns-then-q
returns-then-q g c =
    intra_lines c.args.inner.place.column c.args.inner.place.row c.args.inner.q.now true (3 ∷ 3 ∷ 3 ∷ 3 ∷ []) c.args.luma.now c.filter_three_luma.new.plane c.if-q.true threes
    (c.filter_three_luma.ensures (luma_qp_of c.args.inner.q.now c.args.inner.q.now) c.args.inner.own.luma)

pub returns : goal.returns
returns g c =
    let q = c.args.inner.q.now in
    let next : ℕ → Plane → Plane =
    λ (n : ℕ) (s : Plane). edge_filtered (luma_setting (strength_of q q true n) (luma_qp_of q q)) true (16 * c.args.inner.place.column + 4 * n) (16 * c.args.inner.place.row) 16 s in
    c.luma_between-3.ensures.lines ∙ ap (next 3) (c.luma_between-2.ensures.lines ∙ ap (next 2) c.luma_between.ensures.lines)

use Rattle.avc_deblock.proofs.FilteredPictures.{◌≡◌, ◌∙◌, ◌≤◌, Bool, true, false, arith, rules, ap, sym, ◌&&◌, not, Planes, planes_of, filters_between}
use Rattle.avc_deblock.proofs.FilteredPictures.{edges_by_info, some_coded, mb_kept}
use Rattle.avc_deblock.proofs.macroblock.macroblock.Goals as goal

all_off : (i l u b : Bool) → b ≡ (not i && not l && not u) → b ≡ true → ((i ≡ false) × (l ≡ false)) × (u ≡ false)
all_off i l u b e t = grind arith

pub returns-then-idle-clause-lines : goal.returns-then-idle-clause-lines
returns-then-idle-clause-lines g c =
    let off = all_off c.both-are_filtered.result c.edge_to-from_left.result.is_filtered c.edge_to-from_above.result.is_filtered c.all_three-idle.result c.all_three-idle.ensures c.if-idle.true in
    rw (off.0.0, off.0.1, off.1) at
    (mb_kept c.args.place.column c.args.place.row c.args.place.chroma_qp_index_offset c.args.left.info.now c.args.above.now c.args.mb.info.now c.are_zero_inside.result c.both-are_filtered.result
    c.edge_to-from_left.result.is_filtered c.edge_to-from_above.result.is_filtered (λ zero v n k some n_low k_low. sym (c.of-strengths.ensures.inside v n k some n_low k_low) ∙ c.are_zero_inside.ensures zero v n k some n_low k_low)
    (c.both-are_filtered.ensures ∙ ap (λ (b : Bool). b && not c.are_zero_inside.result) c.filters_edge_to.ensures)
    c.edge_to-from_left.ensures.on c.edge_to-from_left.ensures.off c.edge_to-from_above.ensures.on c.edge_to-from_above.ensures.off (planes_of c.args.planes.now))

pub outer_edge-requires : goal.outer_edge-requires
outer_edge-requires g c =
    let room = c.all_vertical.ensures.room c.args.place.column c.args.place.row c.requires.room in
    let some_row : c.edge_to-from_above.result.is_filtered ≡ true → 1 ≤ c.args.place.row = λ e. some_coded (filters_between c.args.mb.info.now c.args.above.now) c.args.place.row (c.edge_to-from_above.ensures.on e) in
    (omega arith, ((λ e f. absurd (cc)), ((λ e f. some_row e), (room, ((λ e. search rules), λ e. c.edge_to-from_above.ensures.strengths)))))

pub inner_horizontal-requires : goal.inner_horizontal-requires
inner_horizontal-requires g c =
    let before = c.all_vertical.ensures.room c.args.place.column c.args.place.row c.requires.room in
    let room = c.outer_edge.ensures.room c.args.place.column c.args.place.row before in
    (omega arith, room)

pub returns-clause-room : goal.returns-clause-room
returns-clause-room g c column row h =
    c.inner_horizontal.ensures.room column row (c.outer_edge.ensures.room column row (c.all_vertical.ensures.room column row h))

pub returns-clause-lines : goal.returns-clause-lines
returns-clause-lines g c =
    let s : Planes = planes_of c.args.planes.now in
    let mb = c.args.mb.info.now in
    let left = c.args.left.info.now in
    let above = c.args.above.now in
    let column = c.args.place.column in
    let row = c.args.place.row in
    let e = c.args.place.chroma_qp_index_offset in
    let i = c.both-are_filtered.result in
    let l = c.edge_to-from_left.result.is_filtered in
    let u = c.edge_to-from_above.result.is_filtered in
    c.inner_horizontal.ensures.lines
    ∙ ap (edges_by_info false column row e false i mb mb)
    (c.outer_edge.ensures.lines ∙ ap (edges_by_info false column row e u false above mb) c.all_vertical.ensures.lines)
    ∙ mb_kept column row e left above mb c.are_zero_inside.result i l u
    (λ zero v n k some n_low k_low. sym (c.of-strengths.ensures.inside v n k some n_low k_low) ∙ c.are_zero_inside.ensures zero v n k some n_low k_low)
    (c.both-are_filtered.ensures ∙ ap (λ (b : Bool). b && not c.are_zero_inside.result) c.filters_edge_to.ensures)
    c.edge_to-from_left.ensures.on c.edge_to-from_left.ensures.off c.edge_to-from_above.ensures.on c.edge_to-from_above.ensures.off s

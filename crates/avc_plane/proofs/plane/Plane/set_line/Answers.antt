use Rattle.avc_plane.proofs.PlaneMaps.{ℕ, ◌≡◌, ◌+◌, ◌-◌, ◌∙◌, ◌<◌, ◌≤◌, List, length, take, drop, append_assoc, arith, refl, ap}
use Rattle.avc_plane.proofs.PlaneMaps.{slice_index, take-length, with_items_is, Plane, with_block, place_in, inner_plane, put_mid, put_mid-paste}
use Rattle.avc_plane.proofs.PlaneMaps.{spliced, length-spliced, within, stored_line, sizes}
use Rattle.avc_plane.proofs.plane.Plane.set_line.Goals as goal

pub returns : goal.returns
returns g c =
    let a = c.self.inside in
    let size = sizes g.row.PAD a.stride a.width a.height a.stored.items c.self.invariant.wide c.self.invariant.long _ c.self.view_is in
    let line = c.args.samples.now in
    let start = place_in g.row.PAD a.stride c.args.left c.args.y in
    let columns : c.args.left + length line ≤ a.width = omega arith in
    let row : c.args.y < a.height = omega arith in
    let put = put_mid start (start + length line - start) c.deref_mut.result.now c.copy_from_slice.new.self in
    let fits = within g.row.PAD a.stride a.width a.height c.args.left c.args.y a.stored.items line c.self.invariant.wide c.self.invariant.long columns row in
    let is : put ≡ spliced a.stored.items line start fits =
    put_mid-paste start (start + length line - start) c.deref_mut.result.now c.copy_from_slice.new.self line (length line) c.copy_from_slice.ensures.after (omega arith) refl
    ∙ append_assoc (take start c.deref_mut.result.now) (take (length line) line) (drop (start + length line) c.deref_mut.result.now)
    ∙ rw (c.deref_mut.ensures.value, take-length line) in
    let long : length put ≡ a.stored.len = omega (arith, ap (λ (xs : List ℕ). length xs) is, length-spliced a.stored.items line start fits, a.stored.ok.0) in
    ap (λ (items : List ℕ). inner_plane g.row.PAD a.stride a.width a.height items) (with_items_is a.stored put long ∙ is)
    ∙ stored_line g.row.PAD a.stride a.width a.height c.args.left c.args.y a.stored.items line c.self.invariant.wide c.self.invariant.long columns row
    ∙ ap (λ (p : Plane). with_block p c.args.left c.args.y (length line) 1 (λ x _. slice_index line x)) c.self.view_is

use Rattle.avc_plane.proofs.PlaneMaps.{ℕ, ◌≡◌, ◌+◌, ◌-◌, ◌*◌, ◌∙◌, ◌<◌, ◌≤◌, length, get_or, take, drop, length-drop, arith, ap, mul_comm}
use Rattle.avc_plane.proofs.PlaneMaps.{slice_index, length-take-le, get_or-take, get_or-drop, row_fits, Plane, with_block, all_samples, no_line, line_more}
use Rattle.avc_plane.proofs.plane.Plane.set_block.Goals as goal

pub loop-row-init : goal.loop-row-init
loop-row-init g c =
    let a = c.self.inside in
    no_line c.args.self.now c.args.left c.args.top c.args.width (λ x y. slice_index c.args.samples.now (c.args.width * y + x))
    (all_samples g.row.PAD a.stride a.width a.height a.stored.items c.self.invariant.wide c.self.invariant.long _ c.self.view_is)

pub loop-row-preserved : goal.loop-row-preserved
loop-row-preserved g c =
    let row = c.loop-row.row in
    let width = c.args.width in
    let samples = c.args.samples.now in
    let line = take (width * row + width - width * row) (drop (width * row) samples) in
    let fits = row_fits row width c.args.height width c.loop-row-test.true (omega arith) in
    let whole : width * row + width ≤ length samples = omega (arith, fits, c.requires.all, mul_comm row width, mul_comm c.args.height width) in
    let many : width * row + width - width * row ≡ width = omega arith in
    let len : length line ≡ width = length-take-le (width * row + width - width * row) (drop (width * row) samples) (omega (arith, length-drop (width * row) samples)) ∙ many in
    let same : (x : ℕ) → x < width → get_or line x 0 ≡ get_or samples (width * row + x) 0 =
    λ x less. get_or-take (width * row + width - width * row) (drop (width * row) samples) x 0 (omega arith) ∙ get_or-drop (width * row) samples x 0 in
    c.set_line.ensures
    ∙ ap (λ (p : Plane). with_block p c.args.left (c.args.top + row) (length line) 1 (λ x _. slice_index line x)) c.loop-row.invariant
    ∙ line_more c.args.self.now c.args.left c.args.top width row line samples len same

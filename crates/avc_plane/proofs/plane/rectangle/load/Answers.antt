use Rattle.avc_plane.proofs.PlaneMaps.{ℕ, ◌+◌, ◌*◌, ◌≤◌, ◌∙◌, arith, refl, slice_index, length, length-set, row_room, rows_stay, row_grows}
use Rattle.avc_plane.proofs.plane.rectangle.load.Goals as goal

pub loop-x-preserved : goal.loop-x-preserved
loop-x-preserved g c =
    let w = g.row.W in
    let y = c.loop-y.y in
    let x = c.loop-x.x in
    let samples = c.loop-x.samples in
    let stored = c.args.stored.now in
    let f = λ (u v : ℕ). slice_index stored (c.args.start + v * c.args.stride + u) in
    let room : w * y + w ≤ length samples = omega (arith, row_room w g.row.H g.row.N y c.requires.all c.loop-y-test.true, c.loop-x.invariant.long) in
    record {
      long = length-set samples (w * y + x) (f x y) ∙ c.loop-x.invariant.long;
      done = rows_stay w y x f samples (f x y) c.loop-x-test.true room c.loop-x.invariant.done;
      here = row_grows w y x f samples (f x y) c.loop-x-test.true room c.loop-x.invariant.here refl;
    }

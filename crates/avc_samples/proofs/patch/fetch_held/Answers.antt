use Rattle.avc_samples.proofs.Places.{◌≡◌, ℕ, ◌+◌, ◌*◌, ◌<◌, ◌≤◌, ◌-ℤ◌, ◌+ℤ◌, pos, to_z, of_z, w64, slice_index, arith, ap, sym, ◌∙◌, nat_abs, row_fits, below_more}
use Rattle.avc_samples.proofs.Places.{clip3, sample, clamped, held_moved, place_back, still_place, moved_sample}
use Rattle.avc_samples.proofs.patch.fetch_held.Goals as goal

-- all rows of the patch so far, and this one
row_there : (j columns count long : ℕ) → j < count → count * columns ≤ long → j * columns + columns ≤ long
row_there j columns count long less target = omega (arith, row_fits j columns count columns less (omega arith), target)

pub overflow_mul-j : goal.overflow_mul-j
overflow_mul-j g c = omega (arith, row_there c.loop-j.j c.args.columns c.args.count _ c.loop-j-test.true c.requires.target)

pub fetch_held_row-requires : goal.fetch_held_row-requires
fetch_held_row-requires g c =
    let r = c.requires in
    let room = row_there c.loop-j.j c.args.columns c.args.count _ c.loop-j-test.true r.target in
    (omega arith, (still_place _ r.left, (omega (arith, c.held-row.ensures.inside, c.height-height.ensures.value), (r.narrow, omega (arith, room, c.loop-j.auto.patch)))))

pub loop-j-preserved : goal.loop-j-preserved
loop-j-preserved g c i j column below =
    let columns = c.args.columns in
    let row = c.loop-j.j in
    let p = c.args.plane.now in
    let left = to_z w64 (of_z w64 c.args.left) in
    let top = to_z w64 (of_z w64 c.args.top) in
    let s = clamped p.width p.height (sample p) in
    let height = held_moved c.held-row.result _ p.height c.args.top row c.requires.top (omega arith) c.height-height.ensures.value c.held-row.ensures.value in
    below_more (λ j. slice_index c.fetch_held_row.new.patch (j * columns + i) ≡ s (left +ℤ pos i) (top +ℤ pos j)) row
    (λ j less. c.fetch_held_row.ensures.before (j * columns + i) (omega (arith, row_fits j columns row columns less (omega arith))) ∙ c.loop-j.invariant i j column less)
    (c.fetch_held_row.ensures.here i column
    ∙ ap (λ v. sample p (nat_abs (clip3 (pos 0) (pos p.width -ℤ pos 1) (left +ℤ pos i))) v) height
    ∙ ap (λ z. s (left +ℤ pos i) (z +ℤ pos row)) (sym (place_back c.args.top c.requires.top))) j below

pub returns : goal.returns
returns g c = record {
  at = λ i j column row. c.loop-j.invariant i j column (omega arith)
      ∙ moved_sample (clamped c.args.plane.now.width c.args.plane.now.height (sample c.args.plane.now)) c.args.left c.args.top i j c.requires.left c.requires.top;
}

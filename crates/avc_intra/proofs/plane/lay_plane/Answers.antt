use Rattle.avc_intra.proofs.Predictions.{◌≡◌, ℕ, ℤ, ◌-◌, ◌*◌, ◌/◌, ◌<◌, ◌≤◌, ◌+ℤ◌, ◌-ℤ◌, ◌*ℤ◌, pos, slice_index, to_z, of_z, w32, arith, ap, ◌∙◌}
use Rattle.avc_intra.proofs.Predictions.{ints, IsWithin, IsWithin-add, IsWithin-more, cast_within, still_within, ◌>>ℤ◌, clip1, strided_line, strided_rows, strided_same, plane_sample, same_plane}
use Rattle.avc_intra.proofs.plane.lay_plane.Goals as goal

-- the height of a row
module _ (h r : ℤ) (height : IsWithin 10000 h) (risen : IsWithin 80000 r) where
  first : IsWithin 90000 (to_z w32 (of_z w32 h) +ℤ to_z w32 (of_z w32 r))
  first = IsWithin-add 10000 80000 _ _ (still_within (omega arith) height) (still_within (omega arith) risen)

  second : IsWithin 90016 (to_z w32 (of_z w32 (to_z w32 (of_z w32 h) +ℤ to_z w32 (of_z w32 r))) +ℤ pos 16)
  second = IsWithin-add 90000 16 _ (pos 16) (still_within (omega arith) first) (record { low = omega (arith, ints); high = omega (arith, ints) })

  raised : IsWithin 100000 (to_z w32 (of_z w32 (to_z w32 (of_z w32 (to_z w32 (of_z w32 h) +ℤ to_z w32 (of_z w32 r))) +ℤ pos 16)))
  raised = IsWithin-more (omega arith) (still_within (omega arith) second)

  raised_is : to_z w32 (of_z w32 (to_z w32 (of_z w32 (to_z w32 (of_z w32 h) +ℤ to_z w32 (of_z w32 r))) +ℤ pos 16)) ≡ to_z w32 (of_z w32 h) +ℤ r +ℤ pos 16
  raised_is =
      cast_within (omega arith) second
      ∙ ap (λ (z : ℤ). z +ℤ pos 16) (cast_within (omega arith) first ∙ ap (λ (z : ℤ). to_z w32 (of_z w32 h) +ℤ z) (cast_within (omega arith) risen))

reordered : (a b d : ℤ) → a +ℤ d +ℤ pos 16 +ℤ b ≡ a +ℤ b +ℤ d +ℤ pos 16
reordered a b d = omega (arith, ints)

pub plane_row-row-requires : goal.plane_row-row-requires
plane_row-row-requires g c =
    let narrow : g.row.W ≤ 16 = c.requires.narrow.1 in
    let wide : g.row.W * 4 < 9223372036854775808 = omega arith in
    let size : g.row.W * 1 < 9223372036854775808 = omega arith in
    (wide, (size, (raised _ _ c.requires.height c.rise.ensures.small, λ x column. c.rises-rises.ensures.small x column)))

pub loop-y-preserved : goal.loop-y-preserved
loop-y-preserved g c =
    let height = to_z w32 (of_z w32 c.args.height) in
    let across = to_z w32 (of_z w32 c.args.across) in
    let down = to_z w32 (of_z w32 c.args.down) in
    let middle = g.row.W / 2 - 1 in
    let y = c.loop-y.y in
    let row_height = to_z w32 (of_z w32 (to_z w32 (of_z w32 (height +ℤ to_z w32 (of_z w32 c.rise.result))) +ℤ pos 16)) in
    let value : (x : ℕ) → x < g.row.W → slice_index c.plane_row-row.result x ≡ plane_sample middle height across down x y =
    λ x column.
    let across_here = across *ℤ (pos x -ℤ pos middle) in
    let sum : row_height +ℤ across_here ≡ height +ℤ across_here +ℤ down *ℤ (pos y -ℤ pos middle) +ℤ pos 16 =
    ap (λ (z : ℤ). z +ℤ across_here) (raised_is _ _ c.requires.height c.rise.ensures.small)
    ∙ reordered height across_here c.rise.result
    ∙ ap (λ (z : ℤ). height +ℤ across_here +ℤ z +ℤ pos 16) c.rise.ensures.value in
    c.plane_row-row.ensures x column ∙ ap (λ (z : ℤ). clip1 (row_height +ℤ z >>ℤ 5)) (c.rises-rises.ensures.value x column) ∙ ap (λ (z : ℤ). clip1 (z >>ℤ 5)) sum in
    strided_line _ _ _ _ (λ x y. plane_sample middle height across down x y) _ _ _
    c.requires.apart c.loop-y.invariant c.put_line.auto.rows (λ x column. c.put_line.ensures.here x column ∙ value x column) c.put_line.ensures.before c.put_line.ensures.behind

pub returns : goal.returns
returns g c =
    let height = cast_within (omega arith) c.requires.height in
    let across = cast_within (omega arith) c.requires.across in
    let down = cast_within (omega arith) c.requires.down in
    strided_same _ _ _ _ _ (λ x y. plane_sample (g.row.W / 2 - 1) c.args.height c.args.across c.args.down x y) _ _
    (strided_rows _ _ g.row.W _ _ _ _ _ (omega (arith, c.loop-y-test.false, c.loop-y.auto.y-end)) c.loop-y.invariant)
    (λ x y column row. same_plane (g.row.W / 2 - 1) x y _ _ _ _ _ _ height across down)

use Rattle.avc_samples.proofs.Places.{◌≡◌, ◌+◌, ◌<◌, ◌-ℤ◌, ◌+ℤ◌, pos, to_z, of_z, w64, slice_index, slice_set, length, arith, ap, ◌∙◌, nat_abs}
use Rattle.avc_samples.proofs.Places.{get_or-set_same, get_or-set_other, below_more, clip3, sample, held_moved, place_back}
use Rattle.avc_samples.proofs.patch.fetch_held_row.Goals as goal

pub loop-i-preserved : goal.loop-i-preserved
loop-i-preserved g c =
    let place = c.args.to + c.loop-i.i in
    let old = c.loop-i.patch in
    let v = c.get.result in
    let plane = c.args.plane.now in
    let value : v ≡ sample plane (nat_abs (clip3 (pos 0) (pos plane.width -ℤ pos 1) (c.args.left +ℤ pos c.loop-i.i))) c.args.row =
    c.get.ensures ∙ ap (λ u. sample plane u c.args.row) (held_moved c.held.result _ plane.width c.args.left c.loop-i.i c.requires.left (omega arith) c.width-width.ensures.value c.held.ensures.value) in
    let back = place_back c.args.left c.requires.left in
    let room : place < length old = omega arith in
    record {
      before = λ k less. get_or-set_other old place k v 0 (λ e. omega arith) ∙ c.loop-i.invariant.before k less;
      done = λ i below. below_more (λ i. slice_index (slice_set old place v) (c.args.to + i) ≡ sample plane (nat_abs (clip3 (pos 0) (pos plane.width -ℤ pos 1) (to_z w64 (of_z w64 c.args.left) +ℤ pos i))) c.args.row) c.loop-i.i
          (λ i less. get_or-set_other old place (c.args.to + i) v 0 (λ e. omega arith) ∙ c.loop-i.invariant.done i less)
          (get_or-set_same old place v 0 room ∙ rw back value) i below;
    }

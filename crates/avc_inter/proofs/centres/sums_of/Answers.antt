use Rattle.avc_inter.proofs.SixRows.{ℕ, ℤ, ◌≡◌, ◌≤◌, ◌<◌, ◌-ℤ◌, pos, arith, ◌∙◌, w16, to_z, of_z, map, slice_index, slice_index_or, Each1-get_or}
use Rattle.avc_inter.proofs.SixRows.{ints, IsSum, addable, get_or-through_bits, lane_of_row, six_taps_apart}
use Rattle.avc_inter.proofs.centres.sums_of.Goals as goal

is_sum : (s m : ℕ) (z : ℤ) → s ≤ 10710 → m ≤ 2550 → z ≡ pos s -ℤ pos m → IsSum z
is_sum s m z p q e = record { low = omega (arith, ints, e); high = omega (arith, ints, e) }

pub sums-outer-requires : goal.sums-outer-requires
sums-outer-requires c = record {
  first = addable 255 _ (omega arith) c.widened.ensures.small;
  second = addable 255 _ (omega arith) c.widened-2.ensures.small;
}

pub sums-middle-requires : goal.sums-middle-requires
sums-middle-requires c = record {
  first = addable 255 _ (omega arith) c.widened-3.ensures.small;
  second = addable 255 _ (omega arith) c.widened-4.ensures.small;
}

pub sums-inner-requires : goal.sums-inner-requires
sums-inner-requires c = record {
  first = addable 255 _ (omega arith) c.widened-5.ensures.small;
  second = addable 255 _ (omega arith) c.widened-6.ensures.small;
}

pub multiples-requires-clause-a_small : goal.multiples-requires-clause-a_small
multiples-requires-clause-a_small c = c.sums-inner.ensures.small 255 255 c.widened-5.ensures.small c.widened-6.ensures.small

pub multiples-requires-2-clause-a_small : goal.multiples-requires-2-clause-a_small
multiples-requires-2-clause-a_small c = c.sums-middle.ensures.small 255 255 c.widened-3.ensures.small c.widened-4.ensures.small

pub sums-requires : goal.sums-requires
sums-requires c = record {
  first = addable 510 _ (omega arith) (c.sums-outer.ensures.small 255 255 c.widened.ensures.small c.widened-2.ensures.small);
  second = addable 10200 _ (omega arith) (c.multiples.ensures.small 510 (c.sums-inner.ensures.small 255 255 c.widened-5.ensures.small c.widened-6.ensures.small));
}

pub narrow_differences-requires : goal.narrow_differences-requires
narrow_differences-requires c = record {
  first = addable 10710 _ (omega arith) (c.sums.ensures.small 510 10200 (c.sums-outer.ensures.small 255 255 c.widened.ensures.small c.widened-2.ensures.small)
      (c.multiples.ensures.small 510 (c.sums-inner.ensures.small 255 255 c.widened-5.ensures.small c.widened-6.ensures.small)));
  second = addable 2550 _ (omega arith) (c.multiples-2.ensures.small 510 (c.sums-middle.ensures.small 255 255 c.widened-3.ensures.small c.widened-4.ensures.small));
}

pub returns : goal.returns
returns c =
    let rows = c.args.rows in
    let diff = c.narrow_differences.result in
    let back : (k : ℕ) → k < 16 → slice_index_or (map (to_z w16) (map (of_z w16) diff)) k (pos 0) ≡ pos (slice_index c.sums.result k) -ℤ pos (slice_index c.multiples-2.result k) = λ k h.
    get_or-through_bits w16 diff k (c.narrow_differences.ensures.fits k h) ∙ c.narrow_differences.ensures.at k h in
    let outer_small = c.sums-outer.ensures.small 255 255 c.widened.ensures.small c.widened-2.ensures.small in
    let middle_small = c.sums-middle.ensures.small 255 255 c.widened-3.ensures.small c.widened-4.ensures.small in
    let inner_small = c.sums-inner.ensures.small 255 255 c.widened-5.ensures.small c.widened-6.ensures.small in
    let sum_small = c.sums.ensures.small 510 10200 outer_small (c.multiples.ensures.small 510 inner_small) in
    let five_small = c.multiples-2.ensures.small 510 middle_small in
    record {
      value = λ k h.
          let e = lane_of_row rows.e _ _ k c.widened.ensures.value c.as_slice.ensures h in
          let j = lane_of_row rows.j _ _ k c.widened-2.ensures.value c.as_slice-2.ensures h in
          let f = lane_of_row rows.f _ _ k c.widened-3.ensures.value c.as_slice-3.ensures h in
          let i = lane_of_row rows.i _ _ k c.widened-4.ensures.value c.as_slice-4.ensures h in
          let g = lane_of_row rows.g _ _ k c.widened-5.ensures.value c.as_slice-5.ensures h in
          let m = lane_of_row rows.h _ _ k c.widened-6.ensures.value c.as_slice-6.ensures h in
          back k h ∙ six_taps_apart (slice_index rows.e k) (slice_index rows.f k) (slice_index rows.g k)
          (slice_index rows.h k) (slice_index rows.i k) (slice_index rows.j k) (slice_index c.sums.result k) (slice_index c.multiples-2.result k)
          (omega (arith, c.sums-outer.ensures.at k h, c.sums-inner.ensures.at k h, c.multiples.ensures.at k h, c.sums.ensures.at k h))
          (omega (arith, c.sums-middle.ensures.at k h, c.multiples-2.ensures.at k h));
      small = λ k h. is_sum (slice_index c.sums.result k) (slice_index c.multiples-2.result k) _
          (Each1-get_or (λ x. x ≤ 10710) c.sums.result k 0 (omega arith) sum_small) (Each1-get_or (λ x. x ≤ 2550) c.multiples-2.result k 0 (omega arith) five_small) (back k h);
    }

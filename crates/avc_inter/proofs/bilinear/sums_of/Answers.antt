use Rattle.avc_inter.proofs.SixRows.{ℕ, ◌≡◌, ◌≤◌, ◌+◌, ◌*◌, ◌∙◌, ap, List, arith, slice_index, Each1-get_or, mul_comm, addable, lane_of_row}
use Rattle.avc_inter.proofs.bilinear.sums_of.Goals as goal

-- a lane times a weight
share : (m v r : List ℕ) (k w : ℕ) → slice_index m k ≡ slice_index v k * w → slice_index v k ≡ slice_index r k → slice_index m k ≡ w * slice_index r k
share m v r k w is same = is ∙ ap (λ n. n * w) same ∙ mul_comm (slice_index r k) w

pub sums-row-requires : goal.sums-row-requires
sums-row-requires c = record {
  first = addable (255 * c.args.w.here) _ (omega (arith, c.args.w.whole)) (c.multiples-here.ensures.small 255 c.widened.ensures.small);
  second = addable (255 * c.args.w.right) _ (omega (arith, c.args.w.whole)) (c.multiples-right.ensures.small 255 c.widened-2.ensures.small);
}

pub sums-next-requires : goal.sums-next-requires
sums-next-requires c = record {
  first = addable (255 * c.args.w.below) _ (omega (arith, c.args.w.whole)) (c.multiples-below.ensures.small 255 c.widened-3.ensures.small);
  second = addable (255 * c.args.w.across) _ (omega (arith, c.args.w.whole)) (c.multiples-across.ensures.small 255 c.widened-4.ensures.small);
}

pub sums-requires : goal.sums-requires
sums-requires c = record {
  first = addable (255 * c.args.w.here + 255 * c.args.w.right) _ (omega (arith, c.args.w.whole))
      (c.sums-row.ensures.small (255 * c.args.w.here) (255 * c.args.w.right) (c.multiples-here.ensures.small 255 c.widened.ensures.small) (c.multiples-right.ensures.small 255 c.widened-2.ensures.small));
  second = addable (255 * c.args.w.below + 255 * c.args.w.across) _ (omega (arith, c.args.w.whole))
      (c.sums-next.ensures.small (255 * c.args.w.below) (255 * c.args.w.across) (c.multiples-below.ensures.small 255 c.widened-3.ensures.small) (c.multiples-across.ensures.small 255 c.widened-4.ensures.small));
}

pub returns-clause-value : goal.returns-clause-value
returns-clause-value c k h =
    let a = c.args in
    let here = share c.multiples-here.result _ a.here.now k a.w.here (c.multiples-here.ensures.at k h) (lane_of_row a.here.now _ _ k c.widened.ensures.value c.as_slice.ensures h) in
    let right = share c.multiples-right.result _ a.right.now k a.w.right (c.multiples-right.ensures.at k h) (lane_of_row a.right.now _ _ k c.widened-2.ensures.value c.as_slice-2.ensures h) in
    let below = share c.multiples-below.result _ a.below.now k a.w.below (c.multiples-below.ensures.at k h) (lane_of_row a.below.now _ _ k c.widened-3.ensures.value c.as_slice-3.ensures h) in
    let across = share c.multiples-across.result _ a.across.now k a.w.across (c.multiples-across.ensures.at k h) (lane_of_row a.across.now _ _ k c.widened-4.ensures.value c.as_slice-4.ensures h) in
    omega (arith, here, right, below, across, c.sums-row.ensures.at k h, c.sums-next.ensures.at k h, c.sums.ensures.at k h)

pub returns-clause-small : goal.returns-clause-small
returns-clause-small c k h =
    let w = c.args.w in
    let row = c.sums-row.ensures.small (255 * c.args.w.here) (255 * c.args.w.right) (c.multiples-here.ensures.small 255 c.widened.ensures.small) (c.multiples-right.ensures.small 255 c.widened-2.ensures.small) in
    let next = c.sums-next.ensures.small (255 * c.args.w.below) (255 * c.args.w.across) (c.multiples-below.ensures.small 255 c.widened-3.ensures.small) (c.multiples-across.ensures.small 255 c.widened-4.ensures.small) in
    let all = c.sums.ensures.small (255 * w.here + 255 * w.right) (255 * w.below + 255 * w.across) row next in
    let low = Each1-get_or (λ x. x ≤ 255 * w.here + 255 * w.right + (255 * w.below + 255 * w.across)) c.sums.result k 0 (omega arith) all in
    omega (arith, low, c.args.w.whole)

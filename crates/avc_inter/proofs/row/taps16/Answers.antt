use Rattle.avc_inter.proofs.SixRows.{ℕ, ℤ, ◌≡◌, ◌<◌, ◌+◌, pos, arith, ap, ◌∙◌, w32, slice_index, slice_index_or, List, length, map, to_z, of_z}
use Rattle.avc_inter.proofs.SixRows.{addable, length-map, get_or-chunk, chunk, taps_at, get_or-through_bits, six_taps_apart}
use Rattle.avc_inter.proofs.row.taps16.Goals as goal

-- lane k of a load
lane : (src v : List ℕ) (at i k j : ℕ) → v ≡ chunk i 16 src → k < 16 → i + k ≡ j → slice_index v k ≡ slice_index src j
lane src v at i k j e h p = ap (λ (w : List ℕ). slice_index w k) e ∙ get_or-chunk i 16 src k 0 h ∙ ap (λ n. slice_index src n) p

-- the lanes of a result go through their bits
through : (ds : List ℤ) → length (map (to_z w32) (map (of_z w32) ds)) ≡ length ds
through ds = length-map (map (of_z w32) ds) (to_z w32) ∙ length-map ds (of_z w32)

pub sums-outer-requires : goal.sums-outer-requires
sums-outer-requires c = record {
  first = addable 255 _ (omega arith) c.widened.ensures.small;
  second = addable 255 _ (omega arith) c.widened-2.ensures.small;
}

pub sums-middle-requires : goal.sums-middle-requires
sums-middle-requires c = record {
  first = addable 255 _ (omega arith) c.widened-3.ensures.small;
  second = addable 255 _ (omega arith) c.widened-4.ensures.small;
}

pub sums-inner-requires : goal.sums-inner-requires
sums-inner-requires c = record {
  first = addable 255 _ (omega arith) c.widened-5.ensures.small;
  second = addable 255 _ (omega arith) c.widened-6.ensures.small;
}

pub multiples-requires-clause-a_small : goal.multiples-requires-clause-a_small
multiples-requires-clause-a_small c = c.sums-inner.ensures.small 255 255 c.widened-5.ensures.small c.widened-6.ensures.small

pub multiples-requires-2-clause-a_small : goal.multiples-requires-2-clause-a_small
multiples-requires-2-clause-a_small c = c.sums-middle.ensures.small 255 255 c.widened-3.ensures.small c.widened-4.ensures.small

pub sums-requires : goal.sums-requires
sums-requires c = record {
  first = addable 510 _ (omega arith) (c.sums-outer.ensures.small 255 255 c.widened.ensures.small c.widened-2.ensures.small);
  second = addable 10200 _ (omega arith) (c.multiples.ensures.small 510 (c.sums-inner.ensures.small 255 255 c.widened-5.ensures.small c.widened-6.ensures.small));
}

pub differences-requires : goal.differences-requires
differences-requires c = record {
  first = addable 10710 _ (omega arith) (c.sums.ensures.small 510 10200 (c.sums-outer.ensures.small 255 255 c.widened.ensures.small c.widened-2.ensures.small)
      (c.multiples.ensures.small 510 (c.sums-inner.ensures.small 255 255 c.widened-5.ensures.small c.widened-6.ensures.small)));
  second = addable 2550 _ (omega arith) (c.multiples-2.ensures.small 510 (c.sums-middle.ensures.small 255 255 c.widened-3.ensures.small c.widened-4.ensures.small));
}

pub returns : goal.returns
returns c =
    let src = c.args.src.now in
    let at = c.args.at in
    let diff = c.differences.result in
    let all : (k : ℕ) → k < 16 → slice_index_or diff k (pos 0) ≡ taps_at src (at + k) = λ k h.
    let e = lane src _ at at k (at + k) c.widened.ensures.value h (omega arith) in
    let j = lane src _ at (at + 5) k (at + k + 5) c.widened-2.ensures.value h (omega arith) in
    let f = lane src _ at (at + 1) k (at + k + 1) c.widened-3.ensures.value h (omega arith) in
    let i = lane src _ at (at + 4) k (at + k + 4) c.widened-4.ensures.value h (omega arith) in
    let g = lane src _ at (at + 2) k (at + k + 2) c.widened-5.ensures.value h (omega arith) in
    let m = lane src _ at (at + 3) k (at + k + 3) c.widened-6.ensures.value h (omega arith) in
    c.differences.ensures.at k h ∙ six_taps_apart (slice_index src (at + k)) (slice_index src (at + k + 1)) (slice_index src (at + k + 2))
    (slice_index src (at + k + 3)) (slice_index src (at + k + 4)) (slice_index src (at + k + 5)) (slice_index c.sums.result k) (slice_index c.multiples-2.result k)
    (omega (arith, c.sums-outer.ensures.at k h, c.sums-inner.ensures.at k h, c.multiples.ensures.at k h, c.sums.ensures.at k h))
    (omega (arith, c.sums-middle.ensures.at k h, c.multiples-2.ensures.at k h)) in
    record {
      long = through diff ∙ c.differences.ensures.long;
      at = λ k h. get_or-through_bits w32 diff k (c.differences.ensures.fits k h) ∙ all k h;
      fits = λ k h. rw (get_or-through_bits w32 diff k (c.differences.ensures.fits k h)) (c.differences.ensures.fits k h);
    }

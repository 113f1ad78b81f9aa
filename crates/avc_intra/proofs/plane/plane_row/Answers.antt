use Rattle.avc_intra.proofs.Predictions.{ℤ, ◌≡◌, ◌+ℤ◌, pos, to_z, of_z, w32, arith, rules, ap, ◌∙◌, slice_index_or, ◌>>ℤ◌, clip1, stored}
use Rattle.avc_intra.proofs.Predictions.{IsWithin, IsWithin-add, IsWithin-more, cast_within, still_within, fits_within}
use Rattle.avc_intra.proofs.plane.plane_row.Goals as goal

-- the height of a row and what a column rises from it
module _ (h r : ℤ) (height : IsWithin 100000 h) (rise : IsWithin 80000 r) where
  sum : IsWithin 180000 (to_z w32 (of_z w32 h) +ℤ to_z w32 (of_z w32 r))
  sum = IsWithin-add 100000 80000 _ _ (still_within (omega arith) height) (still_within (omega arith) rise)

  sum_is : to_z w32 (of_z w32 (to_z w32 (of_z w32 h) +ℤ to_z w32 (of_z w32 r))) ≡ to_z w32 (of_z w32 h) +ℤ r
  sum_is = cast_within (omega arith) sum ∙ ap (λ z. to_z w32 (of_z w32 h) +ℤ z) (cast_within (omega arith) rise)

pub overflow_add-height : goal.overflow_add-height
overflow_add-height g c = fits_within (omega arith) (sum _ _ c.requires.height (c.requires.rises c.loop-x.x c.loop-x-test.true))

pub sample_at-requires : goal.sample_at-requires
sample_at-requires g c =
    IsWithin-more (omega arith) (still_within (omega arith) (sum _ _ c.requires.height (c.requires.rises c.loop-x.x c.loop-x-test.true)))

pub loop-x-preserved : goal.loop-x-preserved
loop-x-preserved g c =
    let l = c.loop-x in
    let height = to_z w32 (of_z w32 c.args.height) in
    let sample = ap (λ (z : ℤ). clip1 (z >>ℤ 5)) (sum_is _ _ c.requires.height (c.requires.rises l.x c.loop-x-test.true)) in
    record {
      long = search rules;
      done = stored (λ x v. v ≡ clip1 (height +ℤ slice_index_or c.args.rises.now x (pos 0) >>ℤ 5)) l.row l.x c.sample_at.result 0 (omega arith)
          (c.sample_at.ensures ∙ sample) l.invariant.done;
    }

pub returns : goal.returns
returns g c x column =
    c.loop-x.invariant.done x (omega (arith, c.loop-x-test.false, column))
    ∙ ap (λ (h : ℤ). clip1 (h +ℤ slice_index_or c.args.rises.now x (pos 0) >>ℤ 5)) (cast_within (omega arith) c.requires.height)

use Rattle.avc_intra.proofs.Predictions.{ℕ, ℤ, ◌≡◌, ◌<◌, ◌^◌, ◌*ℤ◌, ◌-ℤ◌, ◌≤ℤ◌, pos, to_z, of_z, w32, arith, ints, IsWithin, IsWithin-mul, cast_within, still_within, fits_within}
use Rattle.avc_intra.proofs.plane.weighted.Goals as goal

-- a weight of at most eight times the difference of two samples
module _ (t f g : ℤ) (a b : ℕ) (low : pos 0 ≤ℤ t) (high : t ≤ℤ pos 8) (p : a < 2 ^ 8) (q : b < 2 ^ 8) (after : f ≡ pos a) (before : g ≡ pos b) where
  few : IsWithin 8 t
  few = record { low = omega (arith, ints); high = high }

  difference : to_z w32 (of_z w32 (to_z w32 (of_z w32 f) -ℤ to_z w32 (of_z w32 g))) ≡ pos a -ℤ pos b
  difference = rw (after, before) (omega (arith, ints))

  times : IsWithin 2040 (t *ℤ (pos a -ℤ pos b))
  times = IsWithin-mul 8 255 t (pos a -ℤ pos b) few (record { low = omega (arith, ints); high = omega (arith, ints) })

  product : IsWithin 2040 (to_z w32 (of_z w32 t) *ℤ to_z w32 (of_z w32 (to_z w32 (of_z w32 f) -ℤ to_z w32 (of_z w32 g))))
  product = rw (cast_within (omega arith) few, difference) times

  value : to_z w32 (of_z w32 (to_z w32 (of_z w32 t) *ℤ to_z w32 (of_z w32 (to_z w32 (of_z w32 f) -ℤ to_z w32 (of_z w32 g))))) ≡ t *ℤ (pos a -ℤ pos b)
  value = rw (cast_within (omega arith) few, difference) (cast_within (omega arith) times)

pub overflow_mul-result : goal.overflow_mul-result
overflow_mul-result c =
    fits_within (omega arith) (product c.args.weight _ _ c.args.after c.args.before c.requires.low c.requires.high (omega arith) (omega arith) c.from.ensures c.from-2.ensures)

pub returns : goal.returns
returns c = record {
  value = value c.args.weight _ _ c.args.after c.args.before c.requires.low c.requires.high (omega arith) (omega arith) c.from.ensures c.from-2.ensures;
  small = still_within (omega arith) (product c.args.weight _ _ c.args.after c.args.before c.requires.low c.requires.high (omega arith) (omega arith) c.from.ensures c.from-2.ensures);
}

use Rattle.avc_intra.proofs.Predictions.{ℕ, ℤ, ◌≡◌, ◌≤◌, ◌*ℤ◌, ◌-ℤ◌, pos, to_z, of_z, w32, arith, ints, IsWithin, IsWithin-mul, cast_within, still_within, fits_within}
use Rattle.avc_intra.proofs.plane.rise.Goals as goal

-- from one place to another, at most sixteen steps
module _ (s : ℤ) (x m : ℕ) (small : IsWithin 5000 s) (p : x ≤ 16) (q : m ≤ 16) where
  steps : to_z w32 (of_z w32 (to_z w32 x -ℤ to_z w32 m)) ≡ pos x -ℤ pos m
  steps = omega (arith, ints)

  risen : IsWithin 80000 (s *ℤ (pos x -ℤ pos m))
  risen = IsWithin-mul 5000 16 s (pos x -ℤ pos m) small (record { low = omega (arith, ints); high = omega (arith, ints) })

  product : IsWithin 80000 (to_z w32 (of_z w32 s) *ℤ to_z w32 (of_z w32 (to_z w32 x -ℤ to_z w32 m)))
  product = rw (cast_within (omega arith) small, steps) risen

  value : to_z w32 (of_z w32 (to_z w32 (of_z w32 s) *ℤ to_z w32 (of_z w32 (to_z w32 x -ℤ to_z w32 m)))) ≡ s *ℤ (pos x -ℤ pos m)
  value = rw (cast_within (omega arith) small, steps) (cast_within (omega arith) risen)

pub overflow_mul-result : goal.overflow_mul-result
overflow_mul-result c = fits_within (omega arith) (product c.args.slope c.args.place c.args.middle c.requires.slope c.requires.places.0 c.requires.places.1)

pub returns : goal.returns
returns c = record {
  value = value c.args.slope c.args.place c.args.middle c.requires.slope c.requires.places.0 c.requires.places.1;
  small = still_within (omega arith) (product c.args.slope c.args.place c.args.middle c.requires.slope c.requires.places.0 c.requires.places.1);
}

use Rattle.avc_inter.proofs.SixRows.{ℕ, ◌≤◌, ◌-ℤ◌, ◌≡◌, arith, FitsSigned, w32, to_z, of_z, pos, ints}
use Rattle.avc_inter.proofs.Differences.{fit, differences_are}
use Rattle.avc_inter.proofs.row.differences.Goals as goal

one_fits : (x y : ℕ) → x ≤ 16383 → y ≤ 16383 → FitsSigned w32 (to_z w32 x -ℤ to_z w32 y)
one_fits x y p q = search (arith, ints)

one_is : (x y : ℕ) → x ≤ 16383 → y ≤ 16383 → to_z w32 (of_z w32 (to_z w32 x -ℤ to_z w32 y)) ≡ pos x -ℤ pos y
one_is x y p q = omega (arith, ints)

difference_fits : (x y : ℕ) → x ≤ 16383 → y ≤ 16383 → FitsSigned w32 (pos x -ℤ pos y)
difference_fits x y p q = search (arith, ints)

pub overflow_sub-result : goal.overflow_sub-result
overflow_sub-result c = fit w32 one_fits _ _ c.requires.first c.requires.second

pub returns : goal.returns
returns c =
    let d = differences_are w32 one_is difference_fits c.args.a c.args.b (omega arith) (omega arith) c.requires.first c.requires.second in
    record { long = d.long; at = d.at; fits = d.fits }

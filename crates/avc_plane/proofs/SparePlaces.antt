-- Places of planes that are left over, and how many of them have planes of a size.
use Rattle.std.proofs.Common.{◌≡◌, ◌∙◌, ℕ, ◌+◌, ◌<◌, List, Option, Some, arith, sym, ap, length, get_or}
use Rattle.std.proofs.lemmas.List.Sums.{sum_by-swap_remove}
use Rattle.std.proofs.lemmas.Option.{slice_get-get_or, slice_get_within}
use Rattle.std.specs.List.{swap_remove}
use Rattle.std.specs.Prelude.{slice_get}
use Rattle.avc_plane.specs.Planes.{Planes}
use Rattle.avc_plane.specs.Spare.{count_sized, one_if_sized}

some_is : {A : Type 0} {x y : A} → ◌≡◌ {A = Option A} (Some x) (Some y) → x ≡ y
some_is e = cc e

-- a place that is taken away is counted no more
pub taken_away : (width height : ℕ) (xs ys : List (Option Planes)) (i : ℕ) (place : Option Planes) → slice_get xs i ≡ Some place →
    ys ≡ swap_remove xs i place → count_sized width height ys + one_if_sized width height place ≡ count_sized width height xs
taken_away width height xs ys i place there rest =
    let within : i < length xs = slice_get_within xs i place there in
    let here : get_or xs i place ≡ place = some_is (sym (slice_get-get_or xs i place within) ∙ there) in
    let all = sum_by-swap_remove (λ p. one_if_sized width height p) xs i place within in
    omega (arith, all, ap (λ l. count_sized width height l) rest, ap (λ p. one_if_sized width height p) here)

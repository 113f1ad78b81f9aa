-- Residuals added to some rows of a block, and then to the rows below them.
use Rattle.avc_picture_core.proofs.InterTiles.{ℕ, ℤ, ◌≡◌, ◌+◌, ◌-◌, ◌<◌, ◌≤◌, ◌∙◌, Bool, true, false, if◌then◌else◌, ap, sym, arith, nat_tests, plane_of_same, by_place}
use Rattle.avc_picture_core.proofs.InterTiles.{Plane, sample, sample-with_block, is_inside, inside, outside, sum_of}
use Rattle.avc_picture_core.specs.Residuals.{with_residual}

module _ (s : Plane) (left top w h n : ℕ) (f : ℕ → ℕ → ℤ) (columns : left + w ≤ s.width) (rows : top + (h + n) ≤ s.height) where
  abbrev upper : Plane
  upper = with_residual s left top w h f

  abbrev by_lower : ℕ → ℕ → Bool → ℕ
  by_lower u v t = if t then sum_of (sample upper (left + (u - left)) (top + h + (v - (top + h)))) (f (u - left) (h + (v - (top + h)))) else sample upper u v

  abbrev by_both : ℕ → ℕ → Bool → ℕ
  by_both u v t = if t then sum_of (sample s (left + (u - left)) (top + (v - top))) (f (u - left) (v - top)) else sample s u v

  in_lower : (u v : ℕ) → u < s.width → v < s.height → left ≤ u → u < left + w → top + h ≤ v → v < top + h + n
      → by_lower u v true ≡ by_both u v (is_inside left top w (h + n) u v)
  in_lower u v column row p q r t =
      let i : left + (u - left) ≡ u = omega arith in
      let j : top + h + (v - (top + h)) ≡ v = omega arith in
      let k : h + (v - (top + h)) ≡ v - top = omega arith in
      let y : top + (v - top) ≡ v = omega arith in
      let it : is_inside left top w (h + n) u v ≡ true = inside left top w (h + n) u v p q (omega arith) (omega arith) in
      let not_upper : is_inside left top w h u v ≡ false = outside left top w h u v (λ a b d e. omega (arith, r, e)) in
      let value = f (u - left) (v - top) in
      ap (λ a. sum_of (sample upper a (top + h + (v - (top + h)))) (f (u - left) (h + (v - (top + h))))) i
      ∙ ap (λ b. sum_of (sample upper u b) (f (u - left) (h + (v - (top + h))))) j
      ∙ ap (λ d. sum_of (sample upper u v) (f (u - left) d)) k
      ∙ ap (λ e. sum_of e value)
      (sample-with_block s left top w h (λ x y. sum_of (sample s (left + x) (top + y)) (f x y)) u v column row ∙ ap (by_both u v) not_upper)
      ∙ ap (λ a. sum_of (sample s a v) value) (sym i)
      ∙ ap (λ b. sum_of (sample s (left + (u - left)) b) value) (sym y)
      ∙ ap (by_both u v) (sym it)

  not_lower : (u v : ℕ) → u < s.width → v < s.height → (left ≤ u → u < left + w → top + h ≤ v → v < top + h + n → ⊥)
      → by_lower u v false ≡ by_both u v (is_inside left top w (h + n) u v)
  not_lower u v column row none = grind (arith, nat_tests, sample-with_block, by_place)

  pub rows_joined : with_residual upper left (top + h) w n (λ x y. f x (h + y)) ≡ with_residual s left top w (h + n) f
  rows_joined = grind (arith, nat_tests, plane_of_same, by_place, in_lower, not_lower)

-- rows that have their residual, and those below them
pub rows_more : (s cur new : Plane) (left top w h n : ℕ) (f : ℕ → ℕ → ℤ) → left + w ≤ s.width → top + (h + n) ≤ s.height → cur ≡ with_residual s left top w h f
    → new ≡ with_residual cur left (top + h) w n (λ x y. f x (h + y)) → new ≡ with_residual s left top w (h + n) f
rows_more s cur new left top w h n f columns rows upper lower = rw (lower, upper) (rows_joined s left top w h n f columns rows)

-- Differences of rows of sixteen small numbers, in lanes in which they fit.
use Rattle.avc_inter.proofs.SixRows.{ℕ, ℤ, pos, ◌-ℤ◌, ◌≡◌, ◌≤◌, ◌<◌, List, [], ◌∷◌, map, length, get_or, slice_index, slice_index_or, arith, refl, ap, ◌∙◌, Width, FitsSigned, to_z, of_z}
use Rattle.avc_inter.proofs.SixRows.{Each1, Each2, Each1-get_or, zip2, length-zip2, get_or-zip2}

-- what is asked of the lanes of a result
pub record AreDifferences (w : Width) (a b : List ℕ) (d : List ℤ) : Type 0 where
  pub long : length d ≡ 16
  pub at : (k : ℕ) → k < 16 → slice_index_or d k (pos 0) ≡ pos (slice_index a k) -ℤ pos (slice_index b k)
  pub fits : (k : ℕ) → k < 16 → FitsSigned w (slice_index_or d k (pos 0))

module _ (w : Width) where
  pub fit : ((x y : ℕ) → x ≤ 16383 → y ≤ 16383 → FitsSigned w (to_z w x -ℤ to_z w y)) → (xs ys : List ℕ) → Each1 (λ x. x ≤ 16383) xs → Each1 (λ x. x ≤ 16383) ys →
      Each2 (λ x y. FitsSigned w (to_z w x -ℤ to_z w y)) (map (λ x. x) xs) (map (λ y. y) ys)
  fit one [] ys p q = tt
  fit one (x ∷ xs) [] p q = tt
  fit one (x ∷ xs) (y ∷ ys) p q = (one x y p.0 q.0, fit one xs ys p.1 q.1)

  module _ (one : (x y : ℕ) → x ≤ 16383 → y ≤ 16383 → to_z w (of_z w (to_z w x -ℤ to_z w y)) ≡ pos x -ℤ pos y) where
    abbrev lanes : (xs ys : List ℕ) → List ℤ
    lanes xs ys = map (to_z w) (zip2 (λ (x y : ℕ). of_z w (to_z w x -ℤ to_z w y)) (map (λ x. x) xs) (map (λ y. y) ys))

    are : (xs ys : List ℕ) → Each1 (λ x. x ≤ 16383) xs → Each1 (λ x. x ≤ 16383) ys → lanes xs ys ≡ zip2 (λ x y. pos x -ℤ pos y) xs ys
    are [] ys p q = refl
    are (x ∷ xs) [] p q = refl
    are (x ∷ xs) (y ∷ ys) p q = cc (one x y p.0 q.0, are xs ys p.1 q.1)

    pub differences_are : ((x y : ℕ) → x ≤ 16383 → y ≤ 16383 → FitsSigned w (pos x -ℤ pos y)) → (a b : List ℕ) → length a ≡ 16 → length b ≡ 16 →
        Each1 (λ x. x ≤ 16383) a → Each1 (λ x. x ≤ 16383) b → AreDifferences w a b (lanes a b)
    differences_are fits a b la lb p q =
        let same : length a ≡ length b = omega (arith, la, lb) in
        let at : (k : ℕ) → k < 16 → slice_index_or (lanes a b) k (pos 0) ≡ pos (slice_index a k) -ℤ pos (slice_index b k) = λ k low.
        ap (λ (v : List ℤ). get_or v k (pos 0)) (are a b p q) ∙ get_or-zip2 (λ x y. pos x -ℤ pos y) a b k 0 0 (pos 0) (omega (arith, la)) (omega (arith, lb)) in
        record {
          long = ap length (are a b p q) ∙ length-zip2 (λ x y. pos x -ℤ pos y) a b same ∙ la;
          at = at;
          fits = λ k low. rw (at k low) (fits _ _ (Each1-get_or (λ x. x ≤ 16383) a k 0 (omega arith) p) (Each1-get_or (λ x. x ≤ 16383) b k 0 (omega arith) q));
        }

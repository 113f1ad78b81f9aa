-- The strength between two blocks by what rows of blocks hold of them, and rows of the blocks beside them.
use Rattle.avc_deblock.proofs.FilteredPictures.{ℕ, ℤ, Bool, List, pos, zero, suc, true, false, refl, ap, subst, length, map, ◌++◌, ◌≡◌, ◌∙◌, ◌*◌, ◌-◌, ◌+◌, ◌<◌, ◌/◌, ◌%◌, ◌==◌, ◌||◌, ◌-ℤ◌, nat_le, nat_abs, not, if◌then◌else◌, arith, nat_tests}
use Rattle.avc_deblock.proofs.FilteredPictures.{slice_index_or, edge_block, has_bit, MbInfo}
use Rattle.std.proofs.lemmas.List.{get_or-map, get_or_append_left, get_or-append_right}
use Rattle.std.proofs.Common.{bit_and, ◌^◌}
use Rattle.std.proofs.Math.Pow.{pow_pos}
use Rattle.std.proofs.lemmas.Nat.Bits.{and_pow}
use Rattle.std.specs.Prelude.{◌+ℤ◌, min, max}
use Rattle.avc_types.specs.Arithmetic.{distance}
use Rattle.avc_deblock.specs.declared.block_rows.BlockRows.{BlockRows}
use Rattle.avc_deblock.specs.BlockRows.{HoldsBlock, AreRowsOf}

-- components are far apart where these are that are raised
pub far_is : (a b : ℕ) (x y : ℤ) → pos a ≡ x +ℤ pos 32768 → pos b ≡ y +ℤ pos 32768 → (distance a b - 3 == 0) ≡ not (nat_le 4 (nat_abs (x -ℤ y)))
far_is a b x y a_is b_is = grind (arith, nat_tests)

some_of : (a b : ℕ) (p q : Bool) → (a == 0) ≡ not p → (b == 0) ≡ not q → (max a b == 0) ≡ not (p || q)
some_of a b p q a_is b_is = grind (arith, nat_tests)

others : (m n : ℕ) → (distance m n == 0) ≡ not (not (m == n))
others m n = grind (arith, nat_tests)

by_both : (a b : ℕ) (p q : Bool) → (a == 0) ≡ not p → (b == 0) ≡ not q → max (2 * min a 1) (min b 1) ≡ (if p then 2 else (if q then 1 else 0))
by_both a b p q a_is b_is = grind (arith, nat_tests)

or_swapped : (p q : Bool) → (p || q) ≡ (q || p)
or_swapped true true = refl
or_swapped true false = refl
or_swapped false true = refl
or_swapped false false = refl

module _ (p_coded q_coded x y m n : ℕ) (p_has q_has x_far y_far : Bool) where
  strength_is : (p_coded == 0) ≡ not p_has → (q_coded == 0) ≡ not q_has → (x == 0) ≡ not x_far → (y == 0) ≡ not y_far →
      max (2 * min (max p_coded q_coded) 1) (min (max (max x y) (distance m n)) 1)
      ≡ (if p_has || q_has then 2 else (if not (m == n) || (x_far || y_far) then 1 else 0))
  strength_is p_is q_is x_is y_is =
      by_both _ _ (p_has || q_has) (not (m == n) || (x_far || y_far)) (some_of p_coded q_coded p_has q_has p_is q_is)
      (some_of (max x y) (distance m n) (x_far || y_far) (not (m == n)) (some_of x y x_far y_far x_is y_is) (others m n) ∙ ap not (or_swapped (x_far || y_far) (not (m == n))))

  pub strength_by : (strength coded moves far other : ℕ) → strength ≡ max (2 * min coded 1) (min moves 1) → coded ≡ max p_coded q_coded → moves ≡ max far other → far ≡ max x y → other ≡ distance m n →
      (p_coded == 0) ≡ not p_has → (q_coded == 0) ≡ not q_has → (x == 0) ≡ not x_far → (y == 0) ≡ not y_far →
      strength ≡ (if p_has || q_has then 2 else (if not (m == n) || (x_far || y_far) then 1 else 0))
  strength_by strength coded moves far other is coded_is moves_is far_is other_is p_is q_is x_is y_is =
      is ∙ rw (coded_is, moves_is, far_is, other_is) (strength_is p_is q_is x_is y_is)

-- lanes of a vector at these positions in its first copy
pub picked : (xs ks : List ℕ) (k i : ℕ) → k < length ks → slice_index_or ks k 0 ≡ i → i < length xs →
    slice_index_or (map (λ (j : ℕ). slice_index_or (xs ++ xs) j 0) ks) k 0 ≡ slice_index_or xs i 0
picked xs ks k i low is inside =
    get_or-map (λ (j : ℕ). slice_index_or (xs ++ xs) j 0) ks k 0 0 low
    ∙ ap (λ (j : ℕ). slice_index_or (xs ++ xs) j 0) is
    ∙ get_or_append_left xs xs 0 i inside

-- and at those in a vector and another behind it
module _ (xs ys ks : List ℕ) (n l i : ℕ) (long : length xs ≡ n) (low : l < length ks) where
  abbrev lane_of_both : ℕ
  lane_of_both = slice_index_or (map (λ (j : ℕ). slice_index_or (xs ++ ys) j 0) ks) l 0

  at_place : (p : ℕ) → slice_index_or ks l 0 ≡ p → lane_of_both ≡ slice_index_or (xs ++ ys) p 0
  at_place p is = get_or-map (λ (j : ℕ). slice_index_or (xs ++ ys) j 0) ks l 0 0 low ∙ ap (λ (j : ℕ). slice_index_or (xs ++ ys) j 0) is

  pub of_first : slice_index_or ks l 0 ≡ i → i < n → lane_of_both ≡ slice_index_or xs i 0
  of_first is inside = at_place i is ∙ get_or_append_left xs ys 0 i (omega (arith, inside, long))

  pub of_second : slice_index_or ks l 0 ≡ n + i → lane_of_both ≡ slice_index_or ys i 0
  of_second is =
      let back : (n + i) - n ≡ i = omega arith in
      at_place (n + i) is ∙ get_or-append_right xs ys n (n + i) 0 long (omega arith) ∙ ap (λ (j : ℕ). slice_index_or ys j 0) back

-- what rows hold of a block others hold in another place
pub held : (r s : BlockRows) (l m j i : ℕ) (f : MbInfo) → slice_index_or r.vectors (2 * l) 0 ≡ slice_index_or s.vectors (2 * m) 0 →
    slice_index_or r.vectors (2 * l + 1) 0 ≡ slice_index_or s.vectors (2 * m + 1) 0 → slice_index_or r.pictures l 0 ≡ slice_index_or s.pictures m 0 →
    slice_index_or r.coded l 0 ≡ slice_index_or s.coded m 0 → i ≡ j → HoldsBlock s m f i → HoldsBlock r l f j
held r s l m j i f x y picture coded same h =
    subst (λ t. HoldsBlock r l f t) same
    (record {
      x = ap pos x ∙ h.x;
      y = ap pos y ∙ h.y;
      picture = picture ∙ h.picture;
      coded = ap (λ n. n == 0) coded ∙ h.coded;
    })

-- ---- bits of blocks

-- a bit in its place is 0 where it is not set
pub in_place : (bit power : ℕ) → bit < 2 → 0 < power → (bit * power == 0) ≡ not (bit == 1)
in_place zero power low some = grind (arith, nat_tests)
in_place (suc zero) power low some = grind (arith, nat_tests)
in_place (suc (suc bit)) power low some = absurd (omega (arith, low))

pub bit_is : (n b : ℕ) → (bit_and n (2 ^ b) == 0) ≡ not (has_bit n b)
bit_is n b = ap (λ m. m == 0) (and_pow n b) ∙ in_place (n / 2 ^ b % 2) (2 ^ b) (omega arith) (pow_pos b)

-- rows of a macroblock by its edges
pub by_column : (r : BlockRows) (q : MbInfo) → AreRowsOf r q → (n k place : ℕ) → n < 4 → k < 4 → place ≡ 4 * k + n → HoldsBlock r place q (edge_block true n k)
by_column r q h n k place n_low k_low is =
    let column : place % 4 ≡ n = omega (arith, n_low, is) in
    let row : place / 4 ≡ k = omega (arith, n_low, is) in
    subst (λ j. HoldsBlock r place q j) (ap (λ j. edge_block true j (place / 4)) column ∙ ap (edge_block true n) row) (h place (omega (arith, n_low, k_low, is)))

pub by_row : (r : BlockRows) (q : MbInfo) → AreRowsOf r q → (n k place : ℕ) → n < 4 → k < 4 → place ≡ 4 * n + k → HoldsBlock r place q (edge_block false n k)
by_row r q h n k place n_low k_low is =
    let column : place % 4 ≡ k = omega (arith, k_low, is) in
    let row : place / 4 ≡ n = omega (arith, k_low, is) in
    subst (λ j. HoldsBlock r place q j) (ap (λ j. edge_block false (place / 4) j) column ∙ ap (λ j. edge_block false j k) row) (h place (omega (arith, n_low, k_low, is)))

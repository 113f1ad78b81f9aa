use Rattle.avc_deblock.proofs.FilteredPictures.{◌≡◌, ◌∙◌, ◌∷◌, [], ◌*◌, ◌+◌, ◌/◌, ◌%◌, ◌<◌, zero, suc, ℕ, List, false, slice_index_or, length, arith, rules, refl, ap, same_below, edge_block}
use Rattle.avc_deblock.proofs.BlocksInRows.{of_first, of_second, held}
use Rattle.avc_deblock.proofs.block_rows.BlockRows.below.Goals as goal

abbrev blocks : List ℕ
blocks = 12 ∷ 13 ∷ 14 ∷ 15 ∷ 16 ∷ 17 ∷ 18 ∷ 19 ∷ 20 ∷ 21 ∷ 22 ∷ 23 ∷ 24 ∷ 25 ∷ 26 ∷ 27 ∷ []

abbrev components : List ℕ
components =
    24 ∷ 25 ∷ 26 ∷ 27 ∷ 28 ∷ 29 ∷ 30 ∷ 31 ∷ 32 ∷ 33 ∷ 34 ∷ 35 ∷ 36 ∷ 37 ∷ 38 ∷ 39 ∷ 40 ∷ 41 ∷ 42 ∷ 43 ∷ 44 ∷ 45 ∷ 46 ∷ 47 ∷ 48 ∷ 49 ∷ 50 ∷ 51 ∷ 52 ∷ 53 ∷ 54 ∷ 55 ∷ []

block_at_place : (l : ℕ) → l < 16 → slice_index_or blocks l 0 ≡ l + 12
block_at_place = same_below 16 (λ l. slice_index_or blocks l 0) (λ l. l + 12) refl

component_at_place : (l : ℕ) → l < 32 → slice_index_or components l 0 ≡ l + 24
component_at_place = same_below 32 (λ l. slice_index_or components l 0) (λ l. l + 24) refl

pub returns-clause-outer : goal.returns-clause-outer
returns-clause-outer c p hu k k_low =
    let r = c.args.above in
    let s = c.args.self in
    let long : length r.vectors ≡ 32 = search rules in
    let many : length r.pictures ≡ 16 = search rules in
    let most : length r.coded ≡ 16 = search rules in
    let l : ℕ = k in
    let m : ℕ = 12 + k in
    let one : slice_index_or blocks l 0 ≡ m = block_at_place l (omega (arith, k_low)) ∙ omega arith in
    let x : slice_index_or components (2 * l) 0 ≡ 2 * m = component_at_place (2 * l) (omega (arith, k_low)) ∙ omega arith in
    let y : slice_index_or components (2 * l + 1) 0 ≡ 2 * m + 1 = component_at_place (2 * l + 1) (omega (arith, k_low)) ∙ omega arith in
    let column : m % 4 ≡ k = omega (arith, k_low) in
    let row : m / 4 ≡ 3 = omega (arith, k_low) in
    held _ r l m _ _ p
    (of_first r.vectors s.vectors components 32 (2 * l) (2 * m) long (omega (arith, k_low)) x (omega (arith, k_low)))
    (of_first r.vectors s.vectors components 32 (2 * l + 1) (2 * m + 1) long (omega (arith, k_low)) y (omega (arith, k_low)))
    (of_first r.pictures s.pictures blocks 16 l m many (omega (arith, k_low)) one (omega (arith, k_low)))
    (of_first r.coded s.coded blocks 16 l m most (omega (arith, k_low)) one (omega (arith, k_low)))
    (ap (λ j. edge_block false (m / 4) j) column ∙ ap (λ j. edge_block false j k) row) (hu m (omega (arith, k_low)))

pub returns-clause-inner : goal.returns-clause-inner
returns-clause-inner c q hq zero k some n_low k_low = absurd (omega (arith, some))
returns-clause-inner c q hq (suc n) k some n_low k_low =
    let r = c.args.above in
    let s = c.args.self in
    let long : length r.vectors ≡ 32 = search rules in
    let many : length r.pictures ≡ 16 = search rules in
    let most : length r.coded ≡ 16 = search rules in
    let l : ℕ = 4 * suc n + k in
    let m : ℕ = 4 * n + k in
    let one : slice_index_or blocks l 0 ≡ 16 + m = block_at_place l (omega (arith, n_low, k_low)) ∙ omega arith in
    let x : slice_index_or components (2 * l) 0 ≡ 32 + 2 * m = component_at_place (2 * l) (omega (arith, n_low, k_low)) ∙ omega arith in
    let y : slice_index_or components (2 * l + 1) 0 ≡ 32 + (2 * m + 1) = component_at_place (2 * l + 1) (omega (arith, n_low, k_low)) ∙ omega arith in
    let column : m % 4 ≡ k = omega (arith, k_low) in
    let row : m / 4 ≡ (suc n + 3) % 4 = omega (arith, n_low, k_low) in
    held _ s l m _ _ q
    (of_second r.vectors s.vectors components 32 (2 * l) (2 * m) long (omega (arith, n_low, k_low)) x)
    (of_second r.vectors s.vectors components 32 (2 * l + 1) (2 * m + 1) long (omega (arith, n_low, k_low)) y)
    (of_second r.pictures s.pictures blocks 16 l m many (omega (arith, n_low, k_low)) one)
    (of_second r.coded s.coded blocks 16 l m most (omega (arith, n_low, k_low)) one)
    (ap (λ j. edge_block false (m / 4) j) column ∙ ap (λ j. edge_block false j k) row) (hq m (omega (arith, n_low, k_low)))

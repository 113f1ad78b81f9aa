use Rattle.avc_deblock.proofs.FilteredPictures.{◌≡◌, ◌∙◌, ◌∷◌, [], ◌*◌, ◌+◌, ◌/◌, ◌%◌, ◌<◌, ◌==◌, zero, suc, ℕ, List, true, if◌then◌else◌, slice_index_or, length, arith, nat_tests, rules, refl, ap, same_below, edge_block}
use Rattle.avc_deblock.proofs.BlocksInRows.{of_first, of_second, held}
use Rattle.avc_deblock.proofs.block_rows.BlockRows.beside.Goals as goal

abbrev blocks : List ℕ
blocks = 3 ∷ 16 ∷ 17 ∷ 18 ∷ 7 ∷ 20 ∷ 21 ∷ 22 ∷ 11 ∷ 24 ∷ 25 ∷ 26 ∷ 15 ∷ 28 ∷ 29 ∷ 30 ∷ []

abbrev components : List ℕ
components =
    6 ∷ 7 ∷ 32 ∷ 33 ∷ 34 ∷ 35 ∷ 36 ∷ 37 ∷ 14 ∷ 15 ∷ 40 ∷ 41 ∷ 42 ∷ 43 ∷ 44 ∷ 45 ∷ 22 ∷ 23 ∷ 48 ∷ 49 ∷ 50 ∷ 51 ∷ 52 ∷ 53 ∷ 30 ∷ 31 ∷ 56 ∷ 57 ∷ 58 ∷ 59 ∷ 60 ∷ 61 ∷ []

-- the last of a row in the macroblock on the left, or the block before
block_at_place : (l : ℕ) → l < 16 → slice_index_or blocks l 0 ≡ (if l % 4 == 0 then l + 3 else l + 15)
block_at_place = same_below 16 (λ l. slice_index_or blocks l 0) (λ l. if l % 4 == 0 then l + 3 else l + 15) refl

component_at_place : (l : ℕ) → l < 32 → slice_index_or components l 0 ≡ (if l % 8 / 2 == 0 then l + 6 else l + 30)
component_at_place = same_below 32 (λ l. slice_index_or components l 0) (λ l. if l % 8 / 2 == 0 then l + 6 else l + 30) refl

then_first : (d a b : ℕ) → d ≡ 0 → (if d == 0 then a else b) ≡ a
then_first d a b is = grind (arith, nat_tests)

then_second : (d a b : ℕ) → 0 < d → (if d == 0 then a else b) ≡ b
then_second d a b some = grind (arith, nat_tests)

pub returns-clause-outer : goal.returns-clause-outer
returns-clause-outer c p hl k k_low =
    let r = c.args.left in
    let s = c.args.self in
    let long : length r.vectors ≡ 32 = search rules in
    let many : length r.pictures ≡ 16 = search rules in
    let most : length r.coded ≡ 16 = search rules in
    let l : ℕ = 4 * k in
    let m : ℕ = 4 * k + 3 in
    let one : slice_index_or blocks l 0 ≡ m = block_at_place l (omega (arith, k_low)) ∙ then_first (l % 4) (l + 3) (l + 15) (omega arith) ∙ omega arith in
    let x : slice_index_or components (2 * l) 0 ≡ 2 * m = component_at_place (2 * l) (omega (arith, k_low)) ∙ then_first (2 * l % 8 / 2) (2 * l + 6) (2 * l + 30) (omega arith) ∙ omega arith in
    let y : slice_index_or components (2 * l + 1) 0 ≡ 2 * m + 1 = component_at_place (2 * l + 1) (omega (arith, k_low)) ∙ then_first ((2 * l + 1) % 8 / 2) (2 * l + 1 + 6) (2 * l + 1 + 30) (omega arith) ∙ omega arith in
    let column : m % 4 ≡ 3 = omega arith in
    let row : m / 4 ≡ k = omega arith in
    held _ r l m _ _ p
    (of_first r.vectors s.vectors components 32 (2 * l) (2 * m) long (omega (arith, k_low)) x (omega (arith, k_low)))
    (of_first r.vectors s.vectors components 32 (2 * l + 1) (2 * m + 1) long (omega (arith, k_low)) y (omega (arith, k_low)))
    (of_first r.pictures s.pictures blocks 16 l m many (omega (arith, k_low)) one (omega (arith, k_low)))
    (of_first r.coded s.coded blocks 16 l m most (omega (arith, k_low)) one (omega (arith, k_low)))
    (ap (λ j. edge_block true j (m / 4)) column ∙ ap (edge_block true 3) row) (hl m (omega (arith, k_low)))

pub returns-clause-inner : goal.returns-clause-inner
returns-clause-inner c q hq zero k some n_low k_low = absurd (omega (arith, some))
returns-clause-inner c q hq (suc n) k some n_low k_low =
    let r = c.args.left in
    let s = c.args.self in
    let long : length r.vectors ≡ 32 = search rules in
    let many : length r.pictures ≡ 16 = search rules in
    let most : length r.coded ≡ 16 = search rules in
    let l : ℕ = 4 * k + suc n in
    let m : ℕ = 4 * k + n in
    let one : slice_index_or blocks l 0 ≡ 16 + m = block_at_place l (omega (arith, n_low, k_low)) ∙ then_second (l % 4) (l + 3) (l + 15) (omega (arith, n_low)) ∙ omega arith in
    let x : slice_index_or components (2 * l) 0 ≡ 32 + 2 * m = component_at_place (2 * l) (omega (arith, n_low, k_low)) ∙ then_second (2 * l % 8 / 2) (2 * l + 6) (2 * l + 30) (omega (arith, n_low)) ∙ omega arith in
    let y : slice_index_or components (2 * l + 1) 0 ≡ 32 + (2 * m + 1) =
    component_at_place (2 * l + 1) (omega (arith, n_low, k_low)) ∙ then_second ((2 * l + 1) % 8 / 2) (2 * l + 1 + 6) (2 * l + 1 + 30) (omega (arith, n_low)) ∙ omega arith in
    let column : m % 4 ≡ (suc n + 3) % 4 = omega (arith, n_low) in
    let row : m / 4 ≡ k = omega (arith, n_low) in
    held _ s l m _ _ q
    (of_second r.vectors s.vectors components 32 (2 * l) (2 * m) long (omega (arith, n_low, k_low)) x)
    (of_second r.vectors s.vectors components 32 (2 * l + 1) (2 * m + 1) long (omega (arith, n_low, k_low)) y)
    (of_second r.pictures s.pictures blocks 16 l m many (omega (arith, n_low, k_low)) one)
    (of_second r.coded s.coded blocks 16 l m most (omega (arith, n_low, k_low)) one)
    (ap (λ j. edge_block true j (m / 4)) column ∙ ap (edge_block true ((suc n + 3) % 4)) row) (hq m (omega (arith, n_low, k_low)))

use Rattle.avc_deblock.proofs.FilteredPictures.{◌≡◌, ◌∙◌, ◌∷◌, [], ◌*◌, ◌+◌, ◌/◌, ◌%◌, ◌<◌, ℕ, List, true, false, slice_index_or, length, arith, rules, refl, ap, same_below}
use Rattle.avc_deblock.proofs.BlocksInRows.{picked, by_column, by_row}
use Rattle.avc_deblock.proofs.mb_strengths.MbStrengths.of_blocks.Goals as goal

abbrev columns : List ℕ
columns = 0 ∷ 4 ∷ 8 ∷ 12 ∷ 1 ∷ 5 ∷ 9 ∷ 13 ∷ 2 ∷ 6 ∷ 10 ∷ 14 ∷ 3 ∷ 7 ∷ 11 ∷ 15 ∷ []

turned : (l : ℕ) → l < 16 → slice_index_or columns l 0 ≡ 4 * (l % 4) + l / 4
turned = same_below 16 (λ l. slice_index_or columns l 0) (λ l. 4 * (l % 4) + l / 4) refl

pub returns-clause-inside : goal.returns-clause-inside
returns-clause-inside c q hq true n k some n_low k_low =
    let all = c.strengths_to.result in
    let long : length all ≡ 16 = search rules in
    let place : ℕ = 4 * k + n in
    picked all columns (4 * n + k) place (omega (arith, n_low, k_low)) (turned (4 * n + k) (omega (arith, n_low, k_low)) ∙ omega (arith, n_low, k_low)) (omega (arith, n_low, k_low, long))
    ∙ c.strengths_to.ensures place q q _ _ (omega (arith, n_low, k_low)) (c.beside.ensures.inner q hq n k some n_low k_low) (by_column c.args.own q hq n k place n_low k_low refl)
returns-clause-inside c q hq false n k some n_low k_low =
    c.strengths_to-2.ensures (4 * n + k) q q _ _ (omega (arith, n_low, k_low)) (c.below.ensures.inner q hq n k some n_low k_low) (by_row c.args.own q hq n k (4 * n + k) n_low k_low refl)

pub returns-clause-left : goal.returns-clause-left
returns-clause-left c p q hp hq k k_low =
    let all = c.strengths_to.result in
    let long : length all ≡ 16 = search rules in
    let place : ℕ = 4 * k in
    picked all columns (4 * 0 + k) place (omega (arith, k_low)) (turned (4 * 0 + k) (omega (arith, k_low)) ∙ omega (arith, k_low)) (omega (arith, k_low, long))
    ∙ c.strengths_to.ensures place p q _ _ (omega (arith, k_low)) (c.beside.ensures.outer p hp k k_low) (by_column c.args.own q hq 0 k place (omega arith) k_low (omega arith))

pub returns-clause-above : goal.returns-clause-above
returns-clause-above c p q hp hq k k_low =
    let first : 4 * 0 + k ≡ k = omega arith in
    ap (λ l. slice_index_or c.strengths_to-2.result l 0) first
    ∙ c.strengths_to-2.ensures k p q _ _ (omega (arith, k_low)) (c.below.ensures.outer p hp k k_low) (by_row c.args.own q hq 0 k k (omega arith) k_low (omega arith))

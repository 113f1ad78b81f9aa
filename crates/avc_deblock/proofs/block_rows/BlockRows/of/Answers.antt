use Rattle.std.proofs.Common.{bit_and, ◌^◌}
use Rattle.std.proofs.lemmas.List.{get_or-map}
use Rattle.avc_deblock.proofs.FilteredPictures.{◌≡◌, ◌∙◌, ◌∷◌, [], ◌*◌, ◌+◌, ◌/◌, ◌%◌, ◌<◌, ◌==◌, ℕ, List, pos, true, slice_index_or, length, arith, rules, refl, ap, same_below, edge_block, low_block}
use Rattle.avc_deblock.proofs.BlocksInRows.{picked, bit_is}
use Rattle.avc_deblock.proofs.block_rows.BlockRows.of.Goals as goal

abbrev components : List ℕ
components =
    0 ∷ 1 ∷ 2 ∷ 3 ∷ 8 ∷ 9 ∷ 10 ∷ 11 ∷ 4 ∷ 5 ∷ 6 ∷ 7 ∷ 12 ∷ 13 ∷ 14 ∷ 15 ∷ 16 ∷ 17 ∷ 18 ∷ 19 ∷ 24 ∷ 25 ∷ 26 ∷ 27 ∷ 20 ∷ 21 ∷ 22 ∷ 23 ∷ 28 ∷ 29 ∷ 30 ∷ 31 ∷ []

abbrev quarters : List ℕ
quarters = 0 ∷ 0 ∷ 1 ∷ 1 ∷ 0 ∷ 0 ∷ 1 ∷ 1 ∷ 2 ∷ 2 ∷ 3 ∷ 3 ∷ 2 ∷ 2 ∷ 3 ∷ 3 ∷ []

abbrev bits : List ℕ
bits = 1 ∷ 2 ∷ 16 ∷ 32 ∷ 4 ∷ 8 ∷ 64 ∷ 128 ∷ 256 ∷ 512 ∷ 4096 ∷ 8192 ∷ 1024 ∷ 2048 ∷ 16384 ∷ 32768 ∷ []

-- the block in a place
abbrev block : ℕ → ℕ
block place = edge_block true (place % 4) (place / 4)

pub returns : goal.returns
returns c place low =
    let b = block place in
    let b_low : b < 16 = low_block true (place % 4) (place / 4) (omega arith) (omega (arith, low)) in
    let raised = c.raised_components.result in
    let pictures = c.args.mb.now.pictures in
    let mask = c.args.mb.now.coefficients in
    let long : length raised ≡ 32 = search rules in
    let four : length pictures ≡ 4 = search rules in
    record {
      x = ap pos (picked raised components (2 * place) (2 * b) (omega (arith, low)) (same_below 16 (λ i. slice_index_or components (2 * i) 0) (λ i. 2 * block i) refl place low) (omega (arith, b_low, long)))
          ∙ c.raised_components.ensures.x b b_low;
      y = ap pos (picked raised components (2 * place + 1) (2 * b + 1) (omega (arith, low)) (same_below 16 (λ i. slice_index_or components (2 * i + 1) 0) (λ i. 2 * block i + 1) refl place low) (omega (arith, b_low, long)))
          ∙ c.raised_components.ensures.y b b_low;
      picture = picked pictures quarters place (b / 4) low (same_below 16 (λ i. slice_index_or quarters i 0) (λ i. block i / 4) refl place low) (omega (arith, b_low, four));
      coded = ap (λ m. m == 0) (get_or-map (bit_and mask) bits place 0 0 low ∙ ap (bit_and mask) (same_below 16 (λ i. slice_index_or bits i 0) (λ i. 2 ^ block i) refl place low)) ∙ bit_is mask b;
    }

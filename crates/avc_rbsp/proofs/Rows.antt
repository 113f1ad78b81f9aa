-- Worked examples of what is written.
use Rattle.avc_rbsp.proofs.Reading.{◌≡◌, true, false, [], ◌∷◌, refl, count_leading_zeros, escaped, escaped_after, se_word, ue_word}
use Rattle.std.specs.Prelude.{negsuc}

codewords : (ue_word 0 ≡ true ∷ []) × (ue_word 4 ≡ false ∷ false ∷ true ∷ false ∷ true ∷ []) × (se_word (negsuc 0) ≡ false ∷ true ∷ true ∷ [])
unfolding se_word ue_word count_leading_zeros
codewords = (refl, refl, refl)

-- a 03 is put in after two zeros, and the count of zeros starts anew
escapes_zeros : escaped (0 ∷ 0 ∷ 0 ∷ 0 ∷ 0 ∷ 1 ∷ 0 ∷ 0 ∷ 4 ∷ []) ≡ 0 ∷ 0 ∷ 3 ∷ 0 ∷ 0 ∷ 3 ∷ 0 ∷ 1 ∷ 0 ∷ 0 ∷ 4 ∷ []
unfolding escaped_after
escapes_zeros = refl

-- Parts of the syntax read from their words.
pub mod Written
unfoldable pub use Written.*

-- Read from this word at this place with these bits after it, the part is the value, and those bits are left.
pub record ReadsAt {A : Type 0} (position : ℕ) (rest word : List Bool) (part : Read A) (value : A) : Type 0 where
  pub read : part (record { position = position; ahead = word ++ rest }) ≡ Ok (value, record { position = position + length word; ahead = rest })

-- That at each place, whatever comes after the word.
pub record GivesBack {A : Type 0} (part : Read A) (word : List Bool) (value : A) : Type 0 where
  pub back : (position : ℕ) (rest : List Bool) → ReadsAt position rest word part value

pub reads_back : {A : Type 0} {part : Read A} {w : List Bool} {x : A} → GivesBack part w x → (rest : List Bool) → ReadsBack rest part w x
unfolding ReadsBack
reads_back g rest position = (g.back position rest).read

-- the same word, or the same value
pub with_word : {A : Type 0} {part : Read A} {w w' : List Bool} {x : A} → w ≡ w' → GivesBack part w x → GivesBack part w' x
with_word is g = rw (← is) g

pub with_value : {A : Type 0} {part : Read A} {w : List Bool} {x y : A} → x ≡ y → GivesBack part w x → GivesBack part w y
with_value is g = rw (← is) g

-- ---- parts of any kind

pub at-give : {A : Type 0} {position : ℕ} {rest : List Bool} {x : A} → ReadsAt position rest [] (give x) x
at-give {A} {position} {rest} {x} = record { read = ap (λ k. Ok (x, record { position = k; ahead = rest })) (omega arith) }

-- one part after another
pub at-bind : {A B : Type 0} {position : ℕ} {rest w w' : List Bool} {part : Read A} {x : A} {y : B} (next : A → Read B) →
    ReadsAt position (w' ++ rest) w part x → ReadsAt (position + length w) rest w' (next x) y → ReadsAt position rest (w ++ w') (part >>= next) y
at-bind {A} {B} {position} {rest} {w} {w'} {part} {x} {y} next first second =
    let sum : position + length w + length w' ≡ position + length (w ++ w') = omega (arith, length-append w w') in
    record {
      read =
          ap (λ t. (part >>= next) (record { position = position; ahead = t })) (append_assoc w w' rest)
          ∙ rw (first.read) (second.read ∙ ap (λ k. Ok (y, record { position = k; ahead = rest })) sum);
    }

-- a part after which nothing is read
pub at-then : {A B : Type 0} {position : ℕ} {rest w : List Bool} {part : Read A} {x : A} {y : B} (next : A → Read B) →
    ReadsAt position rest w part x → ReadsAt (position + length w) rest [] (next x) y → ReadsAt position rest w (part >>= next) y
at-then {A} {B} {position} {rest} {w} {part} {x} {y} next first second =
    record { read = rw (first.read) (second.read ∙ ap (λ k. Ok (y, record { position = k; ahead = rest })) (omega arith)) }

pub back-give : {A : Type 0} {x : A} → GivesBack (give x) [] x
back-give = record { back = λ position rest. at-give }

pub back-bind : {A B : Type 0} {w w' : List Bool} {part : Read A} {x : A} {y : B} (next : A → Read B) → GivesBack part w x → GivesBack (next x) w' y → GivesBack (part >>= next) (w ++ w') y
back-bind next first second = record { back = λ position rest. at-bind next (first.back position _) (second.back _ rest) }

pub back-then : {A B : Type 0} {w : List Bool} {part : Read A} {x : A} {y : B} (next : A → Read B) → GivesBack part w x → GivesBack (next x) [] y → GivesBack (part >>= next) w y
back-then next first second = record { back = λ position rest. at-then next (first.back position rest) (second.back _ rest) }

pub back-last : {A B : Type 0} {w : List Bool} {part : Read A} {x : A} (f : A → B) → GivesBack part w x → GivesBack (part >>= λ v. give (f v)) w (f x)
back-last f first = back-then _ first back-give

-- ---- codewords

pub back-bits : (n : ℕ) {w : List Bool} → length w ≡ n → GivesBack (bits n) w w
back-bits n {w} count = record { back = λ position rest. record { read = rw (← count, split_long (length w) (w ++ rest) (omega (arith, length-append w rest)), take-append_seam w rest, drop-append_seam w rest) refl } }

pub back-u : (n : ℕ) {v : ℕ} → v < 2 ^ n → GivesBack (u n) (bits_of n v) v
back-u n {v} small = with_value (number-bits_of n v ∙ mod-eq_of_lt small) (back-last number_of (back-bits n (length-bits_of n v)))

pub back-flag : {b : Bool} → GivesBack flag (b ∷ []) b
back-flag {b = true} = record { back = λ position rest. record { read = refl } }
back-flag {b = false} = record { back = λ position rest. record { read = refl } }

-- zeros and a 1
zeros_read : (limit seen n : ℕ) (f : Fault) (rest : List Bool) → seen + n ≤ limit → zeros limit f seen (replicate n false ++ true ∷ rest) ≡ Ok (seen + n, rest)
zeros_read limit seen zero f rest few = ap (λ k. Ok (k, rest)) (omega arith)
zeros_read limit seen (suc n) f rest few =
    let below : nat_lt seen limit ≡ true = lt-ltb seen limit (omega arith) in
    rw (zeros, below) (zeros_read limit (seen + 1) n f rest (omega arith) ∙ ap (λ k. Ok (k, rest)) (omega arith))

pub back-zeros : {limit n : ℕ} (f : Fault) → n ≤ limit → GivesBack (zeros_before_one limit f) (replicate n false ++ true ∷ []) n
back-zeros {limit} {n} f few = record {
  back = λ position rest. record {
    read =
        let from_none : 0 + n ≡ n = omega arith in
        let place : position + n + 1 ≡ position + length (replicate n false ++ true ∷ []) = omega (arith, length-append (replicate n false) (true ∷ []), length-replicate n false) in
        ap (λ t. zeros_before_one limit f (record { position = position; ahead = t })) (append_assoc (replicate n false) (true ∷ []) rest)
        ∙ rw (zeros_read limit 0 n f rest (omega arith), from_none) (ap (λ k. Ok (n, record { position = k; ahead = rest })) place);
  };
}

pub back-ue : {v : ℕ} → v < 4294967295 → GivesBack ue (ue_word v) v
unfolding ue_word
back-ue {v} small =
    let n = bits_after_one (v + 1) in
    let is = top_of (v + 1) (omega arith) (omega arith) in
    let m = v + 1 - 2 ^ n in
    let word : (replicate n false ++ true ∷ []) ++ bits_of n m ≡ ue_word v = append_assoc (replicate n false) (true ∷ []) (bits_of n m) ∙ ap (λ t. replicate n false ++ true ∷ t) (sym (low_bits n (v + 1) is)) in
    let value : 2 ^ n - 1 + m ≡ v = omega (arith, is.low) in
    let all = back-bind (λ k. u k >>= λ j. give (2 ^ k - 1 + j)) (back-zeros faults.CodeTooLong is.few) (back-last _ (back-u n (omega (arith, is.low, is.high)))) in
    with_value value (with_word word all)

pub back-se : {v : ℤ} → neg_ℤ (pos 2147483648) <ℤ v → v <ℤ pos 2147483648 → GivesBack se (se_word v) v
unfolding se_word
back-se {v} low high = with_value (sym (signed_back v)) (back-last signed_value (back-ue (index_small v low high)))

-- the bit turned round
back-turned : (v : ℕ) → v ≤ 1 → GivesBack (te 1) ((v == 0) ∷ []) v
back-turned zero within = back-last (λ one. if one then 0 else 1) (back-flag {b = true})
back-turned (suc zero) within = back-last (λ one. if one then 0 else 1) (back-flag {b = false})
back-turned (suc (suc v)) within = absurd (omega arith)

pub back-te : (range : ℕ) {v : ℕ} → v ≤ range → v < 4294967295 → GivesBack (te range) (te_word range v) v
back-te range {v} within small = elim (cases_eq range 1) [
  | inl one ↦ let few : v ≤ 1 = omega arith in rw one (back-turned v few)
  | inr other ↦ let wide = ne_eqb range 1 other in rw (te, wide) (back-ue small)
]

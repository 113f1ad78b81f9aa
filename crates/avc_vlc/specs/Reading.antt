-- Reading by a table of codewords (9.1.2, 9.2.1, 9.2.3).
use Rattle.std.specs.Prelude.{◌≡◌, ◌⊎◌, ℕ, zero, suc, ◌+◌, ◌-◌, ◌*◌, ◌≤◌, ℤ, pos, negsuc, Bool}
use Rattle.std.specs.Prelude.{true, false, not, ◌&&◌, ◌||◌, nat_lt, nat_le, if◌then◌else◌, List, []}
use Rattle.std.specs.Prelude.{◌∷◌, length, map, Option, Some, None, Result, Ok, Err}
use Rattle.std.specs.List.{flat_map, enumerate_from, list_any, list_all, slice_get}
use Rattle.avc_types.specs.declared.fault.Fault.{Fault}
use Rattle.avc_types.specs.declared.fault.Fault.TheVariants as faults
use Rattle.avc_bits.specs.Bits.{Bits, Read, ◌>>=◌, ◌>>◌, give, refuse, check, bits_of}
use Rattle.avc_bits.specs.Codes.{ue, Code}
use Rattle.avc_vlc.specs.declared.coeff_token.Token.{Token}
use Rattle.avc_vlc.specs.Tables.{coeff_token_0, coeff_token_2, coeff_token_4, coeff_token_chroma_dc}
use Rattle.avc_vlc.specs.Tables.{total_zeros_4x4, total_zeros_chroma_dc, run_before_codes}
use Rattle.avc_vlc.specs.Tables.{cbp_intra, cbp_inter}

-- codewords with their values (9.2)
abbrev pub Table : Type 0 → Type 0
Table A = List (List Bool × A)

-- what is left of the bits after the codeword, if they begin with it (9.2)
abbrev pub after_word : List Bool → List Bool → Option (List Bool)
after_word [] bits = Some bits
after_word (w ∷ word) [] = None
after_word (true ∷ word) (true ∷ bits) = after_word word bits
after_word (false ∷ word) (false ∷ bits) = after_word word bits
after_word (true ∷ word) (false ∷ bits) = None
after_word (false ∷ word) (true ∷ bits) = None

-- the first list is a prefix of the second
abbrev pub is_prefix : List Bool → List Bool → Bool
is_prefix word bits = elim (after_word word bits) [ None ↦ false | Some left ↦ true ]

-- the value of the codeword that the bits begin with, its length, and what is left (9.2)
abbrev pub lookup : {A : Type 0} → Table A → List Bool → Option (A × ℕ × List Bool)
lookup [] bits = None
lookup (entry ∷ table) bits =
    elim (after_word entry.0 bits) [
      | Some left ↦ Some (entry.1, length entry.0, left)
      | None ↦ lookup table bits
    ]

-- Reading by a table (9.2). Where the bits ahead are a proper prefix of a codeword they are
-- Truncated, else BadCode: this decoder's rule.
abbrev pub table_code : {A : Type 0} → Table A → Read A
table_code {A} table b = found (lookup table b.ahead)
  where
    found : Option (A × ℕ × List Bool) → Result (A × Bits) Fault
    found (Some f) = Ok (f.0, record { position = b.position + f.1; ahead = f.2 })
    found None =
        elim (list_any (λ entry. is_prefix b.ahead entry.0) table) [
          | true ↦ Err faults.Truncated
          | false ↦ Err faults.BadCode
        ]

-- the table as a code (9.2)
abbrev pub IsIn : {A : Type 0} → Table A → Code A
IsIn [] word value = ⊥
IsIn (entry ∷ table) word value = (word ≡ entry.0) × (value ≡ entry.1) ⊎ IsIn table word value

-- no codeword is a prefix of a later one, nor a later one of it
abbrev pub is_prefix_free : {A : Type 0} → Table A → Bool
is_prefix_free [] = true
is_prefix_free (entry ∷ table) =
    list_all (λ other. not (is_prefix entry.0 other.0 || is_prefix other.0 entry.0)) table
    && is_prefix_free table

-- a row of codewords for 0, 1, 2, .. (Tables 9-7 to 9-10)
abbrev pub row_table : List (ℕ × ℕ) → Table ℕ
row_table row = map (λ e. (bits_of e.1.0 e.1.1, e.0)) (enumerate_from 0 row)

-- row k of a table; no codewords where there is no such row (Tables 9-5, 9-7 to 9-10)
abbrev pub row_at : List (List (ℕ × ℕ)) → ℕ → List (ℕ × ℕ)
row_at rows k = elim (slice_get rows k) [ Some row ↦ row | None ↦ [] ]

-- TotalCoeff( coeff_token ) and TrailingOnes( coeff_token ) (9.2.1)
abbrev pub token : ℕ → ℕ → Token
token total ones = record { total = total; ones = ones }

-- a column of Table 9-5: a row for each TotalCoeff, in it a codeword for each TrailingOnes
abbrev pub tokens : List (List (ℕ × ℕ)) → Table Token
tokens rows =
    flat_map (λ row. map (λ e. (bits_of e.1.0 e.1.1, token row.0 e.0)) (enumerate_from 0 row.1))
    (enumerate_from 0 rows)

-- nC of 8 and more: six bits, (TotalCoeff - 1) * 4 + TrailingOnes; 3 is no coefficient (Table 9-5)
abbrev six_bits : ℕ → ℕ → List Bool × Token
six_bits total ones = (bits_of 6 (4 * (total - 1) + ones), token total ones)

-- so many rows of these, from TotalCoeff 3 on (Table 9-5)
abbrev six_bit_rows : ℕ → Table Token
six_bit_rows zero = []
six_bit_rows (suc k) =
    six_bits (k + 3) 0 ∷ six_bits (k + 3) 1 ∷ six_bits (k + 3) 2 ∷ six_bits (k + 3) 3 ∷ six_bit_rows
    k

-- the column of nC 8 and more (Table 9-5)
abbrev pub tokens_8 : Table Token
tokens_8 =
    (bits_of 6 3, token 0 0) ∷ six_bits 1 0 ∷ six_bits 1 1 ∷ six_bits 2 0 ∷ six_bits 2 1 ∷ six_bits
    2 2 ∷ six_bit_rows 14

-- The column for nC; -1 is chroma DC (9.2.1, Table 9-5).
abbrev pub token_table : ℤ → Table Token
token_table (negsuc _) = tokens coeff_token_chroma_dc
token_table (pos n) =
    if nat_lt n 2 then tokens coeff_token_0
    else if nat_lt n 4 then tokens coeff_token_2
    else if nat_lt n 8 then tokens coeff_token_4
    else tokens_8

-- the ranges of TotalCoeff and TrailingOnes (9.2.1)
pub record IsToken (t : Token) : Type 0 where
  pub total : t.total ≤ 16
  pub ones : t.ones ≤ t.total
  pub few_ones : t.ones ≤ 3

-- coeff_token at this nC (9.2.1)
abbrev pub coeff_token : ℤ → Read Token
coeff_token nc = table_code (token_table nc)

-- The codewords of total_zeros for TotalCoeff, which is tzVlcIndex (9.2.3, Tables 9-7 to 9-9).
abbrev pub zeros_table : (total : ℕ) → (chroma_dc : Bool) → Table ℕ
zeros_table total true = row_table (row_at total_zeros_chroma_dc (total - 1))
zeros_table total false = row_table (row_at total_zeros_4x4 (total - 1))

-- total_zeros at this TotalCoeff (9.2.3)
abbrev pub total_zeros : (total : ℕ) → (chroma_dc : Bool) → Read ℕ
total_zeros total chroma_dc = table_code (zeros_table total chroma_dc)

-- The codewords of run_before for zerosLeft (9.2.3, Table 9-10).
abbrev pub run_table : (zeros_left : ℕ) → Table ℕ
run_table zeros_left =
    row_table (row_at run_before_codes
    (elim (nat_le zeros_left 6) [ true ↦ zeros_left - 1 | false ↦ 6 ]))

-- run_before at this zerosLeft (9.2.3). The code is read from the whole column; a run above
-- zerosLeft is then no code, by this decoder's rule.
abbrev pub run_before : (zeros_left : ℕ) → Read ℕ
run_before zeros_left = do
  run ← table_code (run_table zeros_left)
  check (nat_le run zeros_left) faults.BadCode
  give run

-- the pattern of a number (9.1.2, Table 9-4)
abbrev pub pattern_at : (intra : Bool) → ℕ → Option ℕ
pattern_at true number = slice_get cbp_intra number
pattern_at false number = slice_get cbp_inter number

-- coded_block_pattern: me(v), by ue(v) and a table (9.1.2); BadCode is this decoder's rule
abbrev pub coded_block_pattern : (intra : Bool) → Read ℕ
coded_block_pattern intra = do
  number ← ue
  elim (pattern_at intra number) [ Some pattern ↦ give pattern | None ↦ refuse faults.BadCode ]

-- Tables that are indexed by the bits ahead: an entry says what the first of these bits decide.
use Rattle.std.specs.Prelude.{◌≡◌, ℕ, zero, suc, ◌+◌, ◌-◌, ◌*◌, ◌/◌, ◌%◌, ◌^◌, ◌<◌, ◌==◌, Bool}
use Rattle.std.specs.Prelude.{true, false, nat_le, nat_lt, if◌then◌else◌, List, [], ◌∷◌, ◌++◌}
use Rattle.std.specs.Prelude.{length, map, take, replicate, Option, Some, None, Ok, Err}
use Rattle.std.specs.List.{enumerate_from, list_all, list_any, range_with_len}
use Rattle.std.specs.Prelude.{slice_index_or}
use Rattle.avc_bits.specs.Bits.{bits_of}
use Rattle.avc_vlc.specs.declared.code.Code.{Code}
use Rattle.avc_vlc.specs.declared.entry.Entry.{Entry}
use Rattle.avc_vlc.specs.declared.coeff_token.Token.{Token}
use Rattle.avc_vlc.specs.declared.run_before.Run.{Run}
use Rattle.avc_vlc.specs.Reading.{Table, after_word, is_prefix, lookup, row_at, row_table}
use Rattle.avc_vlc.specs.Reading.{run_before, token, tokens}
use Rattle.avc_vlc.specs.Tables.{coeff_token_0, coeff_token_2, coeff_token_4, coeff_token_chroma_dc}
use Rattle.avc_vlc.specs.Tables.{run_before_codes}
use Rattle.avc_vlc.specs.Writing.{word_of}

-- whether a codeword begins with the bits
abbrev pub begins : {A : Type 0} → Table A → List Bool → Bool
begins table bits = list_any (λ entry. is_prefix bits entry.0) table

-- whether a word begins with the bits and goes on behind them
abbrev pub goes_on : List Bool → List Bool → Bool
goes_on bits word =
    elim (after_word bits word) [
      | None ↦ false
      | Some left ↦ elim left [ [] ↦ false | _ ∷ _ ↦ true ]
    ]

-- The entry of bits that are a codeword, and with which no longer one begins.
abbrev pub word_entry : {A : Type 0} → Table A → List Bool → A × ℕ × List Bool → Option (Entry A)
word_entry table bits f =
    elim f.2 [
      | _ ∷ _ ↦ None
      | [] ↦
          elim (list_any (λ entry. goes_on bits entry.0) table) [
            | true ↦ None
            | false ↦ Some (record { length = length bits; value = Some f.0 })
          ]
    ]

-- The shortest front of the bits that is a codeword, or with which no codeword begins. It has at
-- least the bits of `front`, which stand before `bits`.
abbrev pub entry_from : {A : Type 0} → Table A → (front bits : List Bool) → Option (Entry A)
entry_from table front [] =
    elim (lookup table front) [
      | Some f ↦ word_entry table front f
      | None ↦
          elim (begins table front) [
            | false ↦ Some (record { length = length front; value = None })
            | true ↦ None
          ]
    ]
entry_from table front (b ∷ bits) =
    elim (lookup table front) [
      | Some f ↦ word_entry table front f
      | None ↦
          elim (begins table front) [
            | false ↦ Some (record { length = length front; value = None })
            | true ↦ entry_from table (front ++ b ∷ []) bits
          ]
    ]

-- what the bits decide, where they do
abbrev pub entry_of : {A : Type 0} → Table A → List Bool → Option (Entry A)
entry_of table bits = entry_from table [] bits

-- two lists of bits are the same as far as both go
abbrev pub Agree : List Bool → List Bool → Type 0
Agree [] others = Unit {0}
Agree (b ∷ bits) [] = Unit {0}
Agree (b ∷ bits) (o ∷ others) = (b ≡ o) × Agree bits others

-- the entry is what the bits ahead decide
pub record Decides {A : Type 0} (table : Table A) (ahead : List Bool)
    (entry : Entry A) : Type 0 where
  pub bits : List Bool
  pub is_entry : entry_of table bits ≡ Some entry
  pub agrees : Agree bits ahead

-- ---- tables by the zeros in front

-- The bits of one place in a table of rows and columns: zeros, and in all rows but the last a 1 and
-- the bits behind it.
abbrev pub place_bits : (last tail row column : ℕ) → List Bool
place_bits last tail row column =
    elim (nat_lt row last) [
      | true ↦ replicate row false ++ true ∷ bits_of tail column
      | false ↦ replicate row false
    ]

-- what each place decides
abbrev pub index : {A : Type 0} → Table A → (tail rows : ℕ) → List (List (Option (Entry A)))
index table tail rows =
    map (λ row. map (λ column. entry_of table (place_bits (rows - 1) tail row column))
    (range_with_len 0 (2 ^ tail))) (range_with_len 0 rows)

-- the rows are the index of the table
pub record IsIndexed {A : Type 0} (table : Table A) (tail : ℕ)
    (rows : List (List (Entry A))) : Type 0 where
  pub same : index table tail (length rows) ≡ map (map Some) rows

-- each of the tables in the list, with so many rows each, is the index of its table
pub record AreIndexed {A : Type 0} (each : ℕ → Table A) (tail rows : ℕ)
    (tables : List (List (List (Entry A)))) : Type 0 where
  pub long : map length tables ≡ replicate (length tables) rows
  pub same : map (λ k. index (each k) tail rows) (range_with_len 0 (length tables))
      ≡ map (map (map Some)) tables

-- no entry of the rows has more bits
abbrev pub is_within : {A : Type 0} → (most : ℕ) → List (List (Entry A)) → Bool
is_within most rows = list_all (λ row. list_all (λ entry. nat_le entry.length most) row) rows

abbrev pub IsWithin : {A : Type 0} → (most : ℕ) → List (List (Entry A)) → Type 0
IsWithin most rows = is_within most rows ≡ true

-- no entry of the tables has more bits
abbrev pub AreWithin : {A : Type 0} → (most : ℕ) → List (List (List (Entry A))) → Type 0
AreWithin most tables = list_all (is_within most) tables ≡ true

-- each of the tables in the list is what the values of three bits decide by its table
pub record AreFronts {A : Type 0} (each : ℕ →
    Table A) (tables : List (List (Entry A))) : Type 0 where
  pub same : map (λ k. map (λ n. entry_of (each k) (bits_of 3 n)) (range_with_len 0 8))
      (range_with_len 0 (length tables)) ≡ map (map Some) tables

-- the columns of Table 9-5 by the class of nC: 0 and 1, 2 and 3, 4 to 7, and chroma DC
abbrev pub class_table : ℕ → Table Token
class_table zero = tokens coeff_token_0
class_table (suc zero) = tokens coeff_token_2
class_table (suc (suc zero)) = tokens coeff_token_4
class_table (suc (suc (suc k))) = tokens coeff_token_chroma_dc

-- what a codeword of run_before decides
abbrev pub entry_of_run : Run → Entry ℕ
entry_of_run r = record { length = r.length; value = Some r.zeros }

-- the codewords of run_before where this number and one more zeros are left, six at most (Table
-- 9-10)
abbrev pub few_table : ℕ → Table ℕ
few_table k = row_table (row_at run_before_codes k)

-- the tables are what three bits decide where one to six zeros are left, no run is longer, and no
-- codeword has more bits
pub record AreRuns (tables : List (List Run)) : Type 0 where
  pub fronts : AreFronts few_table (map (map entry_of_run) tables)
  pub most : map (λ k. list_all (λ r. nat_le r.zeros (k + 1)) (slice_index_or tables k []))
      (range_with_len 0 6) ≡ replicate 6 true
  pub short : map (λ k. list_all (λ r. nat_le r.length 3) (slice_index_or tables k []))
      (range_with_len 0 6) ≡ replicate 6 true

-- What three bits say of the run whose codeword they begin with (9.2.3); a length of 0 where none
-- is so short.
unfoldable pub short_run : (zeros_left bits : ℕ) → Run
short_run zeros_left bits =
    elim (run_before zeros_left (record { position = 0; ahead = bits_of 3 bits })) [
      | Ok r ↦ record { length = r.1.position; zeros = r.0 }
      | Err f ↦ record { length = 0; zeros = 0 }
    ]

-- the tables are what the bits say, by zerosLeft
pub record AreShortRuns (tables : List (List Run)) : Type 0 where
  pub same : map (λ zeros_left. map (short_run zeros_left) (range_with_len 0 8))
      (range_with_len 0 16) ≡ tables

-- the place is that of the bits ahead
pub record IsPlaceOf (ahead : List Bool) (last tail row column : ℕ) : Type 0 where
  pub agrees : Agree (place_bits last tail row column) ahead

-- the number is that of the first n bits ahead
pub record IsFrontOf (ahead : List Bool) (n number : ℕ) : Type 0 where
  pub agrees : Agree (bits_of n number) ahead

-- ---- the bits ahead

-- the number's 32 bits are the next ones, and zeros from the stop bit on
pub record IsAhead (word : ℕ) (ahead : List Bool) : Type 0 where
  pub bits : bits_of 32 word ≡ take 32 (ahead ++ replicate 32 false)
  pub below : word < 2 ^ 32

-- a code has the bits ahead
abbrev pub Shows : {N : ℕ} → Code N → List Bool → Type 0
Shows code ahead = IsAhead code.word ahead

-- the bits of a code
abbrev pub code_bits : {N : ℕ} → Code N → List Bool
code_bits code = take code.count (bits_of 32 code.word)

-- the entry of six bits for nC of 8 and more
abbrev pub six_bit_entry : ℕ → Entry Token
six_bit_entry number = record {
  length = 6;
  value = if number == 3 then Some (token 0 0) else if nat_lt (number / 4 + 1) (number % 4)
      then None else Some (token (number / 4 + 1) (number % 4));
}

-- the number whose entry alone can be the token's
abbrev pub six_bit_number : Token → ℕ
six_bit_number t = if t.total == 0 then 3 else 4 * (t.total - 1) + t.ones

-- ---- writing by an indexed table

-- the entry is the codeword of the value
abbrev pub holds : {A : Type 0} → (same : A → A → Bool) → A → Entry A → Bool
holds same value entry = elim entry.value [ None ↦ false | Some own ↦ same value own ]

-- the word of so many bits at a place
abbrev pub word_at : (tail row column length : ℕ) → List Bool
word_at tail row column length =
    bits_of length ((2 ^ tail + column) / 2 ^ (row + 1 + tail - length))

-- no entry has more than 16 bits
abbrev pub AreShort : {A : Type 0} → List (List (Entry A)) → Type 0
AreShort rows = list_all (λ row. list_all (λ entry. nat_le entry.length 16) row) rows ≡ true

-- the codeword of an entry's value in a table
abbrev pub entry_word : {A : Type 0} → (same : A → A → Bool) → Table A → Entry A →
    Option (List Bool)
entry_word same table entry = elim entry.value [ None ↦ None | Some own ↦ word_of (same own) table ]

-- the codeword of the entry at a place; none where no codeword leads there
abbrev pub place_word : {A : Type 0} → (tail row column : ℕ) → Entry A → Option (List Bool)
place_word tail row column entry =
    elim entry.value [
      | None ↦ None
      | Some own ↦ Some (word_at tail row column entry.length)
    ]

-- the rows have the words of the table, each at a place of its own
pub record IsWritten {A : Type 0} (same : A → A → Bool) (table : Table A) (tail : ℕ)
    (rows : List (List (Entry A))) : Type 0 where
  pub words : map (λ row. map (entry_word same table) row) rows
      ≡ map (λ r. map (λ c. place_word tail r.0 c.0 c.1) (enumerate_from 0 r.1))
      (enumerate_from 0 rows)
  pub whole : list_all (λ entry. list_any (λ row. list_any (holds same entry.1) row) rows) table
      ≡ true

-- the rows of each of the tables in the list have the words of its table
abbrev pub AreWritten : {A : Type 0} → (same : A → A → Bool) → (each : ℕ → Table A) → (tail : ℕ) →
    List (List (List (Entry A))) → Type 0
AreWritten same each tail [] = Unit {0}
AreWritten same each tail (rows ∷ tables) =
    IsWritten same (each 0) tail rows × AreWritten same (λ k. each (suc k)) tail tables

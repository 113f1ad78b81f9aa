-- Laws of the tables: no codeword begins another, and the reader that computes reads each table as
-- a set of codewords.
use Rattle.std.specs.Prelude.{◌≡◌, ℕ, ◌+◌, ◌≤◌, ℤ, pos, ◌<ℤ◌, Bool, true, false, List, ◌++◌, length}
use Rattle.std.specs.Prelude.{Option, Some, Ok}
use Rattle.std.specs.Option.{IsSome}
use Rattle.avc_types.specs.declared.fault.Fault.TheVariants as faults
use Rattle.avc_bits.specs.Bits.{Bits, Read}
use Rattle.avc_bits.specs.Codes.{IsReadBy, IsPrefixFree}
use Rattle.avc_vlc.specs.declared.coeff_token.Token.{Token}
use Rattle.avc_vlc.specs.Reading.{Table, IsIn, IsToken, coeff_token, run_before, run_table}
use Rattle.avc_vlc.specs.Reading.{table_code, token_table, total_zeros, zeros_table}
use Rattle.avc_vlc.specs.Writing.{run_word, token_word, zeros_word}

-- the table's reader reads it as the set of its codewords
abbrev pub IsTableRead : {A : Type 0} → Table A → Type 0
IsTableRead table = (b : Bits) → IsReadBy (IsIn table) faults.BadCode b (table_code table b)

-- No codeword begins another: coeff_token, total_zeros and run_before.
pub record TablesArePrefixFree : Type 0 where
  pub tokens : (nc : ℤ) → IsPrefixFree (IsIn (token_table nc))
  pub zeros : (total : ℕ) (chroma_dc : Bool) → IsPrefixFree (IsIn (zeros_table total chroma_dc))
  pub runs : (zeros_left : ℕ) → IsPrefixFree (IsIn (run_table zeros_left))

-- Reading by each of the tables is as its code says (9.2).
pub record TablesAreRead : Type 0 where
  pub tokens : (nc : ℤ) → IsTableRead (token_table nc)
  pub zeros : (total : ℕ) (chroma_dc : Bool) → IsTableRead (zeros_table total chroma_dc)
  pub runs : (zeros_left : ℕ) → IsTableRead (run_table zeros_left)

-- ---- the codewords that are written

-- With any bits behind it the word is read as the value, and those bits are left.
abbrev pub IsReadBack : {A : Type 0} → Read A → List Bool → A → Type 0
IsReadBack part word value =
    (position : ℕ) (rest : List Bool) → part (record { position = position; ahead = word ++ rest })
    ≡ Ok (value, record { position = position + length word; ahead = rest })

-- The codeword of a value is read back as that value, whatever comes after it.
pub record WordsAreRead : Type 0 where
  pub tokens : (nc : ℤ) (t : Token) (word : List Bool) → token_word nc t ≡ Some word →
      IsReadBack (coeff_token nc) word t
  pub zeros : (total : ℕ) (chroma_dc : Bool) (n : ℕ) (word : List Bool) →
      zeros_word total chroma_dc n ≡ Some word → IsReadBack (total_zeros total chroma_dc) word n
  pub runs : (zeros_left run : ℕ) (word : List Bool) → run_word zeros_left run ≡ Some word →
      IsReadBack (run_before zeros_left) word run

-- Chroma DC has at most four levels, and zeros_left is at most 14 where a run is coded.
pub record WordsAreWhole : Type 0 where
  pub tokens : (nc : ℤ) (t : Token) → IsToken t → (nc <ℤ pos 0 → t.total ≤ 4) →
      IsSome (token_word nc t)
  pub zeros : (total n : ℕ) → 1 ≤ total → total ≤ 15 → total + n ≤ 16 →
      IsSome (zeros_word total false n)
  pub chroma_zeros : (total n : ℕ) → 1 ≤ total → total ≤ 3 → total + n ≤ 4 →
      IsSome (zeros_word total true n)
  pub runs : (zeros_left run : ℕ) → 1 ≤ zeros_left → zeros_left ≤ 14 → run ≤ zeros_left →
      IsSome (run_word zeros_left run)

-- What was read is the word, with any bits behind it.
pub record IsRead (word : Option (List Bool)) (b left : Bits) : Type 0 where
  pub bits : List Bool
  pub is_word : word ≡ Some bits
  pub ahead : b.ahead ≡ bits ++ left.ahead

-- Each value is read from no other word.
pub record WordsAreTheOnlyOnes : Type 0 where
  pub tokens : (nc : ℤ) (t : Token) (b left : Bits) → coeff_token nc b ≡ Ok (t, left) →
      IsRead (token_word nc t) b left
  pub zeros : (total : ℕ) (chroma_dc : Bool) (n : ℕ) (b left : Bits) → total_zeros total chroma_dc b
      ≡ Ok (n, left) → IsRead (zeros_word total chroma_dc n) b left
  pub runs : (zeros_left run : ℕ) (b left : Bits) → run_before zeros_left b ≡ Ok (run, left) →
      IsRead (run_word zeros_left run) b left

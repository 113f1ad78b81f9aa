-- What is left to read of a block when some of it has been read.
use Rattle.std.specs.Prelude.{◌≡◌, ℕ, ◌+◌, ◌-◌, ◌*◌, ◌/◌, ◌%◌, ◌^◌, ◌≤◌, ◌<◌, ℤ, pos, neg_ℤ, Bool}
use Rattle.std.specs.Prelude.{true, false, ◌==◌, ◌&&◌, ◌||◌, nat_le, nat_lt, if◌then◌else◌, List}
use Rattle.std.specs.Prelude.{[], ◌∷◌, ◌++◌, drop, length, map, replicate, slice_index_or, take}
use Rattle.std.specs.Prelude.{Result, Ok, Err, MatchResult}
use Rattle.std.specs.List.{All, range_with_len}
use Rattle.avc_types.specs.declared.fault.Fault.{Fault}
use Rattle.avc_bits.specs.Reader.{reader_bits, reader_bytes}
use Rattle.avc_bits.specs.declared.reader.BitReader.{BitReader}
use Rattle.avc_types.specs.declared.fault.Fault.TheVariants as faults
use Rattle.avc_bits.specs.Bits.{Bits, Read, ◌>>=◌, ◌>>◌, bits_of, check, give, passed}
use Rattle.avc_vlc.specs.Reading.{total_zeros}
use Rattle.avc_vlc.specs.declared.coeff_token.Token.{Token}
use Rattle.avc_cavlc.specs.declared.level.Level.{Level}
use Rattle.avc_cavlc.specs.declared.level.LongCode.{LongCode}
use Rattle.avc_types.specs.Macroblock.{total_coeff}
use Rattle.avc_cavlc.specs.Block.{IsLevel, IsSmall, each_after_zeros, level, level_of_code, levels}
use Rattle.avc_cavlc.specs.Block.{next_suffix_length, placed, runs, token_levels}

-- what stands behind coeff_token in a block of max coefficients: what residual_block goes on with
-- (7.3.5.3.2)
abbrev pub block_behind : (max : ℕ) → Token → Read (List ℤ)
block_behind max t = do
  check (nat_le t.total max) faults.TooManyCoefficients
  values ← token_levels t
  zeros ← elim (t.total == 0 || t.total == max) [
    | true ↦ give 0
    | false ↦ total_zeros t.total (max == 4)
  ]
  check (nat_le (t.total + zeros) max) faults.TooManyCoefficients
  zero_runs ← runs t.total zeros
  give (placed max values zero_runs)

-- What was read into a place is what this part of the syntax reads, and the reader goes on after
-- it.
abbrev pub ReadsInto : {V A : Type 0} → Result V Fault → A → Read A → BitReader → BitReader → Type 0
ReadsInto result value read old new = MatchResult result
    (λ _. (read (reader_bits old) ≡ Ok (value, reader_bits new)) ×
    (reader_bytes new ≡ reader_bytes old))
    (λ fault. read (reader_bits old) ≡ Err fault)

-- What was read into a place is what this part of the syntax reads from some bits.
abbrev pub ReadsFrom : {V A : Type 0} → Result V Fault → A → Read A → (before after : Bits) → Type 0
ReadsFrom result value read before after =
    MatchResult result (λ _. read before ≡ Ok (value, after)) (λ fault. read before ≡ Err fault)

-- The levelCode that was read is that of the level that this part of the syntax reads.
abbrev pub ReadsCode : Result ℕ Fault → Read ℤ → BitReader → BitReader → Type 0
ReadsCode result read old new = MatchResult result
    (λ code. (read (reader_bits old) ≡ Ok (level_of_code code, reader_bits new)) ×
    (reader_bytes new ≡ reader_bytes old))
    (λ fault. read (reader_bits old) ≡ Err fault)

-- The level that was read is what this part of the syntax reads.
abbrev pub ReadsLevel : Result Level Fault → Read ℤ → BitReader → BitReader → Type 0
ReadsLevel result read old new = MatchResult result
    (λ l. (read (reader_bits old) ≡ Ok (l.value, reader_bits new)) ×
    (reader_bytes new ≡ reader_bytes old))
    (λ fault. read (reader_bits old) ≡ Err fault)

-- The levelCode is that of the level that this part of the syntax reads, and its length is that of
-- what is read.
abbrev pub IsLongCode : Result LongCode Fault → Read ℤ → Bits → Type 0
IsLongCode result read b = MatchResult result
    (λ code. (read b ≡ Ok (level_of_code code.number, passed b code.length)) ×
    (code.length ≤ length b.ahead))
    (λ fault. read b ≡ Err fault)

-- a trailing one with this sign bit (9.2.2)
abbrev pub one_of_sign : Bool → ℤ
one_of_sign negative = if negative then neg_ℤ (pos 1) else pos 1

-- the ones of three sign bits (9.2.2)
abbrev pub three_ones : ℕ → List ℤ
three_ones signs =
    one_of_sign (signs / 4 % 2 == 1) ∷ one_of_sign (signs / 2 % 2 == 1) ∷ one_of_sign
    (signs / 1 % 2 == 1) ∷ []

-- suffixLength for the level after one of this size, where it is at least 1 (9.2.2)
abbrev pub raised : (suffix_length size : ℕ) → ℕ
raised suffix_length size =
    if nat_lt suffix_length 6 && nat_lt (3 * 2 ^ (suffix_length - 1)) size then suffix_length + 1
    else suffix_length

-- n levels, which come after those that are done
abbrev pub levels_after : (done : List ℤ) → (n suffix_length : ℕ) → (above_one : Bool) →
    Read (List ℤ)
levels_after done n suffix_length above_one =
    levels n suffix_length above_one >>= λ others. give (done ++ others)

-- the runs of the values, which are then placed
abbrev pub placed_by_runs : (max : ℕ) → (values : List ℤ) → (n zeros : ℕ) → Read (List ℤ)
placed_by_runs max values n zeros = runs n zeros >>= λ zero_runs. give (placed max values zero_runs)

-- total_zeros, where not every place has a level; so many zeros have places beside the levels
-- (7.3.5.3.2)
abbrev pub zeros_within : (max total : ℕ) → Read ℕ
zeros_within max total = do
  zeros ← elim (total == 0 || total == max) [ true ↦ give 0 | false ↦ total_zeros total (max == 4) ]
  check (nat_le (total + zeros) max) faults.TooManyCoefficients
  give zeros

-- total_zeros and the runs of the values, which are then placed in a block of 16
abbrev pub placed_by_zeros : (max : ℕ) → (values : List ℤ) → (total : ℕ) → Read (List ℤ)
placed_by_zeros max values total =
    zeros_within max total >>= λ zeros. placed_by_runs 16 values total zeros

-- the runs of the n values that are left, which are placed before those that are done
abbrev pub placed_before : (done values : List ℤ) → (n zeros_left : ℕ) → Read (List ℤ)
placed_before done values n zeros_left =
    runs n zeros_left >>= λ zero_runs. give (each_after_zeros values zero_runs ++ done)

-- So many of the values of a block of 16 stand in their places, with those of the zeros that stand
-- between them; so many zeros are left.
pub record ArePlaced (total count zeros_left : ℕ) (block : List ℤ) : Type 0 where
  pub some : count < total
  pub room : total - count + zeros_left ≤ 16
  pub open_front : take (total - count + zeros_left) block
      ≡ replicate (total - count + zeros_left) (pos 0)
  pub placed_count : total_coeff (drop (total - count + zeros_left) block) ≡ count
  pub small : (i : ℕ) → IsSmall (slice_index_or block i (pos 0))

-- what is then left to read: the runs of the others
abbrev pub placed_others : (values : List ℤ) → (total count zeros_left : ℕ) → (block : List ℤ) →
    Read (List ℤ)
placed_others values total count zeros_left block =
    placed_before (drop (total - count + zeros_left) block) (drop count values) (total - count)
    zeros_left

-- ---- levels by their stage: suffixLength, or 7 more where the size is known to be above 1

-- the suffixLength of a stage
abbrev pub stage_length : ℕ → ℕ
stage_length stage = if nat_lt stage 7 then stage else stage - 7

-- whether the size of its level is known to be above 1
abbrev pub stage_above : ℕ → Bool
stage_above stage = nat_lt 6 stage

-- n levels from a stage on, which come after those that are done
abbrev pub left_from : (done : List ℤ) → (n stage : ℕ) → Read (List ℤ)
left_from done n stage = levels_after done n (stage_length stage) (stage_above stage)

-- So many of the levels have been read into the values: what is left to read of all, from the stage
-- `next` on.
pub record AreRead (all : Result (List ℤ × Bits) Fault) (total count next : ℕ) (values : List ℤ)
    (after : Bits) : Type 0 where
  pub most : count ≤ total
  pub next_stage : next < 9
  pub read : all ≡ left_from (take count values) (total - count) next after
  pub size : All IsLevel (take count values)

-- What seven bits say of the level whose codeword they begin with (9.2.2); a length of 0 where none
-- is so short.
unfoldable pub short_level : (stage bits : ℕ) → Level
short_level stage bits =
    elim (level (stage_length stage) (stage_above stage) (record {
      position = 0;
      ahead = bits_of 7 bits;
    })) [
      | Ok r ↦ record {
        value = r.0;
        length = r.1.position;
        next = next_suffix_length (stage_length stage) r.0;
      }
      | Err f ↦ record { value = pos 0; length = 0; next = 0 }
    ]

-- the tables are what the bits say, by stages
pub record AreShortLevels (tables : List (List Level)) : Type 0 where
  pub same : map (λ stage. map (short_level stage) (range_with_len 0 128)) (range_with_len 0 9)
      ≡ tables

-- Residual blocks as bits (7.3.5.3.2, 9.2): the codewords of a block's levels and runs in their
-- order, and the blocks that have them.
use Rattle.std.specs.Prelude.{◌≡◌, ℕ, zero, suc, ◌+◌, ◌-◌, ◌*◌, ◌/◌, ◌^◌, ◌<◌, ◌≤◌, ◌==◌, ◌&&◌}
use Rattle.std.specs.Prelude.{◌||◌, nat_lt, ℤ, pos, negsuc, ◌<ℤ◌, int_lt, nat_abs, Bool, true}
use Rattle.std.specs.Prelude.{false, if◌then◌else◌, List, [], ◌∷◌, ◌++◌, drop, length, map}
use Rattle.std.specs.Prelude.{replicate, reverse, take, Ok}
use Rattle.std.specs.List.{All, sum}
use Rattle.avc_bits.specs.Bits.{Bits, bits_of, or_none}
use Rattle.avc_cavlc.specs.Block.{level_code, next_suffix_length, residual_block, suffix_size}
use Rattle.avc_vlc.specs.Reading.{token}
use Rattle.avc_vlc.specs.Writing.{run_word, token_word, zeros_word}
use Rattle.avc_rbsp.specs.Words.{ReadsBack, joined}

-- ---- what is coded

-- the levels that are not 0, each with how many zeros stand right before it, where so many stand
-- before them all
abbrev pub after_zeros : (before : ℕ) → List ℤ → List (ℤ × ℕ)
after_zeros before [] = []
after_zeros before (l ∷ levels) =
    if nat_abs l == 0 then after_zeros (before + 1) levels else (l, before) ∷ after_zeros 0 levels

-- those of a block, the highest frequency first
abbrev pub coded : List ℤ → List (ℤ × ℕ)
coded levels = reverse (after_zeros 0 levels)

-- the levels of the coefficients that are not 0
abbrev pub values_of : List (ℤ × ℕ) → List ℤ
values_of found = map (λ c. c.0) found

-- the zeros before each of them (run_before)
abbrev pub runs_of : List (ℤ × ℕ) → List ℕ
runs_of found = map (λ c. c.1) found

-- how many levels are 1 or -1 before one that is not, at most so many (TrailingOnes with 3)
abbrev pub ones_first : (most : ℕ) → List ℤ → ℕ
ones_first zero values = 0
ones_first (suc most) [] = 0
ones_first (suc most) (l ∷ values) = if nat_abs l == 1 then suc (ones_first most values) else 0

-- ---- levels (9.2.2)

-- trailing_ones_sign_flag of the first n levels
abbrev pub sign_bits : (n : ℕ) → List ℤ → List Bool
sign_bits n values = map (λ l. int_lt l (pos 0)) (take n values)

-- levelCode: 0, 1, 2, 3, .. for 1, -1, 2, -2, .., and 2 less where the level's size is known to be
-- above 1
abbrev pub code_of_level : (above_one : Bool) → ℤ → ℕ
code_of_level above_one (pos n) = 2 * n - 2 - (if above_one then 2 else 0)
code_of_level above_one (negsuc n) = 2 * n + 1 - (if above_one then 2 else 0)

-- level_prefix of a levelCode: 15 where the code is too great for all others
abbrev pub prefix_of : (suffix_length code : ℕ) → ℕ
prefix_of suffix_length code =
    if suffix_length == 0 then (if nat_lt code 14 then code else if nat_lt code 30 then 14 else 15)
    else if nat_lt code (15 * 2 ^ suffix_length) then code / 2 ^ suffix_length else 15

-- the least levelCode of a prefix
abbrev pub least_code : (suffix_length prefix : ℕ) → ℕ
least_code suffix_length prefix = level_code prefix suffix_length 0 false

-- level_prefix as zeros and a 1, and level_suffix
abbrev pub level_bits : (suffix_length code : ℕ) → List Bool
level_bits suffix_length code =
    let prefix = prefix_of suffix_length code in
    replicate prefix false
    ++ true ∷ bits_of (suffix_size prefix suffix_length)
    (code - least_code suffix_length prefix)

-- The levels that are no trailing ones.
abbrev pub levels_bits : (suffix_length : ℕ) → (above_one : Bool) → List ℤ → List Bool
levels_bits suffix_length above_one [] = []
levels_bits suffix_length above_one (l ∷ values) =
    level_bits suffix_length (code_of_level above_one l)
    ++ levels_bits (next_suffix_length suffix_length l) false values

-- A levelCode that has a codeword: prefix 15 is the last.
abbrev pub IsCode : (suffix_length code : ℕ) → Type 0
IsCode suffix_length code = code < least_code suffix_length 15 + 2 ^ suffix_size 15 suffix_length

-- each level has a codeword, where suffixLength has come to be this (9.2.2.1)
abbrev pub AreCodes : (suffix_length : ℕ) → (above_one : Bool) → List ℤ → Type 0
AreCodes suffix_length above_one [] = Unit {0}
AreCodes suffix_length above_one (l ∷ values) =
    IsCode suffix_length (code_of_level above_one l) ×
    AreCodes (next_suffix_length suffix_length l) false values

-- suffixLength of the first of them
abbrev pub first_length : (total ones : ℕ) → ℕ
first_length total ones = if nat_lt 10 total && nat_lt ones 3 then 1 else 0

-- ---- runs (9.2.3)

-- total_zeros of a block of so many levels, where it isn't full or empty
abbrev pub zeros_bits : (most total n : ℕ) → List Bool
zeros_bits most total n =
    if total == 0 || total == most then [] else or_none (zeros_word total (most == 4) n)

-- One run: the last one and those after the last zero are not coded.
abbrev pub run_bits : (others zeros_left run : ℕ) → List Bool
run_bits zero zeros_left run = []
run_bits (suc others) zero run = []
run_bits (suc others) (suc zeros_left) run = or_none (run_word (suc zeros_left) run)

-- the codewords of the runs, as long as zeros are left (9.2.3)
abbrev pub runs_bits : (zeros_left : ℕ) → List ℕ → List Bool
runs_bits zeros_left [] = []
runs_bits zeros_left (run ∷ runs) =
    run_bits (length runs) zeros_left run ++ runs_bits (zeros_left - run) runs

-- ---- blocks

-- The bits of what is coded of a block of so many levels.
abbrev pub coded_bits : (most : ℕ) → (nc : ℤ) → List (ℤ × ℕ) → List Bool
coded_bits most nc found =
    let values = values_of found in
    let total = length found in
    let ones = ones_first 3 values in
    joined (or_none (token_word nc (token total ones)) ∷ sign_bits ones values ∷ levels_bits
    (first_length total ones) (nat_lt ones 3) (drop ones values)
    ∷ zeros_bits most total (sum (runs_of found)) ∷ runs_bits (sum (runs_of found)) (runs_of found)
    ∷ [])

-- residual_block_cavlc of so many levels (4 for chroma DC, 15 or 16), where nc is -1 for chroma DC.
abbrev pub block_bits : (most : ℕ) → (nc : ℤ) → List ℤ → List Bool
block_bits most nc levels = coded_bits most nc (coded levels)

-- Each level has a codeword.
abbrev pub HasCodes : List (ℤ × ℕ) → Type 0
HasCodes found =
    let values = values_of found in
    let ones = ones_first 3 values in
    AreCodes (first_length (length found) ones) (nat_lt ones 3) (drop ones values)

-- all that is coded of the block has codewords
abbrev pub IsWritable : List ℤ → Type 0
IsWritable levels = HasCodes (coded levels)

-- A block that can be written is read as it was, whatever comes after it.
abbrev pub BlocksAreRead : Type 0
BlocksAreRead =
    (most : ℕ) (nc : ℤ) (levels : List ℤ) (rest : List Bool) → most ≤ 16 →
    (nc <ℤ pos 0 → most ≤ 4) → length levels ≡ most → IsWritable levels →
    ReadsBack rest (residual_block most nc) (block_bits most nc levels) levels

-- Levels up to this size can be written, whatever stands beside them.
abbrev pub SmallAreWritable : Type 0
SmallAreWritable = (levels : List ℤ) → All (λ l. nat_abs l ≤ 2063) levels → IsWritable levels

-- What reading gives can be written, and those are the bits that were read.
pub record IsRewritten (most : ℕ) (nc : ℤ) (b left : Bits) (levels : List ℤ) : Type 0 where
  pub writable : IsWritable levels
  pub ahead : b.ahead ≡ block_bits most nc levels ++ left.ahead

-- A block that was read can be written, and its bits are those that were read.
abbrev pub BlocksAreWritable : Type 0
BlocksAreWritable =
    (most : ℕ) (nc : ℤ) (b left : Bits) (levels : List ℤ) → residual_block most nc b
    ≡ Ok (levels, left) → IsRewritten most nc b left levels

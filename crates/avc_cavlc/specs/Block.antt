-- One residual block of transform coefficient levels (7.3.5.3.2, 9.2).
use Rattle.std.specs.Prelude.{ℕ, zero, suc, ◌+◌, ◌-◌, ◌*◌, ◌/◌, ◌%◌, ◌^◌, ◌≤◌, ℤ, pos, neg_ℤ, ◌≤ℤ◌}
use Rattle.std.specs.Prelude.{nat_abs, Bool, true, false, ◌==◌, ◌&&◌, ◌||◌, nat_lt, nat_le}
use Rattle.std.specs.Prelude.{if◌then◌else◌, List, [], ◌∷◌, ◌++◌, length, reverse, replicate}
use Rattle.std.specs.List.{flat_map, zip}
use Rattle.avc_types.specs.declared.fault.Fault.TheVariants as faults
use Rattle.avc_bits.specs.Bits.{Read, ◌>>=◌, ◌>>◌, give, check, times}
use Rattle.avc_bits.specs.Codes.{u, flag, zeros_before_one}
use Rattle.avc_vlc.specs.declared.coeff_token.Token.{Token}
use Rattle.avc_vlc.specs.Reading.{coeff_token, total_zeros, run_before}

-- ---- levels (9.2.2)

-- a trailing one: its sign bit, trailing_ones_sign_flag (9.2.2)
abbrev pub trailing_one : Read ℤ
trailing_one = flag >>= λ negative. give (if negative then neg_ℤ (pos 1) else pos 1)

-- how many bits level_suffix has: levelSuffixSize (9.2.2)
abbrev pub suffix_size : (prefix suffix_length : ℕ) → ℕ
suffix_size prefix suffix_length =
    if prefix == 14 && suffix_length == 0 then 4 else if prefix == 15 then 12 else suffix_length

-- levelCode: 0, 1, 2, 3, .. stand for 1, -1, 2, -2, .. (9.2.2)
abbrev pub level_of_code : ℕ → ℤ
level_of_code code = if code % 2 == 0 then pos ((code + 2) / 2) else neg_ℤ (pos ((code + 1) / 2))

-- levelCode from level_prefix and level_suffix (9.2.2); above_one: the level is known to be above 1
-- in size
abbrev pub level_code : (prefix suffix_length suffix : ℕ) → (above_one : Bool) → ℕ
level_code prefix suffix_length suffix above_one =
    prefix * 2 ^ suffix_length + suffix + (if prefix == 15 && suffix_length == 0 then 15 else 0)
    + (if above_one then 2 else 0)

-- one level_prefix and level_suffix (9.2.2, 9.2.2.1); a level_prefix above 15, which the profiles
-- taken here don't allow (A.2), is BadCode
abbrev pub level : (suffix_length : ℕ) → (above_one : Bool) → Read ℤ
level suffix_length above_one = do
  prefix ← zeros_before_one 15 faults.BadCode
  suffix ← u (suffix_size prefix suffix_length)
  give (level_of_code (level_code prefix suffix_length suffix above_one))

-- suffixLength for the level after this one (9.2.2)
abbrev pub next_suffix_length : (suffix_length : ℕ) → ℤ → ℕ
next_suffix_length suffix_length l =
    let least = if suffix_length == 0 then 1 else suffix_length in
    if nat_lt least 6 && nat_lt (3 * 2 ^ (least - 1)) (nat_abs l) then least + 1 else least

-- n levels that are no trailing ones (9.2.2)
abbrev pub levels : (n suffix_length : ℕ) → (above_one : Bool) → Read (List ℤ)
levels zero suffix_length above_one = give []
levels (suc n) suffix_length above_one = do
  l ← level suffix_length above_one
  others ← levels n (next_suffix_length suffix_length l) false
  give (l ∷ others)

-- all levels of a token, highest frequency first (9.2.2)
abbrev pub token_levels : Token → Read (List ℤ)
token_levels t = do
  ones ← times t.ones trailing_one
  others ← levels (t.total - t.ones) (if nat_lt 10 t.total && nat_lt t.ones 3 then 1 else 0)
      (nat_lt t.ones 3)
  give (ones ++ others)

-- ---- runs (9.2.3, 9.2.4)

-- The zeros before a coefficient, where so many others come after it: the last one has all that are
-- left, and where none are left the run is not coded (9.2.3).
abbrev pub run : (others zeros_left : ℕ) → Read ℕ
run zero zeros_left = give zeros_left
run (suc others) zero = give 0
run (suc others) (suc zeros_left) = run_before (suc zeros_left)

-- The zeros before each of n coefficients, highest frequency first, where zeros_left zeros
-- are left for them (9.2.3).
abbrev pub runs : (n zeros_left : ℕ) → Read (List ℕ)
runs zero zeros_left = give []
runs (suc n) zeros_left = do
  zeros ← run n zeros_left
  others ← runs n (zeros_left - zeros)
  give (zeros ∷ others)

-- each level after its zeros, from the lowest frequency on (9.2.4)
abbrev pub each_after_zeros : List ℤ → List ℕ → List ℤ
each_after_zeros values zero_runs =
    flat_map (λ p. replicate p.1 (pos 0) ++ p.0 ∷ []) (reverse (zip values zero_runs))

-- the list of max levels: those, then zeros (9.2.4)
abbrev pub placed : (max : ℕ) → List ℤ → List ℕ → List ℤ
placed max values zero_runs =
    let found = each_after_zeros values zero_runs in found ++ replicate (max - length found) (pos 0)

-- residual_block_cavlc with max coefficients (4 for chroma DC, 15 or 16), where nc is -1 for chroma
-- DC (7.3.5.3.2). TooManyCoefficients is this decoder's rule.
abbrev pub residual_block : (max : ℕ) → (nc : ℤ) → Read (List ℤ)
residual_block max nc = do
  t ← coeff_token nc
  check (nat_le t.total max) faults.TooManyCoefficients
  values ← token_levels t
  zeros ← elim (t.total == 0 || t.total == max) [
    | true ↦ give 0
    | false ↦ total_zeros t.total (max == 4)
  ]
  check (nat_le (t.total + zeros) max) faults.TooManyCoefficients
  zero_runs ← runs t.total zeros
  give (placed max values zero_runs)

-- ---- what the levels are (9.2.2)

-- a level that is coded: it is not 0, and its size is at most what the longest code gives (9.2.2)
pub record IsLevel (l : ℤ) : Type 0 where
  pub some : 1 ≤ nat_abs l
  pub most : nat_abs l ≤ 2528

-- a level of a block, coded or 0 (9.2.2)
pub record IsSmall (l : ℤ) : Type 0 where
  pub low : neg_ℤ (pos 2528) ≤ℤ l
  pub high : l ≤ℤ pos 2528

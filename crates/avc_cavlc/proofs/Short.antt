-- Levels whose codewords have seven bits at most.
use Rattle.avc_cavlc.proofs.Levels.{◌≡◌, ◌≢◌, ℕ, zero, suc, ◌+◌, ◌-◌, ◌%◌, ◌≤◌, ◌<◌, ℤ, pos, Bool, true, false, IsTrue, List, [], ◌∷◌, ◌++◌, length, take, drop, map, get_or, replicate, Ok, Err, Result, arith, ap, sym, ◌∙◌, refl, subst, inl, inr, cases_lt, cases_eq, ne_eqb, ints}
use Rattle.avc_cavlc.proofs.Levels.{Bits, Fault, BadCode, Truncated, bits_of, passed, length-drop, length-take-le, take-append-le, before_many, before_short, before_found, u_short, u_long, nat_tests}
use Rattle.avc_cavlc.proofs.Levels.{All, set, to_z, of_z, w16, length-set, take_more_set, all_more, after_level, levels, levels_after}
use Rattle.avc_cavlc.proofs.Levels.{IsLevel, level, level_code, level_code_most, level_of_code, level_long, next_suffix_length, ok_parts, suffix_size, get_or-map-range_with_len}
use Rattle.avc_cavlc.proofs.Levels.{◌>>=◌, ◌&&◌, if◌then◌else◌, times, trailing_one, token_levels, Token}
use Rattle.std.specs.List.{range_with_len}
use Rattle.std.proofs.Common.{min, nat_lt}
use Rattle.std.proofs.lemmas.Bool.{le-ltb}
use Rattle.avc_bits.specs.Bits.{number_of}
use Rattle.avc_bits.specs.Reader.{leading}
use Rattle.avc_bits.proofs.Reading.{number-take_lt}
use Rattle.avc_bits.proofs.Reading.Numbers.{take_front}
use Rattle.avc_cavlc.specs.Steps.{AreShortLevels, left_from, short_level, stage_above, stage_length}
use Rattle.avc_cavlc.specs.declared.level.Level.{Level}

abbrev from : ℕ → List Bool → Bits
from position ahead = record { position = position; ahead = ahead }

-- what is read where the whole codeword stands ahead
whole : (sl : ℕ) (above_one : Bool) (b : Bits) → leading b.ahead ≤ 15 → leading b.ahead + 1 + suffix_size (leading b.ahead) sl ≤ length b.ahead →
    level sl above_one b ≡ Ok (level_of_code (level_code (leading b.ahead) sl (number_of (take (suffix_size (leading b.ahead) sl) (drop (leading b.ahead + 1) b.ahead))) above_one), passed b (leading b.ahead + 1 + suffix_size (leading b.ahead) sl))
whole sl above_one b few long =
    let z = leading b.ahead in
    let size = suffix_size z sl in
    let mid = passed b (z + 1) in
    (level_long sl above_one z (number_of (take size (drop (z + 1) b.ahead))) b mid (passed mid size) (before_found 15 BadCode b few (omega arith)) (u_long size mid (omega (arith, length-drop (z + 1) b.ahead)))).read

-- a level is read only where its whole codeword stands ahead
record Stands (sl : ℕ) (b : Bits) : Type 0 where
  few : leading b.ahead ≤ 15
  long : leading b.ahead + 1 + suffix_size (leading b.ahead) sl ≤ length b.ahead

stands : (sl : ℕ) (above_one : Bool) (b left : Bits) (l : ℤ) → level sl above_one b ≡ Ok (l, left) → Stands sl b
stands sl above_one b left l is = elim (cases_lt 15 (leading b.ahead)) [
  | inl many ↦ let over : level sl above_one b ≡ Err BadCode = rw (before_many 15 BadCode b many) refl in cc
  | inr few ↦ elim (cases_lt (leading b.ahead) (length b.ahead)) [
    | inr none ↦ let over : level sl above_one b ≡ Err Truncated = rw (before_short 15 BadCode b few none) refl in cc
    | inl some ↦ elim (cases_lt (length b.ahead) (leading b.ahead + 1 + suffix_size (leading b.ahead) sl)) [
      | inl short ↦
          let mid = passed b (leading b.ahead + 1) in
          let cut = u_short (suffix_size (leading b.ahead) sl) mid (omega (arith, length-drop (leading b.ahead + 1) b.ahead)) in
          let over : level sl above_one b ≡ Err Truncated = rw (before_found 15 BadCode b few some, cut) refl in
          cc
      | inr long ↦ record { few = few; long = long }
    ]
  ]
]

-- the zeros in front of some bits
leading-take : (n : ℕ) (bits : List Bool) → leading (take n bits) ≡ min (leading bits) n
unfolding leading
leading-take zero bits = omega arith
leading-take (suc n) [] = omega arith
leading-take (suc n) (true ∷ bits) = omega arith
leading-take (suc n) (false ∷ bits) = omega (arith, leading-take n bits)

-- the level of the next seven bits is that of all
pub record IsShort (sl : ℕ) (above_one : Bool) (l : ℤ) (n : ℕ) (b : Bits) : Type 0 where
  pub read : level sl above_one b ≡ Ok (l, passed b n)
  pub few : n ≤ 7

pub short_more : (sl : ℕ) (above_one : Bool) (b left : Bits) (l : ℤ) → 7 ≤ length b.ahead → level sl above_one (from 0 (take 7 b.ahead)) ≡ Ok (l, left) → IsShort sl above_one l left.position b
short_more sl above_one b left l long is =
    let f = from 0 (take 7 b.ahead) in
    let z = leading b.ahead in
    let all = stands sl above_one f left l is in
    let seven : length (take 7 b.ahead) ≡ 7 = length-take-le 7 b.ahead long in
    let same : leading (take 7 b.ahead) ≡ z = omega (arith, leading-take 7 b.ahead, all.long) in
    let here : z + 1 + suffix_size z sl ≤ length (take 7 b.ahead) = let P : ℕ → Type 0 = λ k. k + 1 + suffix_size k sl ≤ length (take 7 b.ahead) in subst P same all.long in
    let fits : z + 1 + suffix_size z sl ≤ 7 = omega (arith, here, seven) in
    let suffix : take (suffix_size z sl) (drop (z + 1) (take 7 b.ahead)) ≡ take (suffix_size z sl) (drop (z + 1) b.ahead) = take_front b.ahead (z + 1) (suffix_size z sl) 7 fits in
    let one : level sl above_one f ≡ Ok (level_of_code (level_code z sl (number_of (take (suffix_size z sl) (drop (z + 1) b.ahead))) above_one), passed f (z + 1 + suffix_size z sl)) =
    rw (← suffix, ← same) (whole sl above_one f all.few all.long) in
    let both = ok_parts (sym one ∙ is) in
    let length_is : z + 1 + suffix_size z sl ≡ left.position = omega (arith, ap (λ x. x.position) both.1) in
    record {
      read = whole sl above_one b (omega (arith, fits)) (omega (arith, fits)) ∙ rw (both.0, length_is) refl;
      few = omega (arith, fits, length_is);
    }

-- ---- how great such a level is

level_is : (code : ℕ) → code ≤ 5055 → IsLevel (level_of_code code)
level_is code most = elim (cases_eq (code % 2) 0) [
  | inl even ↦ rw even (record { some = omega (arith, ints); most = omega (arith, ints) })
  | inr odd ↦ rw (ne_eqb (code % 2) 0 odd) (record { some = omega (arith, ints); most = omega (arith, ints) })
]

pub level_size : (sl : ℕ) (above_one : Bool) (b left : Bits) (l : ℤ) → sl ≤ 6 → (IsTrue above_one → sl ≤ 1) → level sl above_one b ≡ Ok (l, left) → IsLevel l
level_size sl above_one b left l few first is =
    let all = stands sl above_one b left l is in
    let z = leading b.ahead in
    let suffix = number_of (take (suffix_size z sl) (drop (z + 1) b.ahead)) in
    let both = ok_parts (sym (whole sl above_one b all.few all.long) ∙ is) in
    let most : level_code z sl suffix above_one ≤ 5055 = level_code_most z sl suffix above_one all.few few (number-take_lt (suffix_size z sl) (drop (z + 1) b.ahead)) first in
    subst IsLevel both.0 (level_is (level_code z sl suffix above_one) most)

-- ---- the stages

pub length_few : (stage : ℕ) → stage < 9 → stage_length stage ≤ 6
length_few stage within = grind (arith, nat_tests)

pub above_first : (stage : ℕ) → stage < 9 → IsTrue (stage_above stage) → stage_length stage ≤ 1
above_first stage within above = grind (arith, nat_tests)

pub next_few : (sl : ℕ) (l : ℤ) → sl ≤ 6 → next_suffix_length sl l ≤ 6
next_few sl l few = grind (arith, nat_tests)

-- the stage of a level that comes after others
pub later_length : (stage : ℕ) → stage ≤ 6 → stage_length stage ≡ stage
later_length stage few = grind (arith, nat_tests)

pub later_above : (stage : ℕ) → stage ≤ 6 → stage_above stage ≡ false
later_above stage few = le-ltb 6 stage few

-- ---- the tables

pub there : (tables : List (List Level)) (stage bits : ℕ) (none : Level) → AreShortLevels tables → stage < 9 → bits < 128 → get_or (get_or tables stage []) bits none ≡ short_level stage bits
there tables stage bits none are within seven =
    ap (λ t. get_or (get_or t stage []) bits none) (sym are.same)
    ∙ ap (λ t. get_or t bits none) (get_or-map-range_with_len (λ stage. map (short_level stage) (range_with_len 0 128)) 0 9 stage stage [] within (omega arith))
    ∙ get_or-map-range_with_len (short_level stage) 0 128 bits bits none seven (omega arith)

-- what a table's entry reads
pub record Reads7 (stage : ℕ) (e : Level) (b : Bits) : Type 0 where
  pub read : level (stage_length stage) (stage_above stage) b ≡ Ok (e.value, passed b e.length)
  pub few : e.length ≤ 7
  pub next : e.next ≡ next_suffix_length (stage_length stage) e.value

pub entry_reads : (stage n : ℕ) (e : Level) (b : Bits) → 7 ≤ length b.ahead → bits_of 7 n ≡ take 7 (b.ahead ++ replicate 7 false) → e ≡ short_level stage n → e.length ≢ 0 → Reads7 stage e b
unfolding short_level
entry_reads stage n e b long same is some = by (level (stage_length stage) (stage_above stage) (from 0 (bits_of 7 n))) refl
  where
    front : bits_of 7 n ≡ take 7 b.ahead
    front = same ∙ take-append-le 7 b.ahead (replicate 7 false) long

    by : (r : Result (ℤ × Bits) Fault) → level (stage_length stage) (stage_above stage) (from 0 (bits_of 7 n)) ≡ r → Reads7 stage e b
    by (Ok r) read =
        let entry : e ≡ record { value = r.0; length = r.1.position; next = next_suffix_length (stage_length stage) r.0 } = is ∙ ap (λ x. elim x [ Ok r ↦ record { value = r.0; length = r.1.position; next = next_suffix_length (stage_length stage) r.0 } | Err f ↦ record { value = pos 0; length = 0; next = 0 } ]) read in
        let s = short_more (stage_length stage) (stage_above stage) b r.1 r.0 long (ap (λ l. level (stage_length stage) (stage_above stage) (from 0 l)) (sym front) ∙ read) in
        subst (λ x. Reads7 stage x b) (sym entry) (record { read = s.read; few = s.few; next = refl })
    by (Err f) read =
        let entry : e ≡ record { value = pos 0; length = 0; next = 0 } = is ∙ ap (λ x. elim x [ Ok r ↦ record { value = r.0; length = r.1.position; next = next_suffix_length (stage_length stage) r.0 } | Err f ↦ record { value = pos 0; length = 0; next = 0 } ]) read in
        absurd (some (ap (λ x. x.length) entry))

-- ---- one level more

-- one level more stands in the array
pub record IsOneMore (values : List ℤ) (total k next : ℕ) (b : Bits) (all : Result (List ℤ × Bits) Fault) : Type 0 where
  pub long : length values ≡ 16
  pub read : all ≡ left_from (take k values) (total - k) next b
  pub size : All IsLevel (take k values)
  pub stage : next < 9

pub one_more : (values : List ℤ) (total k stage next : ℕ) (b mid : Bits) (all : Result (List ℤ × Bits) Fault) (l : ℤ) → IsOneMore values total k stage b all → k < total → total ≤ 16 →
    level (stage_length stage) (stage_above stage) b ≡ Ok (l, mid) → IsLevel l → next ≡ next_suffix_length (stage_length stage) l → IsOneMore (set values k (to_z w16 (of_z w16 l))) total (k + 1) next mid all
one_more values total k stage next b mid all l are some few is_level is_small is =
    let n = total - (k + 1) in
    let sl = stage_length stage in
    let left : total - k ≡ suc n = omega arith in
    let within : k < length values = omega (arith, are.long) in
    let back : to_z w16 (of_z w16 l) ≡ l = omega (arith, ints, is_small.most) in
    let small : next ≤ 6 = omega (arith, is, next_few sl l (length_few stage are.stage)) in
    let step : left_from (take k values) (total - k) stage b ≡ levels_after (take k values ++ l ∷ []) n (next_suffix_length sl l) false mid =
    rw (left, is_level) (after_level (levels n (next_suffix_length sl l) false mid) (take k values) l mid) in
    rw back (record {
      long = length-set values k l ∙ are.long;
      read = are.read ∙ step ∙ rw (later_length next small, later_above next small, is, take_more_set values k l within) refl;
      size = all_more IsLevel values k l within are.size is_small;
      stage = omega (arith, small);
    })

-- the levels behind the trailing ones
pub first_levels : (t : Token) (ones : List ℤ) (stage : ℕ) (b after : Bits) → times t.ones trailing_one b ≡ Ok (ones, after) →
    stage_length stage ≡ (if nat_lt 10 t.total && nat_lt t.ones 3 then 1 else 0) → stage_above stage ≡ nat_lt t.ones 3 → token_levels t b ≡ left_from ones (t.total - t.ones) stage after
first_levels t ones stage b after is is_length is_above =
    let first = if nat_lt 10 t.total && nat_lt t.ones 3 then 1 else 0 in
    ap (λ r. ((λ _. r) >>= (λ ones. levels_after ones (t.total - t.ones) first (nat_lt t.ones 3))) b) is
    ∙ ap (λ sl. levels_after ones (t.total - t.ones) sl (nat_lt t.ones 3) after) (sym is_length)
    ∙ ap (λ above. levels_after ones (t.total - t.ones) (stage_length stage) above after) (sym is_above)

-- Chroma samples between whole ones by two steps: along rows, then between two rows (8.4.2.2.2).
use Rattle.std.specs.Prelude.{ℕ, ◌+◌, ◌*◌, ◌-◌, ◌/◌, ◌<◌, ◌≤◌, ◌≡◌, List, length, slice_index}

-- two numbers, so many eighths of the way from the first to the second, in eighths
abbrev pub share_of : (by first second : ℕ) → ℕ
share_of by first second = (8 - by) * first + by * second

-- a sample and that right of it
abbrev pub along : (right : ℕ) → List ℕ → (at : ℕ) → ℕ
along right p at = share_of right (slice_index p at) (slice_index p (at + 1))

-- of two rows, in whole samples
abbrev pub rounded_share : (by first second : ℕ) → ℕ
rounded_share by first second = (share_of by first second + 32) / 64

-- a sample, that right of it and the two below them
abbrev pub eighth_at : (right down stride : ℕ) → List ℕ → (at : ℕ) → ℕ
eighth_at right down stride p at =
    rounded_share down (along right p at) (along right p (at + stride))

-- sixteen numbers of eighths of samples
abbrev pub AreShares : List ℕ → Type 0
AreShares row = (k : ℕ) → k < 16 → slice_index row k ≤ 2040

-- the first eight numbers are those of eight samples of one list, the others those of another
pub record AreAlong (right : ℕ) (cb : List ℕ) (i : ℕ) (cr : List ℕ) (j : ℕ) (row : List ℕ) :
    Type 0 where
  pub first : (x : ℕ) → x < 8 → slice_index row x ≡ along right cb (i + x)
  pub second : (x : ℕ) → x < 8 → slice_index row (8 + x) ≡ along right cr (j + x)
  pub small : AreShares row

-- so many samples of a row are set, and nothing else has changed
pub record IsLineSet (width start : ℕ) (f : ℕ → ℕ) (old new : List ℕ) : Type 0 where
  pub long : length new ≡ length old
  pub here : (x : ℕ) → x < width → slice_index new (start + x) ≡ f x
  pub before : (j : ℕ) → j < start → slice_index new j ≡ slice_index old j
  pub behind : (j : ℕ) → start + width ≤ j → slice_index new j ≡ slice_index old j

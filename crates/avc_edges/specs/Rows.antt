-- The lines of an edge, whose samples stand in rows of sixteen: a row for each distance from it.
use Rattle.std.specs.Prelude.{◌≡◌, ℕ, ◌+◌, ◌*◌, ◌/◌, ◌<◌, ◌≤◌, ◌==◌}
use Rattle.std.specs.Prelude.{◌≤ℤ◌, ◌<ℤ◌, ℤ, pos, ◌+ℤ◌, ◌-ℤ◌, neg_ℤ}
use Rattle.std.specs.Prelude.{Bool, if◌then◌else◌, List, slice_index}
use Rattle.avc_types.specs.Arithmetic.{◌>>ℤ◌, ◌<<ℤ◌, clip3}
use Rattle.avc_edges.specs.Line.{Line, Setting}

-- the eight samples across an edge (8.7.1)
abbrev pub line : (p3 p2 p1 p0 q0 q1 q2 q3 : ℕ) → Line
line p3 p2 p1 p0 q0 q1 q2 q3 =
    record { p0 = p0; p1 = p1; p2 = p2; p3 = p3; q0 = q0; q1 = q1; q2 = q2; q3 = q3 }

-- line i of eight rows
abbrev pub line_of_rows : (p3 p2 p1 p0 q0 q1 q2 q3 : List ℕ) → ℕ → Line
line_of_rows p3 p2 p1 p0 q0 q1 q2 q3 i =
    line (slice_index p3 i) (slice_index p2 i) (slice_index p1 i) (slice_index p0 i)
    (slice_index q0 i) (slice_index q1 i) (slice_index q2 i) (slice_index q3 i)

-- line i of six rows, between two samples that stand further off
abbrev pub line_within : (p3 q3 : ℕ) → (p2 p1 p0 q0 q1 q2 : List ℕ) → ℕ → Line
line_within p3 q3 p2 p1 p0 q0 q1 q2 i =
    line p3 (slice_index p2 i) (slice_index p1 i) (slice_index p0 i)
    (slice_index q0 i) (slice_index q1 i) (slice_index q2 i) q3

-- A setting of luma, or of chroma, at a strength below 4, has this tC0 and these thresholds; alpha
-- is 0 at strength 0, where nothing is filtered (8.7.2.3).
pub record IsWeak (is_luma : Bool) (s : Setting) (alpha beta tc0 : ℕ) : Type 0 where
  pub component : s.is_luma ≡ is_luma
  pub weak : s.strength < 4
  pub alpha_is : alpha ≡ (if s.strength == 0 then 0 else s.alpha)
  pub beta_is : beta ≡ s.beta
  pub tc0_is : tc0 ≡ s.tc0

-- what p0 would gain and q0 lose, before it is held between limits
abbrev pub slope : (p1 p0 q0 q1 : ℕ) → ℤ
slope p1 p0 q0 q1 = ((pos q0 -ℤ pos p0 <<ℤ 2) +ℤ (pos p1 -ℤ pos q1)) +ℤ pos 4 >>ℤ 3

-- what p1 would gain
abbrev pub bend : (p2 p1 p0 q0 : ℕ) → ℤ
bend p2 p1 p0 q0 = pos p2 +ℤ pos ((p0 + q0 + 1) / 2) -ℤ pos (2 * p1) >>ℤ 1

-- z, held between -limit and limit (Clip3, 8.7.2.3)
abbrev pub held : ℕ → ℤ → ℤ
held limit z = clip3 (neg_ℤ (pos limit)) (pos limit) z

-- the byte is 161 more than z, or 255 where that is less
pub record IsBiased (step : ℕ) (z : ℤ) : Type 0 where
  pub below : z ≤ℤ pos 94 → pos step ≡ pos 161 +ℤ z
  pub above : pos 94 <ℤ z → step ≡ 255

-- luma, or chroma, at strength 4, with these alpha and beta (8.7.2.4)
pub record IsStrong (is_luma : Bool) (s : Setting) (alpha beta : ℕ) : Type 0 where
  pub component : s.is_luma ≡ is_luma
  pub strong : s.strength ≡ 4
  pub alpha_is : alpha ≡ s.alpha
  pub beta_is : beta ≡ s.beta

-- the line whose samples are f(0), .., f(7), from p3 to q3
abbrev pub line_of : (ℕ → ℕ) → Line
line_of f = line (f 0) (f 1) (f 2) (f 3) (f 4) (f 5) (f 6) (f 7)

-- line i of a block of sixteen rows of eight samples, across a vertical edge in its middle
abbrev pub line_across : List ℕ → ℕ → Line
line_across t i = line_of (λ k. slice_index t (8 * i + k))

-- line i of eight rows of sixteen samples f(0), f(1), .., across a horizontal edge in their middle
abbrev pub line_down : (ℕ → ℕ) → ℕ → Line
line_down f i = line_of (λ k. f (16 * k + i))

-- the samples of a table from a place on
abbrev pub samples_at : (from : ℕ) → List ℕ → ℕ → ℕ
samples_at from t k = slice_index t (from + k)

-- u is t but for the samples from the first on, up to the end
pub record IsKeptOutside (first end : ℕ) (t u : List ℕ) : Type 0 where
  pub before : (k : ℕ) → k < first → slice_index u k ≡ slice_index t k
  pub behind : (k : ℕ) → end ≤ k → slice_index u k ≡ slice_index t k

-- u is t with these n samples at the place from
pub record AreSet (n from : ℕ) (samples t u : List ℕ) : Type 0 where
  pub inside : (k : ℕ) → k < n → slice_index u (from + k) ≡ slice_index samples k
  pub others : IsKeptOutside from (from + n) t u

-- of eight such rows the four in the middle may change, and nothing else
abbrev pub IsInnerSet : (from : ℕ) → (t u : List ℕ) → Type 0
IsInnerSet from t u = IsKeptOutside (from + 32) (from + 96) t u

-- u has the halves of the table t, which have so many samples, one sample of each in turn
pub record IsRiffled (half : ℕ) (t u : List ℕ) : Type 0 where
  pub even : (k : ℕ) → k < half → slice_index u (2 * k) ≡ slice_index t k
  pub odd : (k : ℕ) → k < half → slice_index u (2 * k + 1) ≡ slice_index t (half + k)

-- the columns of the sixteen rows of t, of so many samples, are the rows of u
abbrev pub IsTransposed : (columns : ℕ) → (t u : List ℕ) → Type 0
IsTransposed columns t u =
    (r c : ℕ) → r < 16 → c < columns →
    slice_index u (16 * c + r) ≡ slice_index t (columns * r + c)

-- ---- chroma

-- line i of four rows, between samples that stand further off
abbrev pub line_inside : (p3 p2 q2 q3 : ℕ) → (p1 p0 q0 q1 : List ℕ) → ℕ → Line
line_inside p3 p2 q2 q3 p1 p0 q0 q1 i =
    line p3 p2 (slice_index p1 i) (slice_index p0 i) (slice_index q0 i) (slice_index q1 i) q2 q3

-- line i of four rows of sixteen samples that stand from a place of a table on, between samples
-- that stand further off
abbrev pub line_near : (p3 p2 q2 q3 : ℕ) → (t : List ℕ) → (from i : ℕ) → Line
line_near p3 p2 q2 q3 t from i =
    line p3 p2 (slice_index t (from + i)) (slice_index t (from + 16 + i))
    (slice_index t (from + 32 + i)) (slice_index t (from + 48 + i)) q2 q3

-- of four such rows the two in the middle may change, and nothing else
abbrev pub IsNearSet : (from : ℕ) → (t u : List ℕ) → Type 0
IsNearSet from t u = IsKeptOutside (from + 16) (from + 48) t u

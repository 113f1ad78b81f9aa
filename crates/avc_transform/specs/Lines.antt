-- Four lines of four numbers, such as the columns of a 4x4 block or its rows.
use Rattle.std.specs.Prelude.{ℕ, ◌<◌, ◌≡◌, ℤ, pos, List, slice_index_or}
use Rattle.avc_transform.specs.Bounds.{AllBelow}
use Rattle.avc_transform.specs.declared.lines.Lines.{Lines}

-- number k of a list of four is f k, for each of them
abbrev pub IsLine : (ℕ → ℤ) → List ℤ → Type 0
IsLine f l = (k : ℕ) → k < 4 → slice_index_or l k (pos 0) ≡ f k

-- number y of line x is f x y
pub record AreLines (f : ℕ → ℕ → ℤ) (l : Lines) : Type 0 where
  pub zeroth : IsLine (f 0) l.d0
  pub first : IsLine (f 1) l.d1
  pub second : IsLine (f 2) l.d2
  pub third : IsLine (f 3) l.d3

-- each number is smaller than n
pub record AreBelow (n : ℕ) (l : Lines) : Type 0 where
  pub zeroth : AllBelow 4 n l.d0
  pub first : AllBelow 4 n l.d1
  pub second : AllBelow 4 n l.d2
  pub third : AllBelow 4 n l.d3

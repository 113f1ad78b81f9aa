-- One line across an edge, in a plane of samples, ITU-T H.264 clause 8.7.2.
use Rattle.std.specs.Prelude.{ℕ, ◌+◌, ◌-◌, Bool, true, false}
use Rattle.avc_plane.specs.Plane.{Plane, sample, with_sample, HasRectangle}
use Rattle.avc_edges.specs.Line.{Line, Setting, filtered}

-- p0 to p3 and q0 to q3 of the line across a vertical or a horizontal edge at (x, y) (8.7.2)
abbrev pub line_at : Plane → Bool → ℕ → ℕ → Line
line_at s true x y = record {
  p0 = sample s (x - 1) y;
  p1 = sample s (x - 2) y;
  p2 = sample s (x - 3) y;
  p3 = sample s (x - 4) y;
  q0 = sample s x y;
  q1 = sample s (x + 1) y;
  q2 = sample s (x + 2) y;
  q3 = sample s (x + 3) y;
}
line_at s false x y = record {
  p0 = sample s x (y - 1);
  p1 = sample s x (y - 2);
  p2 = sample s x (y - 3);
  p3 = sample s x (y - 4);
  q0 = sample s x y;
  q1 = sample s x (y + 1);
  q2 = sample s x (y + 2);
  q3 = sample s x (y + 3);
}

-- s with the line in its place; the outermost samples of a line never change (8.7.2)
abbrev pub with_line : Plane → Bool → ℕ → ℕ → Line → Plane
with_line s true x y l =
    with_sample (with_sample (with_sample (with_sample (with_sample (with_sample s
    (x - 3) y l.p2) (x - 2) y l.p1) (x - 1) y l.p0) x y l.q0) (x + 1) y l.q1) (x + 2) y l.q2
with_line s false x y l =
    with_sample (with_sample (with_sample (with_sample (with_sample (with_sample s
    x (y - 3) l.p2) x (y - 2) l.p1) x (y - 1) l.p0) x y l.q0) x (y + 1) l.q1) x (y + 2) l.q2

-- the plane after one line filter (8.7.2)
abbrev pub line_filtered : Setting → Bool → ℕ → ℕ → Plane → Plane
line_filtered setting is_vertical x y s =
    with_line s is_vertical x y (filtered setting (line_at s is_vertical x y))

-- a coordinate of what lies k samples behind p3 on a line, where that of p3 is z: that across the
-- edge, or that along it
abbrev pub place : (is_across : Bool) → (z k : ℕ) → ℕ
place true z k = z + k
place false z k = z

-- the sixteen lines of an edge of which the first has p3 at (left, top) lie in a plane
abbrev pub HasLines : (is_vertical : Bool) → (left top : ℕ) → Plane → Type 0
HasLines true left top s = HasRectangle left top 8 16 s
HasLines false left top s = HasRectangle left top 16 8 s

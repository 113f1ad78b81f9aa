-- Which samples around the blocks of a macroblock an intra prediction may read, ITU-T H.264 clauses
-- 6.4.12 and 8.3.1.2.
use Rattle.std.specs.Prelude.{◌≡◌, ℕ, ◌+◌, ◌<◌, ◌≤◌, ℤ, pos, negsuc, ◌+ℤ◌, ◌-ℤ◌, nat_lt, Bool, true}
use Rattle.std.specs.Prelude.{false, not, ◌||◌, if◌then◌else◌}
use Rattle.avc_neigh.specs.Around.{Around, is_intra_info}
use Rattle.avc_neigh.specs.Blocks.{block_x, block_y, block_at}
use Rattle.avc_neigh.specs.Laws.{holds_of}
use Rattle.avc_intra.specs.declared.sides.Sides.{Sides}
use Rattle.avc_picture_core.specs.declared.sides.ReadableNeighbours.{ReadableNeighbours}

-- the neighbours that are there and, where constrained_intra_pred_flag asks for that, intra
abbrev pub readable_near : (constrained_intra_pred : Bool) → Around → ReadableNeighbours
readable_near constrained n = record {
  a = holds_of (λ f. not constrained || is_intra_info f) n.a;
  b = holds_of (λ f. not constrained || is_intra_info f) n.b;
  c = holds_of (λ f. not constrained || is_intra_info f) n.c;
  d = holds_of (λ f. not constrained || is_intra_info f) n.d;
}

-- Block k may read the sample (x, y), counted from the upper left one of the macroblock: of a
-- neighbour (Table 6-4), or of the macroblock's own blocks before it.
abbrev pub is_readable : ReadableNeighbours → (k : ℕ) → (x y : ℤ) → Bool
is_readable r k (pos x) (pos y) = if nat_lt x 16 then nat_lt (block_at x y) k else false
is_readable r k (negsuc _) (pos y) = r.a
is_readable r k (pos x) (negsuc _) = if nat_lt x 16 then r.b else r.c
is_readable r k (negsuc _) (negsuc _) = r.d

-- the sides of block k that are readable, by where the four samples beside its corners lie (6.4.12)
abbrev pub readable_sides : ReadableNeighbours → (k : ℕ) → Sides
readable_sides r k =
    let x = pos (block_x k) in
    let y = pos (block_y k) in
    record {
      above = is_readable r k x (y -ℤ pos 1);
      above_right = is_readable r k (x +ℤ pos 4) (y -ℤ pos 1);
      left = is_readable r k (x -ℤ pos 1) y;
      corner = is_readable r k (x -ℤ pos 1) (y -ℤ pos 1);
    }

-- The sides of the block at (left, top) of a plane that is so wide lie in the plane.
pub record AreInside (left top width : ℕ) (sides : Sides) : Type 0 where
  pub above : sides.above ≡ true → 0 < top
  pub above_right : sides.above_right ≡ true → (0 < top) × (left + 8 ≤ width)
  pub before : sides.left ≡ true → 0 < left
  pub corner : sides.corner ≡ true → (0 < left) × (0 < top)

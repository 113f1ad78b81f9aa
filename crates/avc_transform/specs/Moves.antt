-- What residuals change samples by, as what raises them and what lowers them.
use Rattle.std.specs.Prelude.{ℕ, ◌<◌, ◌≡◌, ℤ, pos, ◌-ℤ◌, slice_index}
use Rattle.avc_types.specs.Arithmetic.{clip1}
use Rattle.avc_transform.specs.declared.construction.Moves.{Moves}

-- Sample i is changed by the residual f i: raised by it, or lowered by what it is below 0, and by
-- 255 at most, which is as far as a sample can go (8.5.14).
pub record AreMovesOf (f : ℕ → ℤ) (m : Moves) : Type 0 where
  pub rises : (i : ℕ) → i < 16 → slice_index m.rises i ≡ clip1 (f i)
  pub falls : (i : ℕ) → i < 16 → slice_index m.falls i ≡ clip1 (pos 0 -ℤ f i)

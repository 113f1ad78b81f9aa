-- The padded rows of a plane, while they are lent to be changed.
use Rattle.std.specs.Prelude.{ℕ, List, slice_index_or}
use Rattle.std.specs.Borrow.{Lends, MutBor, Fml, RattleType, Array, u8}
use Rattle.avc_plane.specs.Plane.{Plane, plane_of, sample}
use Rattle.avc_plane.specs.Padded.{stored_place}
use Rattle.avc_plane.specs.contracts.plane.Plane.{the_row}

-- p with the samples that its padded rows then have, and beyond their end its own
abbrev pub with_rows : (pad : ℕ) → Plane → List ℕ → Plane
with_rows pad p rows =
    plane_of p.width p.height
    (λ x y. slice_index_or rows (stored_place pad p.width x y) (sample p x y))

-- p ends with the samples that the rows behind r have last
abbrev pub lends_rows : RattleType → (pad : ℕ) → MutBor Plane → MutBor (List ℕ) → Fml
lends_rows PAD pad p r = Lends (the_row PAD) (Array u8 0) p r (with_rows pad p.now)

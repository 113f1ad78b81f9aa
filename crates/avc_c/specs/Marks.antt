-- The caller's own values of units.
use Rattle.std.specs.Prelude.{ℕ, List, [], ◌∷◌, take, ◌==◌, nat_le, if◌then◌else◌, Option, Some}
use Rattle.std.specs.Prelude.{None}
use Rattle.avc_c.specs.declared.marks.Mark.{Mark}

-- the marks, of which the newest is the first, less that one where it is of this unit
abbrev pub without_newest_of : (unit : ℕ) → List Mark → List Mark
without_newest_of unit [] = []
without_newest_of unit (newest ∷ older) = if newest.unit == unit then older else newest ∷ older

-- the marks with a new one, which takes the place of one of the same unit; of more than 1,024 the
-- oldest goes
abbrev pub with_mark : Mark → List Mark → List Mark
with_mark mark marks = take 1024 (mark ∷ without_newest_of mark.unit marks)

-- the mark of a unit: the newest at it or before it
abbrev pub mark_of : List Mark → (unit : ℕ) → Option Mark
mark_of [] unit = None
mark_of (newest ∷ older) unit = if nat_le newest.unit unit then Some newest else mark_of older unit

-- its value; 0 where there is none
abbrev pub value_of : List Mark → (unit : ℕ) → ℕ
value_of marks unit = elim (mark_of marks unit) [ None ↦ 0 | Some mark ↦ mark.value ]

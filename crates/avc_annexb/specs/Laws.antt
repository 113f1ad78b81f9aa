-- What more bytes do to the units, and which units a stream has that is written of units.
use Rattle.std.specs.Prelude.{◌≡◌, ℕ, ◌+◌, ◌-◌, ◌^◌, ◌<◌, ◌≤◌, List, ◌++◌, length, map, drop}
use Rattle.std.specs.Prelude.{flat_map, slice_get, All}
use Rattle.std.specs.Prelude.{Bool, true, false, nat_le, IsTrue, Option, Some, None, is_some}
use Rattle.avc_annexb.specs.declared.unit.Unit.{Unit}
use Rattle.avc_annexb.specs.Units.{saturated, units}
use Rattle.avc_annexb.specs.Written.{start_code, written}

-- The units whose end has been seen stay the first ones, whatever follows them, and whether the
-- stream ends or not.
abbrev pub UnitsStay : Type 0
UnitsStay = (max : ℕ) (bytes more : List ℕ) (ended : Bool) → (others : List Unit) ×
    (units max (bytes ++ more) ended ≡ units max bytes false ++ others)

-- what a unit says: its first byte, and the others unless it is too long
abbrev pub contents : Unit → ℕ × Option (List ℕ)
contents u = (u.header, u.body)

-- one of the units of the stream, and not too long
pub record IsUnitOf (max : ℕ) (bytes : List ℕ) (u : Unit) : Type 0 where
  pub place : ℕ
  pub is_there : slice_get (units max bytes true) place ≡ Some u
  pub short : IsTrue (is_some u.body)

-- A stream that is written of units of a stream, and then goes on with that stream from one of its
-- units, has these units, and then those from that one on; the offset of that one is below the
-- greatest u64, so not cut off.
abbrev pub WrittenUnitsStand : Type 0
WrittenUnitsStand =
    (max : ℕ) (bytes : List ℕ) (ended : Bool) (written_units : List Unit) (k : ℕ) (u : Unit) →
    All (IsUnitOf max bytes) written_units →
    slice_get (units max bytes ended) k ≡ Some u →
    u.offset < 2 ^ 64 - 1 →
    map contents (units max (flat_map written written_units ++ start_code ++ drop u.offset bytes)
    ended)
    ≡ map contents written_units ++ map contents (drop k (units max bytes ended))

-- a body, where the unit has so many bytes at most, the first one counted
abbrev pub body_within : (max : ℕ) → Option (List ℕ) → Option (List ℕ)
body_within max None = None
body_within max (Some body) =
    elim (nat_le (1 + length body) max) [
      | true ↦ Some body
      | false ↦ None
    ]

-- what a unit says where a unit has so many bytes at most
abbrev pub contents_within : (max : ℕ) → Unit → ℕ × Option (List ℕ)
contents_within max u = (u.header, body_within max u.body)

-- the unit where a unit has so many bytes at most
abbrev pub unit_within : (max : ℕ) → Unit → Unit
unit_within max u = record u { body = body_within max u.body }

-- A stream that is written of units of a stream alone, each whole, has these units.
abbrev pub WrittenUnitsStandAlone : Type 0
WrittenUnitsStandAlone =
    (limit max : ℕ) (bytes : List ℕ) (written_units : List Unit) →
    All (IsUnitOf limit bytes) written_units →
    map contents (units max (flat_map written written_units) true)
    ≡ map (contents_within max) written_units

-- The same bytes have the same units, whatever the most bytes of one are, but for the bodies of
-- longer ones.
abbrev pub UnitsAreWithin : Type 0
UnitsAreWithin =
    (limit max : ℕ) (bytes : List ℕ) (ended : Bool) → length bytes ≤ limit →
    units max bytes ended ≡ map (unit_within max) (units limit bytes ended)

-- The same of what they say.
abbrev pub LimitsCutUnits : Type 0
LimitsCutUnits =
    (limit max : ℕ) (bytes : List ℕ) (ended : Bool) → length bytes ≤ limit →
    map contents (units max bytes ended) ≡ map (contents_within max) (units limit bytes ended)

-- A unit of a stream that has no more bytes than one may have is not too long.
abbrev pub UnitsAreWhole : Type 0
UnitsAreWhole =
    (limit : ℕ) (bytes : List ℕ) (ended : Bool) → length bytes ≤ limit →
    All (λ u. IsTrue (is_some u.body)) (units limit bytes ended)

-- The number of a unit is its place.
abbrev pub UnitsAreNumbered : Type 0
UnitsAreNumbered =
    (max : ℕ) (bytes : List ℕ) (ended : Bool) (n : ℕ) (u : Unit) →
    slice_get (units max bytes ended) n ≡ Some u → u.index ≡ saturated n

-- A stream has no more units than bytes.
abbrev pub UnitsAreFew : Type 0
UnitsAreFew =
    (max : ℕ) (bytes : List ℕ) (ended : Bool) → length (units max bytes ended) ≤ length bytes

-- Planes that are left over of pictures that are over, in which later pictures are decoded.
use Rattle.std.specs.Prelude.{◌≡◌, ℕ, ◌+◌, ◌*◌, ◌==◌, nat_lt, if◌then◌else◌, Bool, ◌&&◌, List, []}
use Rattle.std.specs.Prelude.{◌∷◌, ◌++◌, length, Option, Some, None, IsSomeAnd, ◌⊎◌}
use Rattle.std.specs.List.{sum_by}
use Rattle.avc_plane.specs.Plane.{Plane}
use Rattle.avc_plane.specs.Planes.{Planes, empty_planes}
use Rattle.avc_plane.specs.Frames.{AreSized}

-- Closed planes, each in its place, in the order in which they came, and open ones: those of a
-- picture that became no frame.
pub record Spare : Type 0 where
  pub closed : List (Option Planes)
  pub open_planes : Option Planes

-- before any picture is over
abbrev pub no_spare : Spare
no_spare = record { closed = []; open_planes = None }

-- so many closed ones are kept at most
abbrev pub most_closed : ℕ
most_closed = 17

-- with closed planes more, where there is room for them
abbrev pub with_closed : Planes → Spare → Spare
with_closed p s =
    if nat_lt (length s.closed) most_closed then record s { closed = s.closed ++ Some p ∷ [] }
    else s

-- with these open ones
abbrev pub with_open : Planes → Spare → Spare
with_open p s = record s { open_planes = Some p }

-- the plane has this many columns and rows
abbrev pub has_size : (width height : ℕ) → Plane → Bool
has_size width height p = p.width == width && p.height == height

-- planes of a picture of this size in macroblocks, as a test
abbrev pub is_sized : (width height : ℕ) → Planes → Bool
is_sized width height s =
    has_size (16 * width) (16 * height) s.luma && has_size (8 * width) (8 * height) s.cb
    && has_size (8 * width) (8 * height) s.cr

-- open planes of this size in macroblocks are left over
abbrev pub HasOpen : (width height : ℕ) → Spare → Type 0
HasOpen width height s = IsSomeAnd s.open_planes (λ p. AreSized width height p)

-- 1 where a place has planes of this size in macroblocks
abbrev pub one_if_sized : (width height : ℕ) → Option Planes → ℕ
one_if_sized width height None = 0
one_if_sized width height (Some p) = if is_sized width height p then 1 else 0

-- how many of these places have planes of this size
abbrev pub count_sized : (width height : ℕ) → List (Option Planes) → ℕ
count_sized width height places = sum_by (λ place. one_if_sized width height place) places

-- how many planes of this size are left over, closed and open ones
abbrev pub left_over : (width height : ℕ) → Spare → ℕ
left_over width height s =
    one_if_sized width height s.open_planes + count_sized width height s.closed

-- Planes of this size were had: one of those that are left over is used again, or all of them stay
-- and the planes are new.
abbrev pub AreHad : (width height : ℕ) → (old new : Spare) → Planes → Type 0
AreHad width height old new p =
    (left_over width height old ≡ left_over width height new + 1)
    ⊎ ((left_over width height old ≡ left_over width height new) × (p ≡ empty_planes width height))

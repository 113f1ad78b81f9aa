-- A picture in C's memory.
use Rattle.std.specs.Prelude.{◌≡◌, ℕ, ◌<◌, ◌≤◌, List, [], ◌∷◌, ◌++◌, length, drop, Option, Some}
use Rattle.std.specs.Prelude.{None, slice_get}
use Rattle.avc_types.specs.declared.picture.Picture.{Picture}
use Rattle.avc_yuv.specs.Copying.{laid, plane_room, shown_rows, window_of}
use Rattle.avc_yuv.specs.I420.{i420}
use Rattle.avc_plane.specs.declared.component.Component.{Component}
use Rattle.avc_plane.specs.declared.component.Component.TheVariants.{Luma, Cb, Cr}
use Rattle.avc_c_picture.specs.Statuses.{number_of}
use Rattle.avc_c_picture.specs.declared.status.Status.TheVariants.{Ok, NoPicture, NoPlane, NoRoom}

-- the component of a plane's number
abbrev pub component_of : (plane : ℕ) → Option Component
component_of plane = slice_get (Luma ∷ Cb ∷ Cr ∷ []) plane

-- The picture stands at the front as I420, and what is behind it stays; or there was no room and
-- nothing changed.
pub record IsI420Written (p : Picture) (old : List ℕ) (status : ℕ) (new : List ℕ) : Type 0 where
  pub enough : length (i420 p) ≤ length old → (status ≡ number_of Ok) ×
      (new ≡ i420 p ++ drop (length (i420 p)) old)
  pub short : length old < length (i420 p) → (status ≡ number_of NoRoom) × (new ≡ old)

-- The rows of a component stand in memory, `stride` bytes from one to the next, and all other bytes
-- stay; or the rows would overlap, or there was no room, and nothing changed.
pub record IsComponentWritten (p : Picture) (c : Component) (old : List ℕ) (stride status : ℕ)
    (new : List ℕ) : Type 0 where
  pub enough : (window_of p c).width ≤ stride → plane_room p c stride ≤ length old →
      (status ≡ number_of Ok) × (new ≡ laid stride (shown_rows p c) old)
  pub narrow : stride < (window_of p c).width → (status ≡ number_of NoRoom) × (new ≡ old)
  pub short : length old < plane_room p c stride → (status ≡ number_of NoRoom) × (new ≡ old)

-- the picture that was taken last is copied, if there is one
abbrev pub IsI420Copied : Option Picture → (old : List ℕ) → (status : ℕ) → (new : List ℕ) → Type 0
IsI420Copied None old status new = (status ≡ number_of NoPicture) × (new ≡ old)
IsI420Copied (Some p) old status new = IsI420Written p old status new

-- a plane of it, if there is one of this number
abbrev pub IsPlaneCopied : Option Picture → (plane : ℕ) → (old : List ℕ) → (stride status : ℕ) →
    (new : List ℕ) → Type 0
IsPlaneCopied None plane old stride status new = (status ≡ number_of NoPicture) × (new ≡ old)
IsPlaneCopied (Some p) plane old stride status new = elim (component_of plane) [
  | None ↦ (status ≡ number_of NoPlane) × (new ≡ old)
  | Some c ↦ IsComponentWritten p c old stride status new
]

-- A plane that C reads where it lies.
use Rattle.std.specs.Prelude.{◌≡◌, ℕ, List, length, Option, Some, None}
use Rattle.std.specs.Borrow.{Bor}
use Rattle.std.specs.Ptr.{as_ptr}
use Rattle.avc_types.specs.declared.picture.Picture.{Picture}
use Rattle.avc_plane.specs.Shown.{IsLent}
use Rattle.avc_plane.specs.declared.component.Component.{Component}
use Rattle.avc_yuv.specs.Copying.{window_of}
use Rattle.avc_c_picture.specs.Copies.{component_of}
use Rattle.avc_c_picture.specs.Statuses.{number_of}
use Rattle.avc_c_picture.specs.declared.rows.LentRows.{LentRows}
use Rattle.avc_c_picture.specs.declared.status.Status.TheVariants.{Ok, NoPicture, NoPlane}

-- C is told where this slice lies. In it the sample in column x and row y of what is shown stands
-- behind y * stride + x others; `columns` and `rows` say how many are shown.
pub record IsTold (p : Picture) (c : Component) (slice : Bor (List ℕ))
    (told : LentRows) : Type 0 where
  pub address : told.samples ≡ as_ptr slice
  pub count : told.length ≡ length slice.now
  pub samples : IsLent p c slice.now told.stride
  pub columns : told.columns ≡ (window_of p c).width
  pub rows : told.rows ≡ (window_of p c).height

-- A slice of a component's samples is lent, and C is told where it lies.
abbrev pub IsComponentLent : Picture → Component → LentRows → Type 0
IsComponentLent p c told = (slice : Bor (List ℕ)) × IsTold p c slice told

-- a plane of the picture that was taken last is lent, if there is one of this number
abbrev pub IsPlaneLent : Option Picture → (plane : ℕ) → (old : LentRows) → (status : ℕ) →
    (new : LentRows) → Type 0
IsPlaneLent None plane old status new = (status ≡ number_of NoPicture) × (new ≡ old)
IsPlaneLent (Some p) plane old status new = elim (component_of plane) [
  | None ↦ (status ≡ number_of NoPlane) × (new ≡ old)
  | Some c ↦ (status ≡ number_of Ok) × IsComponentLent p c new
]

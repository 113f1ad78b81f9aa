-- The memory of pictures that are over, in which later ones are decoded.
use Rattle.std.specs.Prelude.{◌≡◌, ◌⊎◌, ℕ, ◌+◌, Option, Some, None, Result, Ok, Err}
use Rattle.avc_plane.specs.Planes.{Planes}
use Rattle.avc_plane.specs.Spare.{Spare, no_spare, with_closed, with_open, left_over, HasOpen}
use Rattle.avc_plane.specs.declared.frame.PaddedPlanes.{PaddedPlanes}
use Rattle.avc_types.specs.declared.fault.Fault.{Fault}
use Rattle.avc_types.specs.declared.memory.OutOfMemory.{OutOfMemory}

-- The planes that are left over, and the rows of info of one picture, if there are such: how many
-- macroblocks they are wide.
pub record MemoryState : Type 0 where
  pub planes : Spare
  pub info_width : Option ℕ

-- before any picture is over
abbrev pub no_memory : MemoryState
no_memory = record { planes = no_spare; info_width = None }

-- with closed planes more
abbrev pub with_closed_planes : Planes → MemoryState → MemoryState
with_closed_planes p m = record m { planes = with_closed p m.planes }

-- with these open planes
abbrev pub with_open_planes : Planes → MemoryState → MemoryState
with_open_planes p m = record m { planes = with_open p m.planes }

-- with rows of info of this width in macroblocks
abbrev pub with_info : (width : ℕ) → MemoryState → MemoryState
with_info width m = record m { info_width = Some width }

-- without rows of info
abbrev pub without_info : MemoryState → MemoryState
without_info m = record m { info_width = None }

-- All that a picture of this size in macroblocks is decoded in is left over.
pub record HasMemoryFor (width height : ℕ) (m : MemoryState) : Type 0 where
  pub open_planes : HasOpen width height m.planes
  pub info : m.info_width ≡ Some width

-- So many of the planes of this size that were left over are used, all others of it are left over
-- still, and the rows of info are taken.
pub record AreTaken (used width height : ℕ) (old new : MemoryState) : Type 0 where
  pub planes : left_over width height old.planes ≡ left_over width height new.planes + used
  pub info : new.info_width ≡ None

-- Nothing of this size that was left over is lost.
pub record LosesNone (width height : ℕ) (old new : MemoryState) : Type 0 where
  pub planes : left_over width height old.planes ≡ left_over width height new.planes
  pub info : old.info_width ≡ Some width → new.info_width ≡ Some width

-- A picture of this size was to begin: it uses planes that were left over or new ones, and where
-- memory is refused, all that is left over of its size stays.
abbrev pub TakesMemory : {P : Type 0} → (width height : ℕ) → MemoryState → Result P OutOfMemory →
    MemoryState → Type 0
TakesMemory width height old (Ok picture) new =
    AreTaken 0 width height old new ⊎ AreTaken 1 width height old new
TakesMemory width height old (Err refusal) new = LosesNone width height old new

-- A picture of this size is over and became no frame: all that it was decoded in is left over.
pub record LeavesAll (width height : ℕ) (old new : MemoryState) : Type 0 where
  pub memory : HasMemoryFor width height new
  pub closed : (new.planes).closed ≡ (old.planes).closed

-- A picture of this size was closed: its rows of info are left over, and its planes too where it
-- became no frame.
abbrev pub LeavesMemory : {PAD : ℕ} → (width height : ℕ) → MemoryState →
    Result (PaddedPlanes PAD) Fault → MemoryState → Type 0
LeavesMemory width height old (Ok planes) new = new ≡ with_info width old
LeavesMemory width height old (Err fault) new = LeavesAll width height old new

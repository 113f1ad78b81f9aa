-- The memory of pictures that are over, as the stream keeps it.
use Rattle.std.specs.Prelude.{◌≡◌, ◌⊎◌, ℕ, ◌+◌, ◌≤◌, List, ◌++◌, Option, Some, None, IfSome}
use Rattle.avc_params.specs.Limits.{width_in_mbs, height_in_mbs}
use Rattle.avc_params.specs.Tables.{sets_after}
use Rattle.avc_plane.specs.Planes.{Planes}
use Rattle.avc_plane.specs.Spare.{left_over}
use Rattle.avc_slice.specs.declared.slice.Slice.{Slice}
use Rattle.avc_picture.specs.Memory.{MemoryState, with_info, LeavesAll}
use Rattle.avc_decoder.specs.Events.{sets_named}
use Rattle.avc_decoder.specs.States.{current_in}
use Rattle.avc_decoder.specs.declared.phase.CurrentPicture.{CurrentPicture}
use Rattle.avc_decoder.specs.declared.stream.Stream.{Stream}

-- with these closed planes behind the others
abbrev pub with_all_closed : List (Option Planes) → MemoryState → MemoryState
with_all_closed more m =
    record m { planes = record m.planes { closed = (m.planes).closed ++ more } }

-- Closed planes came to the others, as many as found room, and nothing that was left over is lost.
pub record AddsClosed (old new : MemoryState) : Type 0 where
  pub more : List (Option Planes)
  pub is : new ≡ with_all_closed more old

-- The open picture is over, and all that it was decoded in is left over; where none is open the
-- memory stays.
abbrev pub LeavesCurrent : Option CurrentPicture → (old new : MemoryState) → Type 0
LeavesCurrent None old new = new ≡ old
LeavesCurrent (Some c) old new =
    LeavesAll (width_in_mbs (c.decoder).sps) (height_in_mbs (c.decoder).sps) old new

-- the stream's
abbrev pub LeavesOpenPicture : (old new : Stream) → Type 0
LeavesOpenPicture old new = LeavesCurrent (current_in old.phase) old.memory new.memory

-- The open picture was closed: its rows of info are left over, and all that it was decoded in where
-- it became no frame. Where none is open the memory stays.
abbrev pub ClosesCurrent : Option CurrentPicture → (old new : MemoryState) → Type 0
ClosesCurrent None old new = new ≡ old
ClosesCurrent (Some c) old new =
    (new ≡ with_info (width_in_mbs (c.decoder).sps) old) ⊎ LeavesCurrent (Some c) old new

-- The memory stays, or at a fault the open picture is over and all that it was decoded in is left
-- over.
abbrev pub KeepsMemory : (old new : Stream) → Type 0
KeepsMemory old new = (new.memory ≡ old.memory) ⊎ LeavesOpenPicture old new

-- Of the planes of this size that were left over all but those of one picture at most are left over
-- still.
abbrev pub UsesOneAtMost : (width height : ℕ) → (old new : MemoryState) → Type 0
UsesOneAtMost width height old new =
    left_over width height old.planes ≤ left_over width height new.planes + 1

-- the stream does so where a picture is to begin with this slice, for the size of that picture
abbrev pub UsesOneForFirst : Stream → Slice → Stream → Type 0
UsesOneForFirst old slice new =
    IfSome (sets_named (sets_after old.table) slice.header)
    (λ named. UsesOneAtMost (width_in_mbs named.1) (height_in_mbs named.1) old.memory new.memory)

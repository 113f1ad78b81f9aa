-- The open picture, and the first fault in it in the order of checks, which is this decoder's rule.
use Rattle.std.specs.Prelude.{ℕ, zero, suc, Bool, true, false, List, [], ◌∷◌, Option, Some, None}
use Rattle.std.specs.Prelude.{Result, Ok, Err}
use Rattle.avc_types.specs.declared.fault.Fault.{Fault}
use Rattle.avc_types.specs.declared.fault.Fault.TheVariants as faults
use Rattle.avc_plane.specs.Planes.{Planes}
use Rattle.avc_params.specs.declared.sps.Sps.{Sps}
use Rattle.avc_params.specs.declared.pps.Pps.{Pps}
use Rattle.avc_slice.specs.declared.header.Header.{Header}
use Rattle.avc_slice.specs.declared.slice.Slice.{Slice}
use Rattle.avc_picture.specs.Slices.{PictureStart, Progress, progress, is_full, planes_after_slices}
use Rattle.avc_decoder_core.specs.History.{History, history_at_opening, history_after_closing}
use Rattle.avc_decoder_core.specs.History.{stored_frames}

-- The open picture: the history that it came to, its parameter sets, its last slice so far, and
-- those before that, the newest first.
pub record OpenPicture : Type 0 where
  pub before : History
  pub sps : Sps
  pub pps : Pps
  pub last : Slice
  pub earlier : List Slice

-- all slices, the newest first
abbrev pub slices_of : OpenPicture → List Slice
slices_of o = o.last ∷ o.earlier

-- the oldest of slices, the newest first
abbrev pub oldest : Slice → List Slice → Slice
oldest s [] = s
oldest s (older ∷ others) = oldest older others

-- the picture's first slice (7.4.1.2.4)
abbrev pub first_slice : OpenPicture → Slice
first_slice o = oldest o.last o.earlier

-- its header, by which the picture is numbered and marked (marking by it is this decoder's rule)
abbrev pub first_header : OpenPicture → Header
first_header o = (first_slice o).header

-- the history with the frame numbers that are missing before the picture (8.2.5.2)
abbrev pub history_at_opening_of : OpenPicture → Result History Fault
history_at_opening_of o = history_at_opening o.sps (first_header o) o.before

-- what the slices are decoded with, on that history
abbrev pub start_on : OpenPicture → History → PictureStart
start_on o history =
    record { sps = o.sps; pps = o.pps; frames = stored_frames history }

-- the slices so far, on that history
abbrev pub progress_on : OpenPicture → History → Progress
progress_on o history = progress (start_on o history) (slices_of o)

-- the planes after all slices so far, on that history (clause 8)
abbrev pub picture_planes : OpenPicture → History → Planes
picture_planes o history = planes_after_slices (start_on o history) (slices_of o)

-- the history with the picture closed, on that with the missing numbers
abbrev pub closed_history : OpenPicture → History → Result History Fault
closed_history o history =
    history_after_closing o.sps (first_header o) (first_slice o).unit (picture_planes o history)
    history

-- the fault of marking, with the last slice's unit
abbrev marking_fault : OpenPicture → Result History Fault → Option (ℕ × Fault)
marking_fault o (Ok h) = None
marking_fault o (Err f) = Some ((o.last).unit, f)

-- found at closing, with the picture's last slice: macroblocks are missing, or marking is
-- refused (this decoder's rule)
abbrev closing_fault : OpenPicture → History → Option (ℕ × Fault)
closing_fault o history =
    elim (is_full (start_on o history) (progress_on o history)) [
      | false ↦ Some ((o.last).unit, faults.MissingMacroblocks)
      | true ↦ marking_fault o (closed_history o history)
    ]

-- found once the slices so far have none: that of closing, where the picture is being closed
abbrev fault_after_slices : OpenPicture → History → (closing : Bool) → Option (ℕ × Fault)
fault_after_slices o history true = closing_fault o history
fault_after_slices o history false = None

-- found on that history: the first fault of the slices so far, or else what is found after them
-- (this decoder's rule)
abbrev fault_on : OpenPicture → (closing : Bool) → History → Option (ℕ × Fault)
fault_on o closing history =
    elim (progress_on o history).fault [
      | Some found ↦ Some found
      | None ↦ fault_after_slices o history closing
    ]

-- the fault of taking in the missing numbers, with the first slice's unit, or else what is found
-- on the history with them (this decoder's rule)
abbrev fault_from_opening : OpenPicture → (closing : Bool) → Result History Fault →
    Option (ℕ × Fault)
fault_from_opening o closing (Err f) = Some ((first_slice o).unit, f)
fault_from_opening o closing (Ok history) = fault_on o closing history

-- The first fault of the picture, with its unit; `closing` says whether it is being closed. A
-- picture has to begin with macroblock 0 (this decoder's rule).
abbrev pub first_fault : OpenPicture → (closing : Bool) → Option (ℕ × Fault)
first_fault o closing = elim (first_header o).first_mb_in_slice [
  | suc _ ↦ Some ((first_slice o).unit, faults.MissingMacroblocks)
  | zero ↦ fault_from_opening o closing (history_at_opening_of o)
]

-- The history on which the picture stands: with its missing numbers, where they could be taken in.
abbrev pub history_of : OpenPicture → History
history_of o = elim (first_header o).first_mb_in_slice [
  | suc _ ↦ o.before
  | zero ↦ elim (history_at_opening_of o) [ Err f ↦ o.before | Ok history ↦ history ]
]

-- how many macroblocks of it have been read
abbrev pub read_of : OpenPicture → ℕ
read_of o = elim (first_header o).first_mb_in_slice [
  | suc _ ↦ 0
  | zero ↦ elim (history_at_opening_of o) [ Err f ↦ 0 | Ok history ↦ (progress_on o history).read ]
]

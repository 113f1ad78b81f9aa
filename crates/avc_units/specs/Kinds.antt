-- What the functions of this crate say of one another.
use Rattle.std.specs.Prelude.{Bool, true, false, Option, None, Result}
use Rattle.std.specs.Option.{option_copied}
use Rattle.avc_types.specs.declared.fault.Fault.{Fault}
use Rattle.avc_annexb.specs.declared.unit.Unit.{Unit}
use Rattle.avc_params.specs.Tables.{Sets}
use Rattle.avc_slice.specs.declared.slice.Slice.{Slice}
use Rattle.avc_units.specs.GrouperState.{open_picture_of}
use Rattle.avc_units.specs.Grouping.{Kind, slice, partition, sps, pps, boundary, other}
use Rattle.avc_units.specs.Grouping.{OpenPictureFacts, no_effect, running_step, slice_step}
use Rattle.avc_units.specs.Grouping.{waiting_step}
use Rattle.avc_units.specs.declared.kinds.UnitKind.{UnitKind}
use Rattle.avc_units.specs.declared.kinds.UnitKind.TheVariants as kinds
use Rattle.avc_units.specs.declared.step.Step.{Step}
use Rattle.avc_units.specs.declared.step_cases.UnitContext.{UnitContext}

-- the kind of unit that the code's word stands for
abbrev pub meant : UnitKind → Kind
meant (kinds.Slice idr) = slice idr
meant kinds.Partition = partition
meant kinds.Sps = sps
meant kinds.Pps = pps
meant kinds.Boundary = boundary
meant kinds.Other = other

-- what is known of the open picture, if one is open
abbrev pub open_picture_in : UnitContext → Option OpenPictureFacts
open_picture_in b = open_picture_of b.full (option_copied b.last)

-- What a unit of this kind does, where decoding runs or waits.
abbrev pub step_by : UnitContext → Sets → Unit → Kind → Step
step_by b sets u k =
    elim b.running [
      | true ↦ running_step sets (open_picture_in b) u k
      | false ↦ waiting_step sets u k
    ]

-- A slice comes, or the fault in its header: where decoding waits it has to start it.
abbrev pub slice_or_start : (running : Bool) → Option OpenPictureFacts → (starts : Bool) →
    Result Slice Fault → Step
slice_or_start true open_picture starts read = slice_step open_picture starts read
slice_or_start false open_picture true read = slice_step None true read
slice_or_start false open_picture false read = no_effect

-- The texts of a stream's units and headers, one line each.
use Rattle.std.specs.Prelude.{ℕ, ◌+◌, ◌-◌, ◌*◌, ℤ, pos, nat_abs, Bool, true, List, [], ◌∷◌, ◌++◌}
use Rattle.std.specs.Prelude.{length, Option, Some, None, Result, Ok, Err, if◌then◌else◌, codes}
use Rattle.std.specs.List.{flat_map}
use Rattle.std.specs.Fmt.{decimal}
use Rattle.avc_types.specs.declared.fault.Fault.{Fault}
use Rattle.avc_types.specs.Faults.{number_of, name_of}
use Rattle.avc_annexb.specs.Units.{nal_ref_idc, nal_unit_type, units}
use Rattle.avc_annexb.specs.declared.unit.Unit.{Unit}
use Rattle.avc_params.specs.declared.sps.Sps.{Sps}
use Rattle.avc_params.specs.declared.pps.Pps.{Pps}
use Rattle.avc_params.specs.declared.sps.OrderCount.{OrderCount}
use Rattle.avc_params.specs.declared.sps.Cropping.{Cropping}
use Rattle.avc_params.specs.declared.sps.OrderCount.TheVariants as orders
use Rattle.avc_params.specs.Limits.{width_in_mbs, height_in_mbs, dpb_size}
use Rattle.avc_params.specs.declared.set_unit.SetFault.{SetFault}
use Rattle.avc_params.specs.Tables.{Sets}
use Rattle.avc_slice.specs.declared.header.Header.{Header}
use Rattle.avc_slice.specs.Header.{is_p, is_idr, slice_qp}
use Rattle.avc_units.specs.Bringing.{brought}
use Rattle.avc_units.specs.Grouping.{tables}
use Rattle.avc_units.specs.declared.header_reader.Brought.{Brought}
use Rattle.avc_units.specs.declared.header_reader.Brought.TheVariants.{Nothing, Set, Slice, Refused}
use Rattle.avc_units.specs.declared.set_reading.ParameterSet.{ParameterSet}
use Rattle.avc_units.specs.declared.set_reading.ParameterSet.TheVariants.{OfSequence, OfPicture}
use Rattle.avc_tools.specs.declared.unit_facts.UnitFacts.{UnitFacts}

-- the end of a line
abbrev pub newline : List ℕ
newline = 10 ∷ []

-- a space and a number
abbrev pub and_number : ℕ → List ℕ
and_number n = 32 ∷ decimal n

-- a flag as 0 or 1
abbrev pub flag_number : Bool → ℕ
flag_number b = if b then 1 else 0

-- ---- units

-- what is told of a unit: its number, the place of its first byte, how many bytes it has,
-- nal_unit_type and nal_ref_idc (7.3.1)
abbrev pub facts_of : Unit → UnitFacts
facts_of u = record {
  unit = u.index;
  first_byte = u.offset;
  bytes = u.length;
  nal_unit_type = nal_unit_type u.header;
  nal_ref_idc = nal_ref_idc u.header;
}

-- in decimal, with one space between two numbers
abbrev pub unit_line : UnitFacts → List ℕ
unit_line f =
    decimal f.unit ++ and_number f.first_byte ++ and_number f.bytes
    ++ and_number f.nal_unit_type ++ and_number f.nal_ref_idc ++ newline

-- the line of a unit, in a form of such lines
abbrev pub line_of_unit : (form : UnitFacts → List ℕ) → Unit → List ℕ
line_of_unit form u = form (facts_of u)

-- a line for each unit whose end has been seen, whatever its length
abbrev pub unit_lines_so_far : (form : UnitFacts → List ℕ) → List ℕ → (ended : Bool) → List ℕ
unit_lines_so_far form bytes ended = flat_map (line_of_unit form) (units (length bytes) bytes ended)

-- a line for each unit of the stream
abbrev pub unit_lines : List ℕ → List ℕ
unit_lines bytes = unit_lines_so_far unit_line bytes true

-- ---- headers

-- a side without what is cropped at both of its ends
abbrev cropped : Option Cropping → (Cropping → ℕ) → (size : ℕ) → ℕ
cropped None offsets size = size
cropped (Some c) offsets size = size - 2 * offsets c

-- of what is shown
abbrev pub shown_width : Sps → ℕ
shown_width s =
    cropped s.frame_cropping (λ c. c.frame_crop_left_offset + c.frame_crop_right_offset)
    (16 * width_in_mbs s)

-- the height after cropping
abbrev pub shown_height : Sps → ℕ
shown_height s =
    cropped s.frame_cropping (λ c. c.frame_crop_top_offset + c.frame_crop_bottom_offset)
    (16 * height_in_mbs s)

-- pic_order_cnt_type
abbrev pub order_type : OrderCount → ℕ
order_type (orders.Type0 log2) = 0
order_type (orders.Type1 always_zero non_ref bottom cycle) = 1
order_type orders.Type2 = 2

-- its id, profile_idc and level_idc
abbrev pub sps_identity : Sps → List ℕ
sps_identity s =
    codes " sps" ++ and_number s.seq_parameter_set_id
    ++ codes " profile" ++ and_number s.profile_idc
    ++ codes " level" ++ and_number s.level_idc

-- its width and height after cropping
abbrev pub sps_size : Sps → List ℕ
sps_size s = codes " size" ++ and_number (shown_width s) ++ codes "x" ++ decimal (shown_height s)

-- max_num_ref_frames, pic_order_cnt_type, and the size of the buffer in frames
abbrev pub sps_frames : Sps → List ℕ
sps_frames s =
    codes " refs" ++ and_number s.max_num_ref_frames
    ++ codes " poc" ++ and_number (order_type s.order_count)
    ++ codes " dpb" ++ and_number (dpb_size s)

-- a sequence parameter set
abbrev pub sps_text : Sps → List ℕ
sps_text s = sps_identity s ++ sps_size s ++ sps_frames s

-- a quantiser, which is never negative, as a number
abbrev pub qp_number : ℤ → ℕ
qp_number qp = nat_abs qp

-- its id, and that of its sequence parameter set
abbrev pub pps_identity : Pps → List ℕ
pps_identity p =
    codes " pps" ++ and_number p.pic_parameter_set_id ++ codes " sps"
    ++ and_number p.seq_parameter_set_id

-- the initial quantiser, and the default number of reference indices
abbrev pub pps_fields : Pps → List ℕ
pps_fields p =
    codes " qp" ++ and_number (qp_number (slice_qp p (pos 0)))
    ++ codes " refs" ++ and_number (p.num_ref_idx_l0_default_active_minus1 + 1)

-- deblocking_filter_control_present_flag
abbrev pub pps_control : Pps → List ℕ
pps_control p =
    codes " control" ++ and_number (flag_number p.deblocking_filter_control_present_flag)

-- constrained_intra_pred_flag
abbrev pub pps_constrained : Pps → List ℕ
pps_constrained p = codes " constrained" ++ and_number (flag_number p.constrained_intra_pred_flag)

-- both flags
abbrev pub pps_flags : Pps → List ℕ
pps_flags p = pps_control p ++ pps_constrained p

-- a picture parameter set
abbrev pub pps_text : Pps → List ℕ
pps_text p = pps_identity p ++ pps_fields p ++ pps_flags p

-- SliceQP_Y under this picture parameter set; 0 without one
abbrev pub slice_qp_under : Option Pps → Header → ℕ
slice_qp_under (Some p) h = qp_number (slice_qp p h.slice_qp_delta)
slice_qp_under None h = 0

-- P or I
abbrev pub type_name : Header → List ℕ
type_name h = if is_p h then codes "P" else codes "I"

-- first_mb_in_slice, and the type
abbrev pub slice_place : Header → List ℕ
slice_place h = codes " slice" ++ and_number h.first_mb_in_slice ++ codes " type " ++ type_name h

-- the id of its picture parameter set, and frame_num
abbrev pub slice_picture : Header → List ℕ
slice_picture h =
    codes " pps" ++ and_number h.pic_parameter_set_id ++ codes " frame" ++ and_number h.frame_num

-- SliceQP_Y, and whether it is of an IDR picture
abbrev pub slice_fields : Sets → Header → List ℕ
slice_fields sets h =
    codes " qp" ++ and_number (slice_qp_under (sets.pps h.pic_parameter_set_id) h)
    ++ codes " idr" ++ and_number (flag_number (is_idr h))

-- a slice
abbrev pub slice_text : Sets → Header → List ℕ
slice_text sets h = slice_place h ++ slice_picture h ++ slice_fields sets h

-- a refusal, by its fault's number and name
abbrev pub refused_text : Fault → List ℕ
refused_text f = codes " refused" ++ and_number (number_of f) ++ codes " " ++ name_of f

-- what was read, or why it was refused
abbrev pub read_text : {A : Type 0} → (A → List ℕ) → Result A SetFault → List ℕ
read_text text (Ok a) = text a
read_text text (Err f) = refused_text f.fault

-- a parameter set
abbrev pub set_text : ParameterSet → List ℕ
set_text (OfSequence read) = read_text sps_text read
set_text (OfPicture read) = read_text pps_text read

-- What is said of a unit that brings this, if anything is.
abbrev pub text_of : Sets → Brought → Option (List ℕ)
text_of sets Nothing = None
text_of sets (Set set) = Some (set_text set)
text_of sets (Slice header) = Some (slice_text sets header)
text_of sets (Refused fault) = Some (refused_text fault)

-- a line with the unit's number, where there is something to tell of it
abbrev pub line_of : ℕ → Option (List ℕ) → List ℕ
line_of index None = []
line_of index (Some text) = decimal index ++ text ++ newline

-- under the parameter sets in force before the unit
abbrev pub header_line : Sets → Unit → List ℕ
header_line sets u = line_of u.index (text_of sets (brought sets u))

-- the lines of these units, after those before them, in a form of such lines
abbrev pub header_lines_from : (form : Sets → Unit → List ℕ) → (before after : List Unit) → List ℕ
header_lines_from form before [] = []
header_lines_from form before (u ∷ after) =
    form (tables before) u ++ header_lines_from form (before ++ u ∷ []) after

-- a line for each parameter set and each slice whose unit's end has been seen
abbrev pub header_lines_so_far : (form : Sets → Unit → List ℕ) → List ℕ → (ended : Bool) → List ℕ
header_lines_so_far form bytes ended = header_lines_from form [] (units (length bytes) bytes ended)

-- a line for each parameter set and each slice of the stream
abbrev pub header_lines : List ℕ → List ℕ
header_lines bytes = header_lines_so_far header_line bytes true

-- The JSON of listings: an object in one line (RFC 8259) for each line of `units`, `headers` and
-- `pieces`. The members stand in the order of their names.
use Rattle.std.specs.Prelude.{ℕ, List, [], ◌++◌, Option, Some, None, Result, Ok, Err, codes}
use Rattle.serde_json.specs.Data.{Data, member, no_members, number, object, string}
use Rattle.serde_json.specs.Find.{of_integer}
use Rattle.serde_json.specs.Written.{compact_text}
use Rattle.avc_types.specs.declared.fault.Fault.{Fault}
use Rattle.avc_types.specs.Faults.{number_of, name_of}
use Rattle.avc_annexb.specs.declared.unit.Unit.{Unit}
use Rattle.avc_params.specs.Limits.{dpb_size}
use Rattle.avc_params.specs.Tables.{Sets}
use Rattle.avc_params.specs.declared.pps.Pps.{Pps}
use Rattle.avc_params.specs.declared.set_unit.SetFault.{SetFault}
use Rattle.avc_params.specs.declared.sps.Sps.{Sps}
use Rattle.avc_slice.specs.Header.{is_idr}
use Rattle.avc_slice.specs.declared.header.Header.{Header}
use Rattle.avc_units.specs.Bringing.{brought}
use Rattle.avc_units.specs.declared.header_reader.Brought.{Brought}
use Rattle.avc_units.specs.declared.header_reader.Brought.TheVariants.{Nothing, Set, Slice, Refused}
use Rattle.avc_units.specs.declared.set_reading.ParameterSet.{ParameterSet}
use Rattle.avc_units.specs.declared.set_reading.ParameterSet.TheVariants.{OfSequence, OfPicture}
use Rattle.avc_tools.specs.Lines.{flag_number, newline, order_type, shown_height, shown_width}
use Rattle.avc_tools.specs.Lines.{slice_qp_under, type_name}
use Rattle.avc_tools.specs.declared.piece_facts.PieceFacts.{PieceFacts}
use Rattle.avc_tools.specs.declared.unit_facts.UnitFacts.{UnitFacts}
use Rattle.avc_info.specs.Json.{count}

-- a value in a line of its own
abbrev pub line_of_data : Data → List ℕ
line_of_data value = compact_text value ++ newline

-- ---- units and pieces

-- of a unit
abbrev pub unit_data : UnitFacts → Data
unit_data f =
    object (member (codes "bytes") (count f.bytes)
    (member (codes "first_byte") (count f.first_byte)
    (member (codes "nal_ref_idc") (count f.nal_ref_idc)
    (member (codes "nal_unit_type") (count f.nal_unit_type)
    (member (codes "unit") (count f.unit) no_members)))))

-- its line
abbrev pub unit_json : UnitFacts → List ℕ
unit_json f = line_of_data (unit_data f)

-- of a piece
abbrev pub piece_data : PieceFacts → Data
piece_data p =
    object (member (codes "first_byte") (count p.first_byte)
    (member (codes "pictures") (count p.pictures)
    (member (codes "piece") (count p.piece)
    (member (codes "unit") (count p.unit) no_members))))

-- its line
abbrev pub piece_json : PieceFacts → List ℕ
piece_json p = line_of_data (piece_data p)

-- ---- headers

-- of a sequence parameter set: its elements, the size after cropping, and that of the buffer in
-- frames
abbrev pub sps_data : (unit : ℕ) → Sps → Data
sps_data unit s =
    object (member (codes "dpb_size") (count (dpb_size s))
    (member (codes "height") (count (shown_height s))
    (member (codes "kind") (string (codes "sps"))
    (member (codes "level_idc") (count s.level_idc)
    (member (codes "max_num_ref_frames") (count s.max_num_ref_frames)
    (member (codes "pic_order_cnt_type") (count (order_type s.order_count))
    (member (codes "profile_idc") (count s.profile_idc)
    (member (codes "seq_parameter_set_id") (count s.seq_parameter_set_id)
    (member (codes "unit") (count unit)
    (member (codes "width") (count (shown_width s)) no_members))))))))))

-- of a picture parameter set: its elements
abbrev pub pps_data : (unit : ℕ) → Pps → Data
pps_data unit p =
    object (member (codes "constrained_intra_pred_flag")
    (count (flag_number p.constrained_intra_pred_flag))
    (member (codes "deblocking_filter_control_present_flag")
    (count (flag_number p.deblocking_filter_control_present_flag))
    (member (codes "kind") (string (codes "pps"))
    (member (codes "num_ref_idx_l0_default_active_minus1")
    (count p.num_ref_idx_l0_default_active_minus1)
    (member (codes "pic_init_qp_minus26") (number (of_integer p.pic_init_qp_minus26))
    (member (codes "pic_parameter_set_id") (count p.pic_parameter_set_id)
    (member (codes "seq_parameter_set_id") (count p.seq_parameter_set_id)
    (member (codes "unit") (count unit) no_members))))))))

-- of a slice, under these parameter sets: elements of its header, IdrPicFlag (7.4.1.2.4), SliceQP_Y
-- (7.4.3) and the name of slice_type
abbrev pub slice_data : (unit : ℕ) → Sets → Header → Data
slice_data unit sets h =
    object (member (codes "IdrPicFlag") (count (flag_number (is_idr h)))
    (member (codes "SliceQPY") (count (slice_qp_under (sets.pps h.pic_parameter_set_id) h))
    (member (codes "first_mb_in_slice") (count h.first_mb_in_slice)
    (member (codes "frame_num") (count h.frame_num)
    (member (codes "kind") (string (codes "slice"))
    (member (codes "pic_parameter_set_id") (count h.pic_parameter_set_id)
    (member (codes "slice_type") (string (type_name h))
    (member (codes "unit") (count unit) no_members))))))))

-- of a unit that is refused
abbrev pub refused_data : (unit : ℕ) → Fault → Data
refused_data unit fault =
    object (member (codes "kind") (string (codes "refused"))
    (member (codes "name") (string (name_of fault))
    (member (codes "number") (count (number_of fault))
    (member (codes "unit") (count unit) no_members))))

-- what was read, or why it was refused
abbrev pub read_data : {A : Type 0} → (unit : ℕ) → (ℕ → A → Data) → Result A SetFault → Data
read_data unit told (Ok a) = told unit a
read_data unit told (Err refused) = refused_data unit refused.fault

-- a parameter set
abbrev pub set_data : (unit : ℕ) → ParameterSet → Data
set_data unit (OfSequence read) = read_data unit sps_data read
set_data unit (OfPicture read) = read_data unit pps_data read

-- what is told of a unit that brings this, if anything is
abbrev pub header_data : (unit : ℕ) → Sets → Brought → Option Data
header_data unit sets Nothing = None
header_data unit sets (Set set) = Some (set_data unit set)
header_data unit sets (Slice header) = Some (slice_data unit sets header)
header_data unit sets (Refused fault) = Some (refused_data unit fault)

-- its line
abbrev pub line_of_data_if : Option Data → List ℕ
line_of_data_if None = []
line_of_data_if (Some value) = line_of_data value

-- under the parameter sets in force before the unit
abbrev pub header_json : Sets → Unit → List ℕ
header_json sets u = line_of_data_if (header_data u.index sets (brought sets u))

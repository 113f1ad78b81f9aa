-- What a unit brings to whoever reads parameter sets and slice headers alone (7.3.1, 7.3.2, 7.3.3).
use Rattle.std.specs.Prelude.{ℕ, true, false, List, Option, Some, None, Result, Ok, Err}
use Rattle.std.specs.Prelude.{option_and_then}
use Rattle.avc_types.specs.declared.fault.Fault.{Fault}
use Rattle.avc_types.specs.declared.fault.Fault.TheVariants as faults
use Rattle.avc_annexb.specs.Units.{forbidden_zero_bit}
use Rattle.avc_annexb.specs.declared.unit.Unit.{Unit}
use Rattle.avc_params.specs.Reading.{sps_of, pps_of}
use Rattle.avc_params.specs.Tables.{Sets}
use Rattle.avc_params.specs.declared.set_unit.SetUnit.{SetUnit}
use Rattle.avc_params.specs.declared.set_unit.SetUnit.TheVariants.{OfSps, OfPps}
use Rattle.avc_params.specs.declared.sps.Sps.{Sps}
use Rattle.avc_slice.specs.Reading.{header_in_rbsp}
use Rattle.avc_slice.specs.declared.header.Header.{Header}
use Rattle.avc_units.specs.Grouping.{Kind, slice, partition, sps, pps, boundary, other, kind}
use Rattle.avc_units.specs.Grouping.{rbsp_of}
use Rattle.avc_units.specs.declared.header_reader.Brought.{Brought}
use Rattle.avc_units.specs.declared.header_reader.Brought.TheVariants.{Nothing, Set, Slice, Refused}
use Rattle.avc_units.specs.declared.set_reading.ParameterSet.{ParameterSet}
use Rattle.avc_units.specs.declared.set_reading.ParameterSet.TheVariants.{OfSequence, OfPicture}

-- the parameter set in an RBSP, or why it is refused (7.3.2.1, 7.3.2.2)
abbrev pub parameter_set : SetUnit → ParameterSet
parameter_set (OfSps rbsp) = OfSequence (sps_of rbsp)
parameter_set (OfPps rbsp) = OfPicture (pps_of rbsp)

-- a slice by its header, or why that is refused (7.3.3)
abbrev pub slice_brought : Result Header Fault → Brought
slice_brought (Ok h) = Slice h
slice_brought (Err f) = Refused f

-- By its kind and its RBSP, which a unit that is too long has not. That one is refused, and so are
-- data partitions (this decoder's rule).
abbrev pub brought_by : Sets → (header : ℕ) → Kind → Option (List ℕ) → Brought
brought_by sets header partition rbsp = Refused faults.DataPartition
brought_by sets header boundary rbsp = Nothing
brought_by sets header other rbsp = Nothing
brought_by sets header sps (Some rbsp) = Set (parameter_set (OfSps rbsp))
brought_by sets header pps (Some rbsp) = Set (parameter_set (OfPps rbsp))
brought_by sets header (slice idr) (Some rbsp) = slice_brought (header_in_rbsp header sets rbsp)
brought_by sets header _ None = Refused faults.NalTooLong

-- What a unit brings under the parameter sets in force before it. One whose forbidden_zero_bit is 1
-- is refused (this decoder's rule).
abbrev pub brought : Sets → Unit → Brought
brought sets u =
    elim (forbidden_zero_bit u.header) [
      | true ↦ Refused faults.ForbiddenBit
      | false ↦ brought_by sets u.header (kind u) (rbsp_of u)
    ]

-- what holds of the slice header that is brought
abbrev pub IfHeader : Brought → (Header → Type 0) → Type 0
IfHeader (Slice h) holds = holds h
IfHeader _ holds = Prim.Unit {0}

-- the sequence parameter set that a slice header refers to (7.4.1.2.1, 7.4.3)
abbrev pub sps_under : Sets → Header → Option Sps
sps_under sets h =
    option_and_then (λ p. sets.sps p.seq_parameter_set_id) (sets.pps h.pic_parameter_set_id)

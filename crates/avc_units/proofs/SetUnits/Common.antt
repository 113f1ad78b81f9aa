-- The names that the proofs cite of std, of the crates below and of the definitions here, passed on from one place. Declares nothing.
pub use Rattle.std.proofs.Common.{◌≡◌, ◌+◌, ◌<◌, ◌≤◌, ℕ, zero, suc, Bool, true, false, cond, List, [], ◌∷◌, ◌++◌, map, Option, All, Some, None, filter, refl}
pub use Rattle.std.proofs.Common.{ap, sym, ◌∙◌, append_assoc, append-nil, ◌⊎◌, arith, length, nat_le, nat_lt, ◌&&◌, Result, Ok, Err, IfOk, OnErr, OnOk, is_some, ◌==◌}
pub use Rattle.std.proofs.Common.{if◌then◌else◌, IsTrue, slice_get, length-append}
pub use Rattle.std.proofs.Math.Path.{fun_ext, subst}
pub use Rattle.std.proofs.lemmas.Bool.{eqb-true, le-leb, lt-leb}
pub use Rattle.std.proofs.lemmas.Bool.Decides.{nat_tests}
pub use Rattle.std.proofs.lemmas.List.Elements.{filter-append, filter_passes, All-head, All-tail, All-nil, All-append, All-weaker, All-cons, All-filter}
pub use Rattle.std.proofs.lemmas.Option.{none-some, slice_get-get_or}
pub use Rattle.std.specs.List.{flat_map, range_with_len}
pub use Rattle.std.specs.Option.{option_map}
pub use Rattle.avc_annexb.specs.Escapes.{rbsp}
pub use Rattle.avc_annexb.specs.Units.{forbidden_zero_bit, nal_unit_type}
pub use Rattle.avc_annexb.specs.declared.unit.Unit.{Unit}
pub use Rattle.avc_bits.specs.Bits.{start}
pub use Rattle.avc_bits.specs.Codes.{ue}
pub use Rattle.avc_params.specs.Reading.{pps_of, sps_of, pps_id, sps_id}
pub use Rattle.avc_params.specs.Tables.{last, refused, Sets, accepted, is_id, is_pps, is_sps, pps_in_force, pps_record, sets_after, sps_in_force, sps_record}
pub use Rattle.avc_params.specs.Within.{PpsInForceKeepsLimits, SpsInForceKeepsLimits}
pub use Rattle.avc_params.specs.declared.set_unit.SetFault.{SetFault}
pub use Rattle.avc_params.specs.declared.set_unit.SetUnit.{SetUnit}
pub use Rattle.avc_params.specs.declared.set_unit.SetUnit.TheVariants.{OfPps, OfSps}
pub use Rattle.avc_slice.specs.Begins.{begins}
pub use Rattle.avc_slice.specs.Reading.{header_in_rbsp}
pub use Rattle.avc_slice.specs.declared.header.Header.{Header}
pub use Rattle.avc_slice.specs.declared.slice.Slice.{Slice}
pub use Rattle.avc_types.specs.declared.fault.Fault.{Fault}
pub use Rattle.avc_types.specs.declared.memory.OutOfMemory.{OutOfMemory}
pub use Rattle.avc_units.specs.Bringing.{IfHeader, brought, brought_by, parameter_set, slice_brought}
pub use Rattle.avc_units.specs.GrouperState.{IfSlice, IsSliceUnder}
pub use Rattle.avc_units.specs.Grouping.{is_read, MayWantMemory}
pub use Rattle.avc_units.specs.Grouping.{list_of, set_unit, set_units, ends_picture, fault_in, pps, rbsp_of, refusal_of, set_fault, sps, Kind, kind, set_of}
pub use Rattle.avc_units.specs.Grouping.{step, tables, slice, partition, boundary, OpenPictureFacts, is_start, kind_of, reads_zero, readable, running_step}
pub use Rattle.avc_units.specs.Grouping.{slice_in, slice_step, unreadable, waiting_step, with_header}
pub use Rattle.avc_units.specs.Kinds.{meant, slice_or_start, open_picture_in, step_by}
pub use Rattle.avc_units.specs.declared.step_cases.UnitContext.{UnitContext}
pub use Rattle.avc_units.specs.Laws.{IsSetOf, SetsAreInForceAgain, SetsComeAlike, SetsInForceAreUnits, SetsInForceAreFew}
pub use Rattle.avc_units.specs.Resuming.{deciding_unit, satisfies, unit_list}
pub use Rattle.avc_units.specs.declared.header_reader.Brought.{Brought}
pub use Rattle.avc_units.specs.declared.kinds.UnitKind.{UnitKind}
pub use Rattle.avc_units.specs.declared.set_reading.ParameterSet.{ParameterSet}
pub use Rattle.avc_units.specs.declared.set_reading.ParameterSet.TheVariants.{OfPicture, OfSequence}
pub use Rattle.avc_units.specs.declared.step.Next.{Next}
pub use Rattle.avc_units.specs.declared.step.Next.TheVariants.{Nothing, Refusal, FaultOfOpen, FaultOfOwn, Begins, Continues}
pub use Rattle.avc_units.specs.declared.step.Step.{Step}
